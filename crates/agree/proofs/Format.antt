-- Format of any image of bytes starts the invariant. Assumes nothing.
use Rattle.std.specs.Prelude.{Option, Some, None}
use Rattle.state.specs.Values.{settled}
use native.Mathlib.Nat.{mod-lt}
use Rattle.state.specs.World.{World, ended}
use Rattle.map.proofs.Laws.{beyond_inside}
use Rattle.page.specs.Store as stores
use Rattle.page.specs.Store.{Store, erase}
use Rattle.page.proofs.Laws.{every_append}
use Rattle.metalog.specs.Log.{fresh, no_files, replayed}
use Rattle.metalog.specs.Batch.{new_meta_stores, batch_stores}
use Rattle.metalog.proofs.Table.{new_replay}
use Rattle.metalog.proofs.Pages.{log_page}
use Rattle.volume.specs.Format.{erased_if, erasures, first_meta, formatted}
use Rattle.owners.specs.Store as StStore
use Prim.Native.Nat.{ℕ, zero, suc, ◌*◌, ◌/◌, ◌%◌, ◌≤◌, ◌<◌}
use mathlib.Core.Path.{◌≡◌, refl, sym, ap, subst, ◌∙◌}
use mathlib.Core.Bool.{true, false}
use mathlib.Core.List.{List, [], ◌∷◌, ◌++◌}
use native.Mathlib.Omega.{arith}
use native.Mathlib.Decide.{ℕ_discrete, dec_lt}
use lib.ListN.{length, drop, get_or, replicate, get_or-eq_default, get_or-replicate}
use lib.Dec.{eqb}
use borrow.Author.Tests.{eq-eqb}
use Rattle.page.specs.declared.MetaHeader.{MetaHeader}
use Rattle.metalog.specs.Log.{Replay}
use Rattle.state.specs.declared.types.FileRecord.{FileRecord}
use Rattle.agree.specs.Good.{RecordOk, Known}
use Rattle.agree.specs.Rules.{ChainOf}
use Rattle.agree.specs.View.{dat_by, seen_by, view, as_file, rec_at}
use Rattle.agree.proofs.Batches.{none_val}
use Rattle.agree.proofs.Finish.{none_shut}
use Rattle.agree.proofs.Hunts.{no_search_ok}
use Rattle.agree.proofs.Keeps.{cond_by}
use Rattle.agree.proofs.Maps.{mapped_start}
use Rattle.agree.proofs.Pages.{clash, meta_view}
use Rattle.agree.proofs.Records.{empty_gone, empty_ok, now_is, inv_is}
use Rattle.owners.specs.Moves.{NotMeta, start_own}
use Rattle.owners.specs.State.{val_in, Mounted}
use Rattle.owners.specs.Store.{met}
use Rattle.owners.proofs.Finding.{Part, Upto, upto_none, start_part, base_of, start_upto, upto_mounted}
use Rattle.owners.proofs.Tables.{inv_mount}
use Rattle.page.specs.Page.{page_of, Read, unreadable, readable, header_of, meta_of, meta_bytes, Bytes, Fits}
use Rattle.page.specs.Store.{stored, ran, meta_store}
use Rattle.page.proofs.Back.{bytes_meta, erased_meta, meta_page_lem, meta_stored}
use Rattle.page.proofs.Laws.{stored_length, other_page, erased_page, Every, every_map, ran_append, ran_length, Off, untouched, On, others, bytes_replicate, OfBytes, bytes_ran}
use Rattle.metalog.specs.Log.{replay_of}
use Rattle.state.specs.Values.{empty_record, empty_table, no_writer}

module _ (img : List ℕ) (p : ℕ) where
  -- ---- the erasures

  if_on : (n : ℕ) (m : Option MetaHeader) → Every (On n) (erased_if p n m)
  if_on n (Some m) = (refl, tt)
  if_on n None = cond_by (Every (On n)) (eqb n p) (erase n ∷ []) [] (λ e. (refl, tt)) (λ e. tt)

  on_off : (x n : ℕ) → ¬ (x ≡ n) → (s : Store) → On n s → Off x s
  on_off x n k s o z = k (z ∙ o)

  erase_off : (n x : ℕ) → n ≤ x → Every (Off x) (erasures img p n)
  unfolding erasures
  erase_off zero x h = tt
  erase_off (suc n) x h =
      every_append (Off x) (erasures img p n) (erased_if p n (meta_of (page_of img n))) (erase_off n x (omega arith))
      (every_map (On n) (Off x) (on_off x n (omega arith)) (erased_if p n (meta_of (page_of img n))) (if_on n (meta_of (page_of img n))))

  erase_bytes : (n : ℕ) → Every OfBytes (erasures img p n)
  unfolding erasures
  erase_bytes zero = tt
  erase_bytes (suc n) = every_append OfBytes (erasures img p n) (erased_if p n (meta_of (page_of img n))) (erase_bytes n) (by (meta_of (page_of img n)))
    where
      ff : Bytes (replicate 256 255)
      ff = bytes_replicate 256 255 (omega arith)

      by : (m : Option MetaHeader) → Every OfBytes (erased_if p n m)
      by (Some m) = (ff, tt)
      by None = cond_by (Every OfBytes) (eqb n p) (erase n ∷ []) [] (λ e. (ff, tt)) (λ e. tt)

  -- a page stands as it was until its turn
  erase_before : (n : ℕ) → page_of (ran img (erasures img p n)) n ≡ page_of img n
  erase_before n = untouched img n (erasures img p n) (erase_off n n (omega arith))

  one_more : (n x : ℕ) → page_of (ran img (erasures img p (suc n))) x ≡ page_of (ran (ran img (erasures img p n)) (erased_if p n (meta_of (page_of img n)))) x
  unfolding erasures
  one_more n x = ap (λ (i : List ℕ). page_of i x) (ran_append img (erasures img p n) (erased_if p n (meta_of (page_of img n))))

  one_off : (n x : ℕ) → ¬ (x ≡ n) → page_of (ran img (erasures img p (suc n))) x ≡ page_of (ran img (erasures img p n)) x
  one_off n x k = one_more n x ∙ others (ran img (erasures img p n)) n (erased_if p n (meta_of (page_of img n))) (if_on n (meta_of (page_of img n))) x k

  -- no metadata is left
  erase_meta : (n x : ℕ) → x < n → meta_of (page_of (ran img (erasures img p n)) x) ≡ None
  erase_meta zero x h = absurd (omega arith)
  erase_meta (suc n) x h = go (ℕ_discrete x n) (λ k. erase_meta n x k)
    where
      t : List ℕ
      t = ran img (erasures img p n)

      at : (m : Option MetaHeader) → meta_of (page_of img n) ≡ m → meta_of (page_of (ran (ran img (erasures img p n)) (erased_if p n m)) n) ≡ None
      at (Some m) e = erased_meta (ran img (erasures img p n)) n
      at None e =
          cond_by (λ (l : List Store). meta_of (page_of (ran (ran img (erasures img p n)) l) n) ≡ None) (eqb n p) (erase n ∷ []) []
          (λ z. erased_meta (ran img (erasures img p n)) n) (λ z. ap meta_of (erase_before n) ∙ e)

      go : Dec (x ≡ n) → (x < n → meta_of (page_of (ran img (erasures img p n)) x) ≡ None) → meta_of (page_of (ran img (erasures img p (suc n))) x) ≡ None
      go (yes z) f = subst (λ (y : ℕ). meta_of (page_of (ran img (erasures img p (suc n))) y) ≡ None) (sym z) (ap meta_of (one_more n n) ∙ at (meta_of (page_of img n)) refl)
      go (no k) f = ap meta_of (one_off n x k) ∙ f (omega arith)

  -- page p is erased
  erase_page : (n : ℕ) → p < n → p < length img / 256 → page_of (ran img (erasures img p n)) p ≡ replicate 256 255
  erase_page zero h i = absurd (omega arith)
  erase_page (suc n) h i = go (ℕ_discrete p n) (λ k. erase_page n k i)
    where
      in_n : p < length (ran img (erasures img p n)) / 256
      in_n = rw (ran_length img (erasures img p n)) i

      at : p ≡ n → (m : Option MetaHeader) → page_of (ran (ran img (erasures img p n)) (erased_if p n m)) p ≡ replicate 256 255
      at z (Some m) = subst (λ (y : ℕ). page_of (stored (ran img (erasures img p n)) (erase y)) p ≡ replicate 256 255) z (erased_page (ran img (erasures img p n)) p in_n)
      at z None =
          rw (eq-eqb n p (sym z)) (subst (λ (y : ℕ). page_of (stored (ran img (erasures img p n)) (erase y)) p ≡ replicate 256 255) z (erased_page (ran img (erasures img p n)) p in_n))

      go : Dec (p ≡ n) → (p < n → page_of (ran img (erasures img p n)) p ≡ replicate 256 255) → page_of (ran img (erasures img p (suc n))) p ≡ replicate 256 255
      go (yes z) f = one_more n p ∙ at z (meta_of (page_of img n))
      go (no k) f = one_off n p k ∙ f (omega arith)

-- ---- the formatted image

pub eight_none : {s : StStore.Store} {pc mp : ℕ} {P : Part} → Upto s pc mp (val_in no_files) 0 P → Upto s pc mp (val_in no_files) 8 P
eight_none u =
    let v = none_val in
    upto_none (upto_none (upto_none (upto_none (upto_none (upto_none (upto_none (upto_none u (v 0 (omega arith))) (v 1 (omega arith))) (v 2 (omega arith))) (v 3 (omega arith))) (v 4 (omega arith))) (v 5 (omega arith))) (v 6 (omega arith))) (v 7 (omega arith))

module _ (img : List ℕ) (n p : ℕ) (h : p < n) (size : length img ≡ 256 * n) (small : n ≤ 1024) where
  abbrev img₁ : List ℕ
  img₁ = ran img (erasures img p n)

  abbrev m : MetaHeader
  m = first_meta n

  abbrev img₂ : List ℕ
  img₂ = ran img (erasures img p n ++ stores.meta_store p (first_meta n) ∷ [])

  image_is : img₂ ≡ stored img₁ (stores.meta_store p m)
  image_is = ran_append img (erasures img p n) (stores.meta_store p m ∷ [])

  p_in : p < length img / 256
  p_in = omega arith

  p_in₁ : p < length img₁ / 256
  p_in₁ = rw (ran_length img (erasures img p n)) p_in

  off_p : (x : ℕ) → ¬ (x ≡ p) → page_of img₂ x ≡ page_of img₁ x
  off_p x k = ap (λ (i : List ℕ). page_of i x) image_is ∙ other_page img₁ (stores.meta_store p m) x k

  new_page : page_of img₂ p ≡ page_of (ran img (new_meta_stores p m [])) p
  unfolding new_meta_stores batch_stores
  new_page =
      let i : p < length (stored img (erase p)) / 256 = rw (stored_length img (erase p)) p_in in
      ap (λ (i : List ℕ). page_of i p) image_is ∙ meta_page_lem img₁ p m p_in₁
      ∙ ap (λ (l : List ℕ). meta_bytes m ++ drop 12 l) (erase_page img p n h p_in ∙ sym (erased_page img p p_in))
      ∙ sym (meta_page_lem (stored img (erase p)) p m i)

  first_fits : Fits (first_meta n)
  first_fits = record { count = omega arith; seq = omega arith }

  pub view_first : view img₂ p ≡ met 1 n (fresh true)
  unfolding replay_of
  view_first =
      meta_view img₂ p m (ap (λ (i : List ℕ). meta_of (page_of i p)) image_is ∙ meta_stored img₁ p m p_in₁ first_fits)
      ∙ ap (met 1 n) (ap (replayed n (fresh true)) (log_page (ran img (new_meta_stores p m [])) img₂ p new_page) ∙ new_replay n img p m [] p_in (omega arith) tt)

  pub not_meta : (x : ℕ) → x < n → ¬ (x ≡ p) → NotMeta (view img₂ x)
  unfolding view
  not_meta x k o = by (meta_of (page_of img₂ x)) (ap meta_of (off_p x o) ∙ erase_meta img p n x k)
    where
      data_not : (pg : List ℕ) (r : Read) → NotMeta (dat_by pg r)
      data_not pg unreadable = tt
      data_not pg (readable d) = tt

      by : (y : Option MetaHeader) → y ≡ None → NotMeta (seen_by img₂ x y)
      by (Some d) e = clash cc
      by None e = data_not (page_of img₂ x) (header_of (page_of img₂ x))

  pub format_mounted : Mounted n (view img₂) (base_of (view img₂) p 1 n (start_part n p))
  format_mounted =
      upto_mounted view_first (omega arith) h (omega arith) (λ x r c l k e. best x r c l k e (ℕ_discrete x p)) refl
      (eight_none (start_upto n p h (view img₂) (val_in no_files)))
    where
      best : (x r c : ℕ) (l : Replay) → x < n → view img₂ x ≡ met r c l → Dec (x ≡ p) → (r ≤ 1) × (r ≡ 1 → p ≤ x)
      best x r c l k e (yes z) =
          let u : met 1 n (fresh true) ≡ met r c l = sym view_first ∙ ap (view img₂) (sym z) ∙ e in
          let y : ◌≡◌ {A = ℕ} 1 r = cc in
          (omega arith, λ t. omega arith)
      best x r c l k e (no o) = let t : NotMeta (met r c l) = subst NotMeta e (not_meta x k o) in absurd t

-- ---- the table of a formatted image

pub empty_at : (i : ℕ) → rec_at empty_table i ≡ empty_record
unfolding empty_table
empty_at i = by (dec_lt i 8)
  where
    by : Dec (i < 8) → get_or (replicate 8 empty_record) i empty_record ≡ empty_record
    by (yes h) = get_or-replicate 8 i empty_record empty_record h
    by (no h) = get_or-eq_default (replicate 8 empty_record) empty_record {n = i} (omega arith)

pub empty_dirty : empty_record.dirty ≡ false
unfolding empty_record
empty_dirty = refl

empty_eight : length empty_table.files ≡ 8
unfolding empty_table
empty_eight = refl

-- FORMAT
pub format_known : (D : Type 0) (w : World) → Bytes w.image → (n seed : ℕ) → length w.map ≡ n → length w.image ≡ 256 * n → 4 ≤ n → n ≤ 1024 → Known D n (ended w (formatted w n seed)).world
unfolding formatted settled no_writer
format_known D w bs n seed maps size low high =
    let p = seed % n in
    let h : seed % n < n = mod-lt seed (omega arith) in
    let img₂ = ran w.image (erasures w.image (seed % n) n ++ stores.meta_store (seed % n) (first_meta n) ∷ []) in
    record {
      base = base_of (view img₂) p 1 n (start_part n p);
      own = start_own n p;
      good =
          record {
            sees =
                record {
                  size = ran_length w.image (erasures w.image p n ++ stores.meta_store p (first_meta n) ∷ []) ∙ size;
                  big = low;
                  small = high;
                  bytes =
                      bytes_ran w.image (erasures w.image p n ++ stores.meta_store p (first_meta n) ∷ [])
                      (every_append OfBytes (erasures w.image p n) (stores.meta_store p (first_meta n) ∷ []) (erase_bytes w.image p n) (bytes_meta (first_meta n), tt)) bs;
                  mp = refl;
                  mseq = refl;
                  pc = refl;
                  cursor = omega (arith, beyond_inside n p (omega arith));
                  flag = refl;
                  pages = refl;
                  search = no_search_ok;
                  owners = mapped_start n n (omega arith) p h;
                  eight = empty_eight;
                  recs = λ i. subst (RecordOk img₂) (sym (empty_at i)) (empty_ok img₂);
                  wr = λ e. clash cc;
                };
            inv =
                inv_is (now_is (λ i. sym (ap as_file (empty_at i) ∙ empty_gone)) (λ x. refl) (λ i. sym (ap (λ (r : FileRecord). r.dirty) (empty_at i) ∙ empty_dirty)) refl (sym none_shut))
                (inv_mount (format_mounted w.image n p h size high));
            rules = λ d. record { now = λ i. subst (ChainOf img₂ n) (sym (ap as_file (empty_at i) ∙ empty_gone)) tt; base = λ i. tt; wr = λ e. clash cc };
          };
    }
