-- A freshly formatted image mounts with eight empty files. Assumes nothing.
use Rattle.std.specs.Prelude.{Option, Some, None}
use mathlib.Core.Path.{◌≡◌, refl, sym, ap, ◌∙◌}
use mathlib.Core.Bool.{Bool, true, false, cond}
use mathlib.Core.Logic.{inl}
use mathlib.Core.List.{List, [], ◌∷◌, ◌++◌}
use Prim.Native.Nat.{ℕ, zero, suc, ◌*◌, ◌/◌, ◌%◌, ◌≤◌, ◌<◌}
use native.Mathlib.Decide.{ℕ_discrete}
use native.Mathlib.Nat.{mod-lt}
use native.Mathlib.Omega.{arith}
use borrow.Author.Tests.{eq-eqb}
use lib.Dec.{eqb}
use lib.ListN.{length, set, drop, replicate}
use Rattle.seq.specs.Ids.{none}
use Rattle.seq.specs.Seed.{seed_after}
use Rattle.page.specs.declared.MetaHeader.{MetaHeader}
use Rattle.page.specs.Page.{page_of, meta_of, meta_bytes}
use Rattle.page.specs.Store.{Store, erase, page_at, stored, ran, meta_store}
use Rattle.page.proofs.Laws.{stored_length, ran_length, ran_append, other_page, erased_page, every_map, Off, untouched}
use Rattle.page.proofs.Back.{erased_meta, meta_page_lem, meta_stored}
use Rattle.metalog.specs.Log.{ended, log_at, no_files}
use Rattle.metalog.specs.Batch.{batch_stores, new_meta_stores}
use Rattle.metalog.proofs.Pages.{log_page, new_log}
use Rattle.map.specs.Map.{cleared, used}
use Rattle.state.specs.declared.types.Table.{Table}
use Rattle.state.specs.declared.types.State.{State}
use Rattle.state.specs.Values.{empty_record, empty_table}
use Rattle.state.specs.Checks.{sizes}
use Rattle.state.specs.World.{World, before, after_call}
use Rattle.state.proofs.Laws.{sizes_say}
use Rattle.volume.specs.Scan.{best_of}
use Rattle.volume.specs.Format.{erased_if, erasures, first_meta, format_stores, formatted, format}
use Rattle.volume.specs.Mount.{claim, mount}
use Rattle.volume.specs.Mounted.{Wins, FileIs, FilesAre, all_pages, Mounted, finds}
use Rattle.volume.proofs.Erasures.{erased_on, erasures_above, format_stores_lem}
use Rattle.volume.proofs.Marks.{marks_say}
use Rattle.std.proofs.lemmas.Option.{same_Some}
use Rattle.volume.proofs.Loaded.{pages_empty}
use Rattle.volume.proofs.Mounts.{mount_finds}

-- ---- what the erasures leave

module _ (img : List ℕ) (p : ℕ) where
  abbrev left : ℕ → List ℕ
  left n = ran img (erasures img p n)

  left_more : (n : ℕ) → left (suc n) ≡ ran (left n) (erased_if p n (meta_of (page_of img n)))
  unfolding erasures
  left_more n = ran_append img (erasures img p n) (erased_if p n (meta_of (page_of img n)))

  -- a page's turn leaves the others
  turn_other : (n q : ℕ) (x : Option MetaHeader) → (q ≡ n → ⊥) → page_of (ran (left n) (erased_if p n x)) q ≡ page_of (left n) q
  turn_other n q x h =
      untouched (left n) q (erased_if p n x) (every_map (λ s. s ≡ erase n) (Off q) (λ s e k. h (k ∙ ap (λ (s : Store). page_at s) e)) (erased_if p n x) (erased_on p n x))

  -- no metadata header reads any more
  turn_meta : (n : ℕ) (x : Option MetaHeader) → meta_of (page_of img n) ≡ x → meta_of (page_of (ran (left n) (erased_if p n x)) n) ≡ None
  turn_meta n (Some m) e = erased_meta (left n) n
  turn_meta n None e = by (eqb n p)
    where
      by : (t : Bool) → meta_of (page_of (ran (left n) (cond t (erase n ∷ []) [])) n) ≡ None
      by true = erased_meta (left n) n
      by false = ap meta_of (erasures_above img p n n (omega arith)) ∙ e

  pub none_left : (n q : ℕ) → q < n → meta_of (page_of (left n) q) ≡ None
  none_left zero q h = absurd (omega arith)
  none_left (suc n) q h = rw (left_more n) (by (ℕ_discrete q n) (λ k. none_left n q k))
    where
      by : Dec (q ≡ n) → (q < n → meta_of (page_of (left n) q) ≡ None) → meta_of (page_of (ran (left n) (erased_if p n (meta_of (page_of img n)))) q) ≡ None
      by (yes e) ih = rw e (turn_meta n (meta_of (page_of img n)) refl)
      by (no d) ih = ap meta_of (turn_other n q (meta_of (page_of img n)) d) ∙ ih (omega arith)

  -- the allocated page is erased
  turn_own : (x : Option MetaHeader) → p < length img / 256 → page_of (ran (left p) (erased_if p p x)) p ≡ replicate 256 255
  turn_own x h = by x (erased_page (left p) p (rw (ran_length img (erasures img p p)) h))
    where
      by : (x : Option MetaHeader) → page_of (stored (left p) (erase p)) p ≡ replicate 256 255 → page_of (ran (left p) (erased_if p p x)) p ≡ replicate 256 255
      by (Some m) e = e
      by None e = rw (eq-eqb p p refl) e

  pub own_left : (n : ℕ) → p < n → p < length img / 256 → page_of (left n) p ≡ replicate 256 255
  own_left zero h i = absurd (omega arith)
  own_left (suc n) h i = rw (left_more n) (by (ℕ_discrete p n) (λ k. own_left n k i))
    where
      by : Dec (p ≡ n) → (p < n → page_of (left n) p ≡ replicate 256 255) → page_of (ran (left n) (erased_if p n (meta_of (page_of img n)))) p ≡ replicate 256 255
      by (yes e) ih = rw (sym e) (turn_own (meta_of (page_of img p)) i)
      by (no d) ih = turn_other n p (meta_of (page_of img n)) d ∙ ih (omega arith)

-- ---- the formatted image

module _ (img : List ℕ) (n p : ℕ) (whole : length img ≡ 256 * n) (inside : p < n) (few : n ≤ 1024) where
  abbrev made : List ℕ
  made = ran img (format_stores img p n)

  there : p < length img / 256
  there = omega arith

  there_left : p < length (ran img (erasures img p n)) / 256
  there_left = rw (ran_length img (erasures img p n)) there

  -- its metadata page is a new metadata page with no entries
  own_page : page_of made p ≡ page_of (ran img (new_meta_stores p (first_meta n) [])) p
  unfolding new_meta_stores batch_stores
  own_page =
      ap (λ (i : List ℕ). page_of i p) (sym (format_stores_lem img p n))
      ∙ meta_page_lem (ran img (erasures img p n)) p (first_meta n) there_left
      ∙ ap (λ (l : List ℕ). meta_bytes (first_meta n) ++ drop 12 l) (own_left img p n inside there ∙ sym (erased_page img p there))
      ∙ sym (meta_page_lem (stored img (erase p)) p (first_meta n) (rw (stored_length img (erase p)) there))

  own_log : log_at made p ≡ ended [] 0
  own_log = log_page (ran img (new_meta_stores p (first_meta n) [])) made p own_page ∙ new_log img p (first_meta n) [] there (omega arith) tt

  own_meta : meta_of (page_of made p) ≡ Some (first_meta n)
  own_meta =
      ap (λ (i : List ℕ). meta_of (page_of i p)) (sym (format_stores_lem img p n))
      ∙ meta_stored (ran img (erasures img p n)) p (first_meta n) there_left (record { count = omega arith; seq = omega arith })

  other_meta : (q : ℕ) → q < n → (q ≡ p → ⊥) → meta_of (page_of made q) ≡ None
  other_meta q h d =
      ap (λ (i : List ℕ). meta_of (page_of i q)) (sym (format_stores_lem img p n))
      ∙ ap meta_of (other_page (ran img (erasures img p n)) (meta_store p (first_meta n)) q d)
      ∙ none_left img p n q h

  only : (q : ℕ) (m : MetaHeader) → q < n → meta_of (page_of made q) ≡ Some m → (q ≡ p) × (m ≡ first_meta n)
  only q m h e = by (ℕ_discrete q p)
    where
      by : Dec (q ≡ p) → (q ≡ p) × (m ≡ first_meta n)
      by (yes k) = let z : Some m ≡ Some (first_meta n) = sym e ∙ ap (λ (q : ℕ). meta_of (page_of made q)) k ∙ own_meta in (k, same_Some m (first_meta n) z)
      by (no k) = let z : None ≡ Some m = sym (other_meta q h k) ∙ e in cc

  own_wins : Wins made n (best_of p (first_meta n))
  own_wins =
      record {
        inside = inside;
        reads = own_meta;
        some = omega arith;
        most = λ q m h e. let z = ap (λ (m : MetaHeader). m.seq) (only q m h e).1 in omega arith;
        lowest = λ q m h e. absurd (omega (arith, (only q m (omega arith) e).0));
      }

  none_pages : (k : ℕ) → all_pages made n (replicate k empty_record) ≡ []
  none_pages zero = refl
  none_pages (suc k) = rw (pages_empty made n) (none_pages k)

  empty_files : FilesAre made n no_files 0 empty_table.files
  unfolding empty_table
  empty_files =
      let e : FileIs made n none 0 0 empty_record = inl (refl, refl) in
      (e, (e, (e, (e, (e, (e, (e, (e, tt))))))))

  -- is mounted with eight empty files
  pub format_mounted : Mounted made n (best_of p (first_meta n)) empty_table.files (set (cleared n n) p used)
  unfolding empty_table claim
  format_mounted =
      let m = marks_say n n p inside (omega arith) [] (set (cleared n n) p used) tt refl in record {
        best = own_wins;
        inside = inside;
        within = omega arith;
        entries = [];
        end = 0;
        log = own_log;
        sounds = tt;
        eight = refl;
        are = empty_files;
        distinct = rw (none_pages 8) m.0;
        marks = rw (none_pages 8) m.1;
      }

-- ---- the calls

module _ (w : World) (fit : sizes (length w.image) (length w.map) ≡ true) where
  -- the page that format allocates
  abbrev pub page : ℕ
  page = seed_after w.state.seed % length w.map

  pub format_is : format w ≡ formatted w (length w.map) (seed_after w.state.seed)
  unfolding format
  format_is = rw fit

  -- a freshly formatted image mounts with eight empty files, whatever map of its length, table and state are lent
  pub format_mounts : (map : List ℕ) (t : Table) (s : State) → length map ≡ length w.map
      → let x = (after_call format w).world in
      mount (before x.image map t s) ≡ finds (before x.image map t s) (best_of page (first_meta (length w.map))) empty_table.files x.map
  unfolding formatted
  format_mounts map t s e =
      let z = sizes_say (length w.image) (length w.map) fit in
      let i : page < length w.map = mod-lt (seed_after w.state.seed) (omega (arith, z.0)) in
      let m = format_mounted w.image (length w.map) page z.2 i z.1 in
      let l : length (ran w.image (format_stores w.image page (length w.map))) ≡ length w.image = ran_length w.image (format_stores w.image page (length w.map)) in
      let made = ran w.image (format_stores w.image page (length w.map)) in
      rw format_is (mount_finds (before made map t s) (rw (l, e) fit) (best_of page (first_meta (length w.map))) empty_table.files (set (cleared (length w.map) (length w.map)) page used) (rw e m))
