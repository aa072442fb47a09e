-- What mount is made of: the scan for the best metadata page, the replay's last pages, and the claim of a walk's pages. Assumes nothing.
use Rattle.std.specs.Prelude.{Option, Some, None}
use Rattle.seq.specs.Ids as ids
use mathlib.Core.Bool.{and-eq-true_iff}
use Rattle.metalog.specs.Log.{adds, add, put, put_in, fresh, sound}
use Rattle.metalog.proofs.Table.{Sounds, replay_good, replay_ended}
use Rattle.map.specs.Map.{used}
use Rattle.volume.specs.declared.Best.{Best}
use Rattle.volume.specs.Scan.{best_of, better, scan}
use Rattle.volume.specs.Mount.{bad, good, claim}
use Rattle.chain.specs.Walk.{Each, Distinct}
use Prim.Native.Nat.{ℕ, zero, suc, ◌≤◌, ◌<◌}
use mathlib.Core.Path.{◌≡◌, refl, sym, ap, subst, ◌∙◌}
use mathlib.Core.Bool.{Bool, true, false, cond}
use mathlib.Core.Logic.{◌⊎◌, inl, inr}
use mathlib.Core.List.{List, [], ◌∷◌}
use native.Mathlib.Omega.{arith}
use native.Mathlib.Decide.{ℕ_discrete, dec_lt}
use lib.ListN.{length, get_or, set, length-set, get_or-eq_default, get_or-replicate}
use lib.Seq.{get_or-set_same, get_or-set_other}
use lib.Dec.{ltb, eqb}
use borrow.Author.Tests.{eq-eqb, eqb-true, ltb-true, ltb-false}
use Rattle.page.specs.declared.MetaHeader.{MetaHeader}
use Rattle.metalog.specs.declared.Entry.{Entry}
use Rattle.metalog.specs.declared.Files.{Files}
use Rattle.metalog.specs.Log.{Replay}
use Rattle.agree.specs.View.{view, code, Mapped}
use Rattle.agree.proofs.Keeps.{cond_by}
use Rattle.agree.proofs.Maps.{code_free, mapped_give, mapped_to}
use Rattle.agree.proofs.Pages.{clash, meta_view, view_meta}
use Rattle.owners.specs.Moves.{give, mem_nil, mem_tail, mem?, assign}
use Rattle.owners.specs.Store.{met, pick, Owner, free, file, Mem}
use Rattle.owners.proofs.Finding.{AllFree}
use Rattle.owners.proofs.Owned.{give_at, give_off}
use Rattle.owners.proofs.Tables.{pick_no}
use Rattle.page.specs.Page.{page_of, meta_of}
use Rattle.metalog.specs.Log.{replay_of}

-- ---- the scan

pub record Scanned (img : List ℕ) (n : ℕ) (b : Best) : Type 0 where
  pub low : (p q c : ℕ) (r : Replay) → p < n → view img p ≡ met q c r → (q ≤ b.seq) × (q ≡ b.seq → 0 < q → b.page ≤ p)
  pub here : 0 < b.seq → (view img b.page ≡ met b.seq b.page_count (replay_of b.page_count img b.page)) × (b.page < n)

pub scan_ok : (img : List ℕ) (n : ℕ) → Scanned img n (scan img n)
unfolding scan better
scan_ok img zero = record { low = λ p q c r h e. absurd (omega arith); here = λ h. absurd (omega arith) }
scan_ok img (suc n) = by (meta_of (page_of img n)) refl (scan img n) (scan_ok img n)
  where
    more : (b : Best) → Scanned img n b → ((q c : ℕ) (r : Replay) → view img n ≡ met q c r → q ≤ b.seq) → Scanned img (suc n) b
    more b s f =
        record {
          low = λ p q c r h e. go p q c r h e (ℕ_discrete p n);
          here = λ h. let u = s.here h in (u.0, omega (arith, u.1));
        }
      where
        go : (p q c : ℕ) (r : Replay) → p < suc n → view img p ≡ met q c r → Dec (p ≡ n) → (q ≤ b.seq) × (q ≡ b.seq → 0 < q → b.page ≤ p)
        go p q c r h e (yes z) = (f q c r (ap (view img) (sym z) ∙ e), λ y k. let u = s.here (omega arith) in omega (arith, u.1))
        go p q c r h e (no z) = s.low p q c r (omega arith) e

    new : (m : MetaHeader) → meta_of (page_of img n) ≡ Some m → (b : Best) → Scanned img n b → b.seq < m.seq → Scanned img (suc n) (best_of n m)
    new m e b s h =
        record {
          low = λ p q c r k z. go p q c r k z (ℕ_discrete p n);
          here = λ k. (meta_view img n m e, omega arith);
        }
      where
        go : (p q c : ℕ) (r : Replay) → p < suc n → view img p ≡ met q c r → Dec (p ≡ n) → (q ≤ m.seq) × (q ≡ m.seq → 0 < q → n ≤ p)
        go p q c r k z (yes y) =
            let u : met m.seq m.page_count (replay_of m.page_count img n) ≡ met q c r = sym (meta_view img n m e) ∙ ap (view img) (sym y) ∙ z in
            let v : m.seq ≡ q = cc in
            (omega arith, λ a o. omega arith)
        go p q c r k z (no y) = let u = s.low p q c r (omega arith) z in (omega (arith, u.0), λ a o. absurd (omega (arith, u.0)))

    by : (y : Option MetaHeader) → meta_of (page_of img n) ≡ y → (b : Best) → Scanned img n b → Scanned img (suc n) (better b n y)
    by None e b s = more b s (λ q c r z. let u = view_meta img n z in clash (cc u.is))
    by (Some m) e b s =
        cond_by (Scanned img (suc n)) (ltb b.seq m.seq) (best_of n m) b (λ t. new m e b s (ltb-true b.seq m.seq t))
        (λ t. more b s (λ q c r z. let u = view_meta img n z in let v : m ≡ u.header = cc u.is in let k : m.seq ≤ b.seq = ltb-false b.seq m.seq t in omega (arith, ap (λ (x : MetaHeader). x.seq) v, u.seq)))

-- ---- the last pages that a replay gives

abbrev LastOk : ℕ → ℕ → Type 0
LastOk count k = (k ≡ ids.none) ⊎ (k < count)

sound_last : (count : ℕ) (e : Entry) → sound count e ≡ true → LastOk count e.last
unfolding sound
sound_last count e h = by (eqb e.last 65535) refl ((and-eq-true_iff (ltb e.file 8) _).0 h).1
  where
    by : (c : Bool) → eqb e.last 65535 ≡ c → cond c (eqb e.first 0) (ltb e.last count) ≡ true → LastOk count e.last
    by true z k = inl (eqb-true e.last 65535 z)
    by false z k = inr (ltb-true e.last count k)

put_last : (count : ℕ) (e : Entry) (f : Files) → sound count e ≡ true → ((i : ℕ) → i < 8 → LastOk count (get_or f.last i 0)) → (i : ℕ) → i < 8 → LastOk count (get_or (put f e).last i 0)
unfolding put
put_last count e f s h i k =
    cond_by (λ (x : Files). LastOk count (get_or x.last i 0)) (ltb e.file 8) (put_in f e) f (λ t. go (ℕ_discrete i e.file) (dec_lt e.file (length f.last))) (λ t. h i k)
  where
    go : Dec (i ≡ e.file) → Dec (e.file < length f.last) → LastOk count (get_or (set f.last e.file e.last) i 0)
    go (yes z) (yes l) = subst (LastOk count) (sym (ap (λ (y : ℕ). get_or (set f.last e.file e.last) y 0) z ∙ get_or-set_same f.last e.file e.last 0 l)) (sound_last count e s)
    go (yes z) (no l) =
        subst (LastOk count)
        (sym (get_or-eq_default (set f.last e.file e.last) 0 {n = i} (rw (length-set f.last e.file e.last) (omega arith)) ∙ sym (get_or-eq_default f.last 0 {n = i} (omega arith)))) (h i k)
    go (no z) d = subst (LastOk count) (sym (get_or-set_other f.last e.file i e.last 0 z)) (h i k)

adds_last : (count : ℕ) (r : Replay) (es : List Entry) → Sounds count es → ((i : ℕ) → i < 8 → LastOk count (get_or r.files.last i 0)) → (i : ℕ) → i < 8 → LastOk count (get_or (adds count r es).files.last i 0)
adds_last count r [] s h = h
adds_last count r (e ∷ es) s h = adds_last count (add count r e) es s.1 (put_last count e r.files s.0 h)

pub replay_last : (count : ℕ) (img : List ℕ) (p : ℕ) → (replay_of count img p).ok ≡ true → (i : ℕ) → i < 8 → LastOk count (get_or (replay_of count img p).files.last i 0)
replay_last count img p e =
    let r = replay_good count img p e in
    subst (λ (x : Replay). (i : ℕ) → i < 8 → LastOk count (get_or x.files.last i 0)) (sym (replay_ended count img p r.list r.end r.is))
    (adds_last count (fresh true) r.list r.sounds (λ i h. inl (get_or-replicate {A = ℕ} 8 i 65535 0 h)))

-- ---- claiming the pages of a walk

pub record Claimed (m m' : List ℕ) (N : ℕ) (own : ℕ → Owner) (i : ℕ) (l : List ℕ) : Type 0 where
  pub were : AllFree own l
  pub are : Mapped m' N (assign own l (file i))

pub claim_sound : (l m m' : List ℕ) (N : ℕ) (own : ℕ → Owner) (i : ℕ) → Mapped m N own → ((x : ℕ) → Mem x l → x < N) → claim m l ≡ good m' → Claimed m m' N own i l
unfolding claim
claim_sound [] m m' N own i mp h e =
    let z : m ≡ m' = cc in
    record { were = λ x k. absurd (mem_nil k refl); are = subst (λ (y : List ℕ). Mapped y N (assign own [] (file i))) z (mapped_to (λ x. pick_no (mem? x []) (λ k. mem_nil k refl) (file i) (own x)) mp) }
claim_sound (p ∷ l) m m' N own i mp h e =
    by (eqb (get_or m p 0) 0) refl e
    (λ q. claim_sound l (set m p used) m' N (give own p (file i)) i (mapped_give mp p 1 (file i) (h p Mem.here) refl) (λ x k. h x (Mem.there k)) q)
  where
    by : (c : Bool) → eqb (get_or m p 0) 0 ≡ c → cond c (claim (set m p used) l) bad ≡ good m' → (claim (set m p used) l ≡ good m' → Claimed (set m p used) m' N (give own p (file i)) i l) → Claimed m m' N own i (p ∷ l)
    by false t e f = clash cc
    by true t e f =
        record {
          were = λ x k. free_at x k (ℕ_discrete x p);
          are = mapped_to (λ x. again x (mem? x (p ∷ l)) (mem? x l) (ℕ_discrete x p)) (f e).are;
        }
      where
        p_free : own p ≡ free
        p_free = code_free (own p) (sym (mp.byte p (h p Mem.here)) ∙ eqb-true (get_or m p 0) 0 t)

        free_at : (x : ℕ) → Mem x (p ∷ l) → Dec (x ≡ p) → own x ≡ free
        free_at x k (yes z) = ap own z ∙ p_free
        free_at x k (no n) = sym (give_off own p (file i) x n) ∙ (f e).were x (mem_tail k n)

        again : (x : ℕ) (d : Dec (Mem x (p ∷ l))) (d' : Dec (Mem x l)) (z : Dec (x ≡ p)) → pick d (file i) (own x) ≡ pick d' (file i) (give own p (file i) x)
        again x (yes k) (yes j) z = refl
        again x (yes k) (no j) (yes z) = sym (ap (give own p (file i)) z ∙ give_at own p (file i))
        again x (yes k) (no j) (no z) = absurd (j (mem_tail k z))
        again x (no k) (yes j) z = absurd (k (Mem.there j))
        again x (no k) (no j) (yes z) = absurd (k (rw z Mem.here))
        again x (no k) (no j) (no z) = sym (give_off own p (file i) x z)

each_mem : (P : ℕ → Type 0) (l : List ℕ) (x : ℕ) → Each P l → Mem x l → P x
each_mem P l x h k = go k h
  where
    go : {l : List ℕ} → Mem x l → Each P l → P x
    go Mem.here h = h.0
    go (Mem.there k) h = go k h.1

pub claim_complete : (l m : List ℕ) (N : ℕ) (own : ℕ → Owner) → Mapped m N own → ((x : ℕ) → Mem x l → x < N) → Distinct l → AllFree own l → (m' : List ℕ) × (claim m l ≡ good m')
unfolding claim
claim_complete [] m N own mp h d a = (m, refl)
claim_complete (p ∷ l) m N own mp h d a =
    let r = claim_complete l (set m p used) N (give own p (file 0)) (mapped_give mp p 1 (file 0) (h p Mem.here) refl) (λ x k. h x (Mem.there k)) d.1
    (λ x k. give_off own p (file 0) x (each_mem (λ k. k ≡ p → ⊥) l x d.0 k) ∙ a x (Mem.there k)) in
    let z : get_or m p 0 ≡ 0 = mp.byte p (h p Mem.here) ∙ ap code (a p Mem.here) in
    (r.0, rw (eq-eqb (get_or m p 0) 0 z) r.1)
