-- What calls do to the map is what they do to the owners. Assumes nothing.
use Rattle.std.specs.Prelude.{Some}
use Rattle.map.specs.Map.{released, alloc_of, unheld, cleared, used}
use Rattle.map.proofs.Laws as MapLaws
use Rattle.seq.specs.Ids.{none}
use Rattle.writer.specs.Finish.{marked}
use Prim.Native.Nat.{ℕ, zero, suc, ◌≤◌, ◌<◌}
use mathlib.Core.Path.{◌≡◌, refl, sym, ap, ◌∙◌}
use mathlib.Core.Bool.{Bool, true, false, cond}
use mathlib.Core.List.{List, [], ◌∷◌}
use native.Mathlib.Omega.{arith}
use native.Mathlib.Decide.{ℕ_discrete, dec_le}
use lib.ListN.{length, get_or, set, length-set}
use lib.Seq.{get_or-set_same, get_or-set_other}
use lib.Dec.{eqb}
use borrow.Author.Tests.{eqb-false}
use Rattle.agree.specs.View.{code, Mapped}
use Rattle.owners.specs.Moves.{give, mem_nil, mem_tail, mem?, release, release_all, start_own}
use Rattle.owners.specs.State.{link_of, attach, finished}
use Rattle.owners.specs.Store.{nil, to, pick, Owner, free, held, meta, writer, outside, file, Mem, here, there}
use Rattle.map.proofs.Laws.{alloc_found, released_length, released_at, cleared_length, cleared_below, cleared_above}

pub code_free : (o : Owner) → code o ≡ 0 → o ≡ free
code_free free e = refl
code_free held e = absurd (omega arith)
code_free meta e = absurd (omega arith)
code_free writer e = absurd (omega arith)
code_free outside e = absurd (omega arith)
code_free (file i) e = absurd (omega arith)

pub code_held : (o : Owner) → code o ≡ 2 → o ≡ held
code_held free e = absurd (omega arith)
code_held held e = refl
code_held meta e = absurd (omega arith)
code_held writer e = absurd (omega arith)
code_held outside e = absurd (omega arith)
code_held (file i) e = absurd (omega arith)

-- what is read past the end does not matter within
pub get_d_any : (l : List ℕ) (i d e : ℕ) → i < length l → get_or l i d ≡ get_or l i e
get_d_any [] i d e h = absurd (omega arith)
get_d_any (x ∷ l) zero d e h = refl
get_d_any (x ∷ l) (suc i) d e h = get_d_any l i d e (omega arith)

module _ {m : List ℕ} {N : ℕ} {own : ℕ → Owner} (mp : Mapped m N own) where
  -- an allocated page was free
  pub alloc_free : (count cursor p : ℕ) → cursor ≤ count → alloc_of m count cursor ≡ Some p → (own p ≡ free) × (p < count) × (p < N)
  alloc_free count cursor p h e =
      let f = MapLaws.alloc_found m count cursor h p e in
      let n = mp.size in
      let i : p < N = omega (arith, f.within) in
      (code_free (own p) (sym (mp.byte p i) ∙ get_d_any m p 0 1 f.within ∙ f.free), f.inside, i)

  -- a page marked
  pub mapped_give : (p v : ℕ) (o : Owner) → p < N → v ≡ code o → Mapped (set m p v) N (give own p o)
  mapped_give p v o h e =
      record {
        size = length-set m p v ∙ mp.size;
        byte = λ q k. go q k (ℕ_discrete q p);
      }
    where
      go : (q : ℕ) → q < N → (d : Dec (q ≡ p)) → get_or (set m p v) q 0 ≡ code (pick d o (own q))
      go q k (yes z) = rw z (get_or-set_same m p v 0 (omega (arith, mp.size)) ∙ e)
      go q k (no n) = get_or-set_other m p q v 0 n ∙ mp.byte q k

  -- an ownership of the same codes
  pub mapped_same : (own' : ℕ → Owner) → ((p : ℕ) → p < N → code (own' p) ≡ code (own p)) → Mapped m N own'
  mapped_same own' h = record { size = mp.size; byte = λ p k. mp.byte p k ∙ sym (h p k) }

  -- held is free once commit is done
  release_code : (o : Owner) → unheld (code o) ≡ code (release o)
  release_code free = refl
  release_code held = refl
  release_code meta = refl
  release_code writer = refl
  release_code outside = refl
  release_code (file i) = refl

  pub mapped_release : Mapped (released m) N (release_all own)
  mapped_release =
      record {
        size = MapLaws.released_length m ∙ mp.size;
        byte = λ p k. MapLaws.released_at m p ∙ ap unheld (mp.byte p k) ∙ release_code (own p);
      }

-- an ownership that is the same, page by page
pub mapped_to : {m : List ℕ} {N : ℕ} {own own' : ℕ → Owner} → ((p : ℕ) → own' p ≡ own p) → Mapped m N own → Mapped m N own'
mapped_to {own' = own'} e mp = mapped_same mp own' (λ p k. ap code (e p))

-- the writer's pages become file i's, the copied page is held
attach_code : (i : ℕ) (o : Owner) → code (attach i o) ≡ code o
attach_code i free = refl
attach_code i held = refl
attach_code i meta = refl
attach_code i writer = refl
attach_code i outside = refl
attach_code i (file j) = refl

pub mapped_finish : {m : List ℕ} {N : ℕ} {own : ℕ → Owner} (i c : ℕ) → Mapped m N own → ((c ≡ none → ⊥) → c < N) → Mapped (marked m c 2) N (finished i (link_of c) own)
unfolding link_of
mapped_finish {m} {N} {own} i c mp h = go (eqb c none) refl
  where
    all : Mapped m N (λ p. attach i (own p))
    all = mapped_same mp (λ p. attach i (own p)) (λ p k. attach_code i (own p))

    go : (t : Bool) → eqb c none ≡ t → Mapped (cond t m (set m c 2)) N (finished i (cond t nil (to c)) own)
    go true e = all
    go false e = mapped_give all c 2 held (h (eqb-false c none e)) refl

-- the map that format and mount start with
module _ (N count : ℕ) (small : count ≤ N) where
  cleared_byte : (x : ℕ) → x < N → (d : Dec (count ≤ x)) → get_or (cleared N count) x 0 ≡ code (pick d outside free)
  cleared_byte x h (no n) = MapLaws.cleared_below N count x 0 h (omega arith)
  cleared_byte x h (yes c) = MapLaws.cleared_above N count x 0 h c

  pub mapped_start : (p : ℕ) → p < N → Mapped (set (cleared N count) p used) N (start_own count p)
  mapped_start p h =
      let a : Mapped (cleared N count) N (λ x. pick (dec_le count x) outside free) = record { size = MapLaws.cleared_length N count; byte = λ x k. cleared_byte x k (dec_le count x) } in
      mapped_give a p 1 meta h refl

-- ---- bytes set, one by one

abbrev pub set_all : ℕ → List ℕ → List ℕ → List ℕ
set_all v m [] = m
set_all v m (p ∷ l) = set_all v (set m p v) l

pub all_length : (v : ℕ) (l m : List ℕ) → length (set_all v m l) ≡ length m
all_length v [] m = refl
all_length v (p ∷ l) m = all_length v l (set m p v) ∙ length-set m p v

pub all_off : (v : ℕ) (l m : List ℕ) (x : ℕ) → ¬ Mem x l → get_or (set_all v m l) x 0 ≡ get_or m x 0
all_off v [] m x n = refl
all_off v (p ∷ l) m x n = all_off v l (set m p v) x (λ k. n (there k)) ∙ get_or-set_other m p x v 0 (λ z. n (rw z here))

pub all_at : (v : ℕ) (l m : List ℕ) (x : ℕ) → Mem x l → x < length m → get_or (set_all v m l) x 0 ≡ v
all_at v [] m x k h = absurd (mem_nil k refl)
all_at v (p ∷ l) m x k h = go (mem? x l) (λ j. all_at v l (set m p v) x j (rw (length-set m p v) h))
  where
    go : Dec (Mem x l) → (Mem x l → get_or (set_all v (set m p v) l) x 0 ≡ v) → get_or (set_all v (set m p v) l) x 0 ≡ v
    go (yes j) f = f j
    go (no j) f = all_off v l (set m p v) x j ∙ first (ℕ_discrete x p)
      where
        first : Dec (x ≡ p) → get_or (set m p v) x 0 ≡ v
        first (yes z) = rw z (get_or-set_same m p v 0 (rw z at h))
        first (no z) = absurd (j (mem_tail k z))

-- an ownership in which the pages of l have the code v, and the others the code that they had
pub mapped_all : {m : List ℕ} {N : ℕ} {own : ℕ → Owner} (v : ℕ) (l : List ℕ) (own' : ℕ → Owner) → Mapped m N own → ((x : ℕ) → Mem x l → code (own' x) ≡ v)
    → ((x : ℕ) → ¬ Mem x l → code (own' x) ≡ code (own x)) → Mapped (set_all v m l) N own'
mapped_all {m} {N} v l own' mp f g = record { size = all_length v l m ∙ mp.size; byte = λ x h. go x h (mem? x l) }
  where
    go : (x : ℕ) → x < N → Dec (Mem x l) → get_or (set_all v m l) x 0 ≡ code (own' x)
    go x h (yes k) = all_at v l m x k (omega (arith, mp.size)) ∙ sym (f x k)
    go x h (no k) = all_off v l m x k ∙ mp.byte x h ∙ sym (g x k)
