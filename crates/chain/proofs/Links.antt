-- The links of a new page: what the array comes to, and that it obeys the rule of a chain. Assumes nothing.
use mathlib.Core.Path.{◌≡◌, refl, ◌∙◌, ap}
use mathlib.Core.Bool.{cond}
use mathlib.Core.List.{List, [], ◌∷◌, ◌++◌}
use Prim.Native.Nat.{ℕ, zero, suc, ◌+◌, ◌≤◌, ◌<◌, min}
use native.Mathlib.Nat.{le_of_suc-le-suc, lt_of_not-le, not-suc-le-zero}
use native.Mathlib.Numerals.{add-one}
use native.Mathlib.Decide.{dec_le}
use native.Mathlib.Omega.{arith}
use borrow.Author.Tests.{le-ltb, lt-ltb}
use lib.Dec.{ltb, leb-suc-suc}
use lib.ListN.{get_or, length, take, drop, replicate}
use Rattle.seq.specs.Ids.{none}
use Rattle.seq.specs.Seq.{level, index}
use Rattle.seq.proofs.Laws.{level_below}
use Rattle.chain.specs.declared.PagePointer.{PagePointer}
use Rattle.chain.specs.Links.{start, end, filled, linked, links_after, Follows}

-- filling keeps the length
pub filled_length : (k x : ℕ) (l : List ℕ) → length (filled k x l) ≡ length l
unfolding filled
filled_length zero x l = refl
filled_length (suc k) x [] = refl
filled_length (suc k) x (y ∷ l) = ap suc (filled_length k x l)

-- the part that is filled, and the rest as it was
pub filled_split : (k x : ℕ) (l : List ℕ) → replicate (length (take k l)) x ++ drop k l ≡ filled k x l
unfolding filled
filled_split zero x [] = refl
filled_split zero x (y ∷ l) = refl
filled_split (suc k) x [] = refl
filled_split (suc k) x (y ∷ l) = ap (λ (m : List ℕ). x ∷ m) (filled_split k x l)

-- past the end there is nothing to fill
pub filled_past : (j k x : ℕ) (l : List ℕ) → length l ≤ j → length l ≤ k → filled j x l ≡ filled k x l
unfolding filled
filled_past zero zero x l h g = refl
filled_past zero (suc k) x [] h g = refl
filled_past (suc j) zero x [] h g = refl
filled_past (suc j) (suc k) x [] h g = refl
filled_past zero (suc k) x (y ∷ l) h g = absurd (not-suc-le-zero h)
filled_past (suc j) zero x (y ∷ l) h g = absurd (not-suc-le-zero g)
filled_past (suc j) (suc k) x (y ∷ l) h g = ap (λ (m : List ℕ). x ∷ m) (filled_past j k x l (le_of_suc-le-suc h) (le_of_suc-le-suc g))

-- of nine entries no more than nine are filled
pub filled_capped : (t x : ℕ) (l : List ℕ) → length l ≡ 9 → filled (min t 8 + 1) x l ≡ filled (t + 1) x l
filled_capped t x l e = by (dec_le t 8)
  where
    by : Dec (t ≤ 8) → filled (min t 8 + 1) x l ≡ filled (t + 1) x l
    by (yes h) = let m : min t 8 ≡ t = omega arith in ap (λ (k : ℕ). filled (k + 1) x l) m
    by (no h) = let m : 8 < t = lt_of_not-le h in filled_past (min t 8 + 1) (t + 1) x l (omega arith) (omega arith)

filled_at : (k x : ℕ) (l : List ℕ) (i : ℕ) → i < length l → get_or (filled k x l) i 0 ≡ cond (ltb i k) x (get_or l i 0)
unfolding filled
filled_at zero x l i h = simp (le-ltb i 0 (omega arith))
filled_at (suc k) x [] i h = absurd (not-suc-le-zero h)
filled_at (suc k) x (y ∷ l) zero h = simp (lt-ltb 0 (suc k) (omega arith))
filled_at (suc k) x (y ∷ l) (suc i) h = simp (leb-suc-suc (suc i) k) (filled_at k x l i (le_of_suc-le-suc h))

-- nine links stay nine
pub links_nine : (q : PagePointer) (s : ℕ) → length q.header.skiplist ≡ 9 → length (links_after q s) ≡ 9
unfolding links_after linked
links_nine q s e = filled_length _ _ _ ∙ e

-- a page right behind q, with the links that the code makes, obeys the rule
pub links_follow : (count d : ℕ) (q p : PagePointer) → q.page_id < count → q.page_id < none → d ≤ q.header.length → 0 < q.header.length
    → end q ≡ start p → length q.header.skiplist ≡ 9 → p.header.skiplist ≡ links_after q (start p) → Follows count d q p
unfolding links_after linked
links_follow count d q p hi hn hl hp hm nine e = record {
  inside = hi;
  page = hn;
  long = hl;
  meets = hm;
  rule = λ i h.
      let k = level (start q) (start p) in
      let same : level (start q) (start p) ≡ index (start q) (start p) = level_below (omega arith) in
      ap (λ (l : List ℕ). get_or l i 0) e ∙ filled_at (k + 1) q.page_id q.header.skiplist i (omega arith)
      ∙ rw (add-one, same) (simp (leb-suc-suc i (index (start q) (start p))));
}
