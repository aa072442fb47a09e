-- What a turn of each loop adds, and the two parts of the map that a search looks through: what the functions' proofs cite.
-- Assumes nothing.
use Prim.Native.Nat.{ℕ, zero, suc, ◌+◌, ◌-◌, min, ◌≤◌, ◌<◌}
use mathlib.Core.Path.{◌≡◌, refl, sym, ap, ◌∙◌}
use mathlib.Core.List.{List, [], ◌∷◌, ◌++◌}
use native.Mathlib.Omega.{arith}
use lib.ListN.{length, take, drop, get_or, set, length-take, length-drop, drop_of_length-le}
use lib.Seq.{take_all, take-length}
use borrow.Author.Tests.{lt-ltb, le-ltb}
use Rattle.map.proofs.Laws.{split}
use Rattle.std.specs.Option.{unwrap_or, IfSome}
use Rattle.std.specs.declared.option.Option.{Option}
use Rattle.std.specs.declared.option.Option.TheVariants.{Some, None}
use Rattle.map.specs.Map.{used, first_free, alloc_of, leaves, allocated}

-- ---- a turn of the loops

-- what stands at the seam of a copy that has come so far
pub at_seam : (s d : List ℕ) (i : ℕ) → i ≤ length s → i < length d → get_or (take i s ++ drop i d) i 0 ≡ get_or d i 0
at_seam s d zero h k = refl
at_seam [] d (suc i) h k = absurd (omega arith)
at_seam (x ∷ s) [] (suc i) h k = absurd (omega arith)
at_seam (x ∷ s) (y ∷ d) (suc i) h k = at_seam s d i (omega arith) (omega arith)

-- ---- the two parts of the map from a cursor on

-- no more than there is
pub take_min : (k : ℕ) (l : List ℕ) → take (min k (length l)) l ≡ take k l
take_min k l =
    split k (length l) (λ h. let e : min k (length l) ≡ k = omega arith in rw e)
    (λ h. let e : min k (length l) ≡ length l = omega arith in let g : length l ≤ k = omega arith in rw (e, take-length l, take_all k l g))

drop_min : (k : ℕ) (l : List ℕ) → drop (min k (length l)) l ≡ drop k l
drop_min k l =
    split k (length l) (λ h. let e : min k (length l) ≡ k = omega arith in rw e)
    (λ h.
    let e : length l ≤ min k (length l) = omega arith in
    let g : length l ≤ k = omega arith in
    drop_of_length-le l e ∙ sym (drop_of_length-le l g))

-- the two parts that are cut, by what they are
module _ (m : List ℕ) (count cursor n c : ℕ) (en : n ≡ min count (length m)) (ec : c ≡ min cursor n) where
  all : take n m ≡ take count m
  all = rw en (take_min count m)

  all_length : n ≡ length (take count m)
  all_length = en ∙ sym (length-take count m)

  pub lower : take c (take n m) ≡ take cursor (take count m)
  lower = rw (all, ec, all_length) (take_min cursor (take count m))

  pub upper : drop c (take n m) ≡ drop cursor (take count m)
  upper = rw (all, ec, all_length) (drop_min cursor (take count m))

-- what the search finds in the two parts, in the order of its tests
module _ (m : List ℕ) (count cursor : ℕ) (low up : List ℕ) (el : low ≡ take cursor (take count m)) (eu : up ≡ drop cursor (take count m)) where
  length_up : length up ≡ min count (length m) - cursor
  length_up = rw eu (simp (length-drop, length-take) refl)

  length_low : length low ≡ min cursor (min count (length m))
  length_low = rw el (simp length-take refl)

  -- found from the cursor up
  pub find_up : (i : ℕ) → i ≡ first_free up → i < length up → Some (length low + i) ≡ alloc_of m count cursor
  unfolding alloc_of
  find_up i e h =
      let u = length_up in
      let l = length_low in
      let s : length low + i ≡ cursor + i = omega arith in
      rw (sym eu, sym e, lt-ltb _ _ h) (ap Some s)

  -- found below it, or nowhere
  pub find_low : (r : Option ℕ) → length up ≡ first_free up → unwrap_or r (length low) ≡ first_free low → IfSome r (λ i. i < length low) → r ≡ alloc_of m count cursor
  unfolding alloc_of
  find_low None p e h =
      let q : length up ≤ first_free up = omega arith in
      let s : length low ≤ first_free low = omega arith in
      rw (sym eu, sym el, le-ltb _ _ q, le-ltb _ _ s)
  find_low (Some i) p e h =
      let q : length up ≤ first_free up = omega arith in
      rw (sym eu, sym el, le-ltb _ _ q, sym e, lt-ltb _ _ h)

-- ---- an allocation, by what was found

-- a page was found
pub takes_page : (m m' : List ℕ) (count cursor i : ℕ) (a : Option ℕ) → a ≡ alloc_of m count cursor → a ≡ Some i → m' ≡ set m i used
    → leaves (Some i) m' ≡ allocated m count cursor
unfolding allocated
takes_page m m' count cursor i a e f g = rw (sym e ∙ f, g)

-- none was
pub takes_none : (m : List ℕ) (count cursor : ℕ) (a : Option ℕ) → a ≡ alloc_of m count cursor → a ≡ None → leaves a m ≡ allocated m count cursor
unfolding allocated
takes_none m count cursor a e f = rw (sym e ∙ f, f)
