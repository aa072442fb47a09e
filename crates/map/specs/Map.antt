-- The page map, by document 01, leaf 4: a byte for each page, 0 free, 1 used, 2 held, 3 outside page_count.
-- Assumes nothing.
use Rattle.std.specs.Prelude.{ℕ, zero, suc, ◌+◌, ◌-◌, min, List, [], ◌∷◌, ◌++◌, map, cond, length, take, drop, set, replicate, leb, ltb, eqb}
use Rattle.std.specs.declared.option.Option.{Option}
use Rattle.std.specs.declared.option.Option.TheVariants.{Some, None}

abbrev pub free : ℕ
free = 0

abbrev pub used : ℕ
used = 1

abbrev pub held : ℕ
held = 2

abbrev pub outside : ℕ
outside = 3

-- ---- allocation

-- the index of the first free page of a part of the map, or its length
abbrev pub first_free : List ℕ → ℕ
first_free [] = zero
first_free (x ∷ m) = cond (eqb x free) zero (suc (first_free m))

-- the first free id below count from the cursor upward, and round
unfoldable pub alloc_of : List ℕ → ℕ → ℕ → Option ℕ
alloc_of m count cursor =
    let up = drop cursor (take count m) in
    let low = take cursor (take count m) in
    cond (ltb (first_free up) (length up)) (Some (cursor + first_free up))
    (cond (ltb (first_free low) (length low)) (Some (first_free low)) None)

-- an answer in document 01's numbers: 0 and the page, or 8, NoRoom
abbrev pub alloc_numbers : Option ℕ → List ℕ
alloc_numbers (Some i) = 0 ∷ i ∷ []
alloc_numbers None = 8 ∷ []

-- the map with what was allocated used
abbrev pub used_by : List ℕ → Option ℕ → List ℕ
used_by m (Some i) = set m i used
used_by m None = m

-- an allocation: its answer in numbers, and the map that it leaves
pub record Allocation : Type 0 where
  pub answer : List ℕ
  pub left : List ℕ

abbrev pub leaves : Option ℕ → List ℕ → Allocation
leaves a m = record { answer = alloc_numbers a; left = m }

unfoldable pub allocated : List ℕ → ℕ → ℕ → Allocation
allocated m count cursor = leaves (alloc_of m count cursor) (used_by m (alloc_of m count cursor))

-- one beyond an id, round
abbrev pub beyond : ℕ → ℕ → ℕ
beyond count i = cond (ltb (i + 1) count) (i + 1) 0

-- how many steps upward and round an id lies from the cursor
unfoldable pub steps : ℕ → ℕ → ℕ → ℕ
steps count cursor i = cond (leb cursor i) (i - cursor) (i + count - cursor)

-- ---- counting

-- how many bytes are v
abbrev pub is_one : ℕ → ℕ → ℕ
is_one v x = cond (eqb x v) 1 0

abbrev pub count_of : ℕ → List ℕ → ℕ
count_of v [] = zero
count_of v (x ∷ m) = is_one v x + count_of v m

-- how many pages are free
abbrev pub is_free : ℕ → ℕ
is_free x = is_one free x

abbrev pub free_count : List ℕ → ℕ
free_count m = count_of free m

-- ---- the whole map

-- a held page is free once commit is done
abbrev pub unheld : ℕ → ℕ
unheld x = cond (eqb x held) free x

unfoldable pub released : List ℕ → List ℕ
released m = map unheld m

-- the map of n bytes with every page below count free
unfoldable pub cleared : ℕ → ℕ → List ℕ
cleared n count = replicate (min count n) free ++ replicate (n - min count n) outside
