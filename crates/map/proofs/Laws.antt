-- The laws of the page map. Allocation both ways: what is found is free and no free page lies fewer steps from the cursor; nothing
-- is found exactly if none is free. Counts, and the map at each index, after every change.
-- Assumes nothing.
use Prim.Native.Nat.{ℕ, zero, suc, ◌+◌, ◌-◌, ◌*◌, min, ◌≤◌, ◌<◌}
use mathlib.Core.Path.{◌≡◌, refl, sym, ap, ◌∙◌}
use mathlib.Core.List.{List, [], ◌∷◌, ◌++◌, append-nil}
use mathlib.Core.Bool.{Bool, true, false, cond}
use native.Mathlib.Decide.{dec_le}
use native.Mathlib.Nat.{lt_of_not-le, add-zero}
use native.Mathlib.Omega.{arith}
use lib.ListN.{length, take, drop, get_or, set, replicate, get_or-replicate, length-append, length-take, length-drop, length-set, length-replicate, get_or-append, get_or-eq_default, length-map, get_or-map}
use lib.Seq.{take_all, take_at, get_or-take, get_or-drop, take-set-lt, take-set-le, get_or-append-add}
use lib.Dec.{ltb, eqb}
use borrow.Author.Tests.{lt-ltb, le-ltb, le-leb, lt-leb, eq-eqb, ne_eqb, eqb-true, eqb-false, ltb-true, ltb-false}
use Rattle.runs.proofs.Laws.{cond_by}
use Rattle.std.specs.declared.option.Option.{Option}
use Rattle.std.specs.declared.option.Option.TheVariants.{Some, None}
use Rattle.map.specs.Map.{held, first_free, alloc_of, alloc_numbers, used_by, Allocation, leaves, allocated, beyond, steps, is_one, count_of, is_free, free_count, unheld, released, cleared}

-- one order or the other
pub split {ℓ} : {X : Type ℓ} (a b : ℕ) → (a ≤ b → X) → (b < a → X) → X
split a b f g = elim (dec_le a b) [ yes h ↦ f h | no h ↦ g (lt_of_not-le h) ]

-- ---- the first free page of a part

-- it is at most the length
pub first_le : (l : List ℕ) → first_free l ≤ length l
first_le [] = omega arith
first_le (x ∷ l) = let h = first_le l in cond_by (eqb x 0) zero (suc (first_free l)) _ refl (λ t e. omega arith) (λ t e. omega arith)

first_free_lem : (l : List ℕ) → first_free l < length l → get_or l (first_free l) 1 ≡ 0
first_free_lem [] h = absurd (omega arith)
first_free_lem (x ∷ l) h = by (eqb x 0) refl (first_free_lem l) h
  where
    by : (b : Bool) → eqb x 0 ≡ b → (first_free l < length l → get_or l (first_free l) 1 ≡ 0) → cond b zero (suc (first_free l)) < suc (length l) → get_or (x ∷ l) (cond b zero (suc (first_free l))) 1 ≡ 0
    by true t ih k = eqb-true x 0 t
    by false t ih k = ih (omega arith)

first_before : (l : List ℕ) (j : ℕ) → j < first_free l → get_or l j 1 ≡ 0 → ⊥
first_before [] j h e = absurd (omega arith)
first_before (x ∷ l) j h e = by (eqb x 0) refl (first_before l) j h e
  where
    by : (b : Bool) → eqb x 0 ≡ b → ((j : ℕ) → j < first_free l → get_or l j 1 ≡ 0 → ⊥) → (j : ℕ) → j < cond b zero (suc (first_free l)) → get_or (x ∷ l) j 1 ≡ 0 → ⊥
    by true t ih j h e = omega arith
    by false t ih zero h e = eqb-false x 0 t e
    by false t ih (suc j) h e = ih j (omega arith) e

-- past the end no page is free
pub free_within : (m : List ℕ) (j : ℕ) → get_or m j 1 ≡ 0 → j < length m
free_within m j h =
    split (length m) j (λ k. let z : ◌≡◌ {A = ℕ} 1 0 = sym (get_or-eq_default m 1 k) ∙ h in absurd (omega arith)) (λ k. k)

-- ---- counts

-- a byte counts once at most
pub one_le : (v x : ℕ) → is_one v x ≤ 1
one_le v x = by (eqb x v)
  where
    by : (b : Bool) → cond {A = ℕ} b 1 0 ≤ 1
    by true = omega arith
    by false = omega arith

-- only the byte 0 is free
pub one_free : (x : ℕ) → x ≡ 0 → is_free x ≡ 1
one_free x h = rw (eq-eqb x 0 h)

-- any other is not
pub one_not : (x : ℕ) → (x ≡ 0 → ⊥) → is_free x ≡ 0
one_not x h = rw (ne_eqb x 0 h)

-- no more than there are
pub count_le : (v : ℕ) (m : List ℕ) → count_of v m ≤ length m
count_le v [] = omega arith
count_le v (x ∷ m) = let h = count_le v m in omega (arith, one_le v x)

-- the two parts of a map
pub count_split : (v k : ℕ) (m : List ℕ) → count_of v m ≡ count_of v (take k m) + count_of v (drop k m)
count_split v zero m = omega arith
count_split v (suc k) [] = refl
count_split v (suc k) (x ∷ m) = let h = count_split v k m in omega arith

count_append : (v : ℕ) (a b : List ℕ) → count_of v (a ++ b) ≡ count_of v a + count_of v b
count_append v [] b = omega arith
count_append v (x ∷ a) b = let h = count_append v a b in omega arith

count_replicate : (v n x : ℕ) → count_of v (replicate n x) ≡ n * is_one v x
count_replicate v zero x = omega arith
count_replicate v (suc n) x = let h = count_replicate v n x in omega arith

-- a page marked: what it was goes, and what it is comes
pub count_set : (v : ℕ) (m : List ℕ) (i x : ℕ) → i < length m → count_of v (set m i x) + is_one v (get_or m i 0) ≡ count_of v m + is_one v x
count_set v [] i x h = absurd (omega arith)
count_set v (y ∷ m) zero x h = omega arith
count_set v (y ∷ m) (suc i) x h = let e = count_set v m i x (omega arith) in omega arith

-- the same among the pages below count, and at or above it nothing changes
pub below_set : (v : ℕ) (m : List ℕ) (count i x : ℕ) → i < length m → i < count
    → count_of v (take count (set m i x)) + is_one v (get_or m i 0) ≡ count_of v (take count m) + is_one v x
below_set v m count i x h k =
    let l : i < length (take count m) = simp length-take (omega arith) in
    let e = count_set v (take count m) i x l in
    rw (take-set-lt count m i x k) (rw (get_or-take count m i 0 k) at e)

-- at or above count
pub above_set : (v : ℕ) (m : List ℕ) (count i x : ℕ) → count ≤ i → count_of v (take count (set m i x)) ≡ count_of v (take count m)
above_set v m count i x h = rw (take-set-le count m i x h)

free_at : (m : List ℕ) (i : ℕ) → get_or m i 1 ≡ 0 → get_or m i 0 ≡ 0
free_at [] i h = refl
free_at (x ∷ m) zero h = h
free_at (x ∷ m) (suc i) h = free_at m i h

-- a free page is taken or held: one free page fewer
pub count_take : (m : List ℕ) (count i v : ℕ) → i < count → get_or m i 1 ≡ 0 → (v ≡ 0 → ⊥)
    → free_count (take count m) ≡ 1 + free_count (take count (set m i v))
count_take m count i v k h n =
    omega (arith, below_set 0 m count i v (free_within m i h) k, one_free (get_or m i 0) (free_at m i h), one_not v n)

-- a page that is not free is freed: one more
pub count_give : (m : List ℕ) (count i : ℕ) → i < count → i < length m → (get_or m i 0 ≡ 0 → ⊥)
    → free_count (take count (set m i 0)) ≡ 1 + free_count (take count m)
count_give m count i k l h = omega (arith, below_set 0 m count i 0 l k, one_not (get_or m i 0) h, one_free 0 refl)

-- a page that is not free is marked used or held: as many
pub count_keep : (m : List ℕ) (count i v : ℕ) → i < count → i < length m → (get_or m i 0 ≡ 0 → ⊥) → (v ≡ 0 → ⊥)
    → free_count (take count (set m i v)) ≡ free_count (take count m)
count_keep m count i v k l h n = omega (arith, below_set 0 m count i v l k, one_not (get_or m i 0) h, one_not v n)

-- no page is free exactly if the count is 0
pub count_none : (m : List ℕ) (count : ℕ) → free_count (take count m) ≡ 0 → (j : ℕ) → j < count → get_or m j 1 ≡ 0 → ⊥
count_none m count h j k e = let z : ◌≡◌ {A = ℕ} 1 0 → ⊥ = λ q. omega arith in omega (arith, count_take m count j 1 k e z)

-- a part without a free page
pub none_count : (l : List ℕ) → length l ≤ first_free l → free_count l ≡ 0
none_count [] h = refl
none_count (x ∷ l) h = by (eqb x 0) (none_count l) h
  where
    by : (b : Bool) → (length l ≤ first_free l → free_count l ≡ 0) → suc (length l) ≤ cond b zero (suc (first_free l)) → cond {A = ℕ} b 1 0 + free_count l ≡ 0
    by true ih h = absurd (omega arith)
    by false ih h = omega (arith, ih (omega arith))

some_count : (l : List ℕ) → first_free l < length l → 0 < free_count l
some_count l h =
    let z : ◌≡◌ {A = ℕ} 1 0 → ⊥ = λ q. omega arith in
    omega (arith, count_set 0 l (first_free l) 1 h, one_free (get_or l (first_free l) 0) (free_at l (first_free l) (first_free_lem l h)), one_not 1 z)

-- ---- allocation

full_not : {i : ℕ} → Some i ≡ None → ⊥
full_not h = let z : ◌≡◌ {A = ℕ} 0 1 = cc in omega arith

-- what an allocation finds: a free page below count, with no free page nearer the cursor going upward and round
pub record Found (m : List ℕ) (count cursor i : ℕ) : Type 0 where
  pub inside : i < count
  pub within : i < length m
  pub free : get_or m i 1 ≡ 0
  pub first : (j : ℕ) → j < count → steps count cursor j < steps count cursor i → get_or m j 1 ≡ 0 → ⊥

module _ (m : List ℕ) (count cursor : ℕ) where
  abbrev up : List ℕ
  up = drop cursor (take count m)

  abbrev low : List ℕ
  low = take cursor (take count m)

  -- none exactly if no page below count is free
  pub alloc_full : alloc_of m count cursor ≡ None → free_count (take count m) ≡ 0
  unfolding alloc_of
  alloc_full h =
      cond_by (ltb (first_free up) (length up)) _ _ _ h (λ t q. absurd (full_not q))
      (λ t q. cond_by (ltb (first_free low) (length low)) _ _ _ q (λ s q. absurd (full_not q))
      (λ s q. omega (arith, count_split 0 cursor (take count m), none_count up (ltb-false _ _ t), none_count low (ltb-false _ _ s))))

  -- none free: none
  pub full_alloc : free_count (take count m) ≡ 0 → alloc_of m count cursor ≡ None
  unfolding alloc_of
  full_alloc h =
      let e = count_split 0 cursor (take count m) in
      split (length up) (first_free up)
      (λ a. split (length low) (first_free low) (λ b. rw (le-ltb _ _ a, le-ltb _ _ b)) (λ b. absurd (omega (arith, some_count low b))))
      (λ a. absurd (omega (arith, some_count up a)))

-- ---- the cursor's own page, where it is free

first_here : (l : List ℕ) → get_or l 0 1 ≡ 0 → (first_free l ≡ 0) × (0 < length l)
first_here [] h = absurd (omega arith)
first_here (x ∷ l) h = (rw (eq-eqb x 0 h), omega arith)

-- it is what is found
pub alloc_here : (m : List ℕ) (count cursor : ℕ) → cursor < count → get_or m cursor 1 ≡ 0 → alloc_of m count cursor ≡ Some cursor
unfolding alloc_of
alloc_here m count cursor k h =
    let l = drop cursor (take count m) in
    let e : get_or (drop cursor (take count m)) 0 1 ≡ 0 =
    get_or-drop cursor (take count m) 0 1 ∙ ap (λ (i : ℕ). get_or (take count m) i 1) (add-zero cursor) ∙ get_or-take count m cursor 1 k ∙ h in
    let f = first_here l e in
    rw (f.0, lt-ltb 0 (length l) f.1) (ap Some (add-zero cursor))

-- some page is found exactly if one is free
pub record Finds (a : Option ℕ) : Type 0 where
  pub page : ℕ
  pub is : a ≡ Some page

-- one free: a page
pub alloc_some : (m : List ℕ) (count cursor : ℕ) → 0 < free_count (take count m) → Finds (alloc_of m count cursor)
alloc_some m count cursor h = by (alloc_of m count cursor) refl
  where
    by : (a : Option ℕ) → alloc_of m count cursor ≡ a → Finds a
    by (Some i) e = record { page = i; is = refl }
    by None e = absurd (omega (arith, alloc_full m count cursor e))

-- a page: one was free
pub some_alloc : (m : List ℕ) (count cursor i : ℕ) → alloc_of m count cursor ≡ Some i → 0 < free_count (take count m)
some_alloc m count cursor i h =
    split (free_count (take count m)) 0
    (λ k. let e : free_count (take count m) ≡ 0 = omega arith in absurd (full_not (sym h ∙ full_alloc m count cursor e))) (λ k. k)

-- with the cursor inside, what is found is free, and no free page lies nearer going upward and round
module _ (m : List ℕ) (count cursor : ℕ) (ok : cursor ≤ count) where
  at_up : (k : ℕ) → cursor + k < count → get_or (up m count cursor) k 1 ≡ get_or m (cursor + k) 1
  at_up k h = get_or-drop cursor (take count m) k 1 ∙ get_or-take count m (cursor + k) 1 h

  at_low : (k : ℕ) → k < cursor → get_or (low m count cursor) k 1 ≡ get_or m k 1
  at_low k h = get_or-take cursor (take count m) k 1 h ∙ get_or-take count m k 1 (omega arith)

  length_up : length (up m count cursor) ≡ min count (length m) - cursor
  length_up = simp (length-drop, length-take)

  length_low : length (low m count cursor) ≡ min cursor (min count (length m))
  length_low = simp length-take

  -- before the first free page from the cursor upward
  none_up : (j : ℕ) → cursor ≤ j → j < count → j - cursor < first_free (up m count cursor) → get_or m j 1 ≡ 0 → ⊥
  none_up j h k l e =
      let q : cursor + (j - cursor) ≡ j = omega arith in
      first_before (up m count cursor) (j - cursor) l (at_up (j - cursor) (omega arith) ∙ ap (λ (x : ℕ). get_or m x 1) q ∙ e)

  none_low : (j : ℕ) → j < cursor → j < first_free (low m count cursor) → get_or m j 1 ≡ 0 → ⊥
  none_low j h l e = first_before (low m count cursor) j l (at_low j h ∙ e)

  -- nothing free from the cursor up to count
  full_up : length (up m count cursor) ≤ first_free (up m count cursor) → (j : ℕ) → cursor ≤ j → j < count → get_or m j 1 ≡ 0 → ⊥
  full_up f j h k e =
      let w = free_within m j e in
      let u = length_up in
      none_up j h k (omega arith) e

  found_up : (f : ℕ) → first_free (up m count cursor) ≡ f → f < length (up m count cursor) → Found m count cursor (cursor + f)
  unfolding steps
  found_up f e h =
      let u = length_up in
      let g : cursor + f < count = omega arith in
      let z : get_or (up m count cursor) f 1 ≡ 0 =
      ap (λ (k : ℕ). get_or (up m count cursor) k 1) (sym e) ∙ first_free_lem (up m count cursor) (omega arith) in
      let o : cursor ≤ cursor + f = omega arith in
      record {
        inside = g;
        within = omega arith;
        free = sym (at_up f g) ∙ z;
        first = λ j k s q.
            split cursor j (λ w. none_up j w k (omega (arith, rw (le-leb _ _ w, le-leb _ _ o) at s)) q)
            (λ w. omega (arith, rw (lt-leb _ _ w, le-leb _ _ o) at s));
      }

  found_low : (f : ℕ) → length (up m count cursor) ≤ first_free (up m count cursor)
      → first_free (low m count cursor) ≡ f → f < length (low m count cursor) → Found m count cursor f
  unfolding steps
  found_low f full e h =
      let v = length_low in
      let g : f < cursor = omega arith in
      let z : get_or (low m count cursor) f 1 ≡ 0 =
      ap (λ (k : ℕ). get_or (low m count cursor) k 1) (sym e) ∙ first_free_lem (low m count cursor) (omega arith) in
      record {
        inside = omega arith;
        within = omega arith;
        free = sym (at_low f g) ∙ z;
        first = λ j k s q.
            split cursor j (λ w. full_up full j w k q)
            (λ w. none_low j w (omega (arith, rw (lt-leb _ _ w, lt-leb _ _ g) at s)) q);
      }

  -- what an allocation found
  pub alloc_found : (i : ℕ) → alloc_of m count cursor ≡ Some i → Found m count cursor i
  unfolding alloc_of
  alloc_found i h =
      let fu = first_free (up m count cursor) in
      let fl = first_free (low m count cursor) in
      cond_by (ltb fu (length (up m count cursor))) _ _ _ h
      (λ t q. let z : cursor + fu ≡ i = cc in rw z at (found_up fu refl (ltb-true _ _ t)))
      (λ t q. cond_by (ltb fl (length (low m count cursor))) _ _ _ q
      (λ s q. let z : fl ≡ i = cc in rw z at (found_low fl (ltb-false _ _ t) refl (ltb-true _ _ s)))
      (λ s q. let z : ◌≡◌ {A = ℕ} 0 1 = cc in absurd (omega arith)))

  -- then one page fewer is free
  pub alloc_count : (i : ℕ) → alloc_of m count cursor ≡ Some i → free_count (take count m) ≡ 1 + free_count (take count (used_by m (Some i)))
  alloc_count i h =
      let f = alloc_found i h in
      count_take m count i 1 f.inside f.free (λ q. omega arith)

-- an allocation's numbers lose nothing: it can be read back from them
abbrev found_in : List ℕ → Option ℕ
found_in l = cond (eqb (get_or l 0 0) 0) (Some (get_or l 1 0)) None

found_back : (a : Option ℕ) → found_in (alloc_numbers a) ≡ a
found_back (Some i) = refl
found_back None = refl

pub alloc_same : (a b : Option ℕ) → alloc_numbers a ≡ alloc_numbers b → a ≡ b
alloc_same a b e = sym (found_back a) ∙ ap found_in e ∙ found_back b

-- so that a promised allocation's answer is the definition's
pub allocated_answer : (m m' : List ℕ) (count cursor : ℕ) (a : Option ℕ) → leaves a m' ≡ allocated m count cursor → a ≡ alloc_of m count cursor
unfolding allocated
allocated_answer m m' count cursor a h = alloc_same a (alloc_of m count cursor) (ap (λ (x : Allocation). x.answer) h)

-- and what was found is used
pub allocated_left : (m m' : List ℕ) (count cursor : ℕ) (a : Option ℕ) → leaves a m' ≡ allocated m count cursor → m' ≡ used_by m (alloc_of m count cursor)
unfolding allocated
allocated_left m m' count cursor a h = ap (λ (x : Allocation). x.left) h

-- the map keeps its length
pub used_length : (m : List ℕ) (a : Option ℕ) → length (used_by m a) ≡ length m
used_length m (Some i) = length-set m i 1
used_length m None = refl

-- one beyond stays inside
pub beyond_inside : (count i : ℕ) → 0 < count → beyond count i < count
beyond_inside count i h =
    split count (i + 1) (λ k. rw (le-ltb (i + 1) count k) h) (λ k. rw (lt-ltb (i + 1) count k) k)

-- ---- the whole map

-- a release keeps the length, and frees what is held at each index
pub released_length : (m : List ℕ) → length (released m) ≡ length m
unfolding released
released_length m = length-map m unheld

-- held becomes free, anything else stays
pub released_at : (m : List ℕ) (i : ℕ) → get_or (released m) i 0 ≡ unheld (get_or m i 0)
unfolding released
released_at m i = get_or-map unheld m i 0

-- the pages below count, released
pub released_take : (count : ℕ) (m : List ℕ) → take count (released m) ≡ released (take count m)
unfolding released
released_take zero m = refl
released_take (suc n) [] = refl
released_take (suc n) (x ∷ m) = ap (λ (l : List ℕ). unheld x ∷ l) (released_take n m)

-- what was held is free besides
pub released_count : (m : List ℕ) → free_count (released m) ≡ free_count m + count_of held m
unfolding released
released_count [] = refl
released_count (x ∷ m) = let h = released_count m in omega (arith, one x)
  where
    one : (x : ℕ) → is_free (unheld x) ≡ is_free x + is_one held x
    one x =
        split x 2
        (λ a. split 2 x (λ b. let e : x ≡ 2 = omega arith in rw e)
        (λ b. let n : x ≡ 2 → ⊥ = λ e. omega arith in rw (ne_eqb x 2 n) (omega arith)))
        (λ b. let n : x ≡ 2 → ⊥ = λ e. omega arith in rw (ne_eqb x 2 n) (omega arith))

-- a cleared map has the length asked for
pub cleared_length : (n count : ℕ) → length (cleared n count) ≡ n
unfolding cleared
cleared_length n count = simp (length-append, length-replicate) (omega arith)

-- below count every page is free, from there on outside
pub cleared_below : (n count i d : ℕ) → i < n → i < count → get_or (cleared n count) i d ≡ 0
unfolding cleared
cleared_below n count i d h k =
    let l : i < length (replicate {A = ℕ} (min count n) 0) = simp length-replicate (omega arith) in
    get_or-append (replicate (min count n) 0) (replicate (n - min count n) 3) d i l ∙ get_or-replicate (min count n) i 0 d (omega arith)

-- outside
pub cleared_above : (n count i d : ℕ) → i < n → count ≤ i → get_or (cleared n count) i d ≡ 3
unfolding cleared
cleared_above n count i d h k =
    let c = min count n in
    let l : length (replicate {A = ℕ} c 0) + (i - c) ≡ i = simp length-replicate (omega arith) in
    ap (λ (j : ℕ). get_or (replicate c 0 ++ replicate (n - c) 3) j d) (sym l)
    ∙ get_or-append-add (replicate c 0) (replicate (n - c) 3) (i - c) d
    ∙ get_or-replicate (n - c) (i - c) 3 d (omega arith)

-- and as many free pages as lie below count
pub cleared_count : (n count : ℕ) → free_count (cleared n count) ≡ min count n
unfolding cleared
cleared_count n count =
    let k = min count n in
    count_append 0 (replicate k 0) (replicate (n - k) 3) ∙ rw (count_replicate 0 k 0, count_replicate 0 (n - k) 3) (omega arith)

-- counted below count as well
pub cleared_few : (n count : ℕ) → free_count (take count (cleared n count)) ≡ min count n
unfolding cleared
cleared_few n count =
    let c = min count n in
    let l : length (replicate {A = ℕ} c 0) ≡ c = length-replicate c 0 in
    let e : take {A = ℕ} count (replicate c 0 ++ replicate (n - c) 3) ≡ replicate c 0 =
    split count n (λ h. let q : c ≡ count = omega arith in take_at (replicate c 0) (replicate (n - c) 3) count (l ∙ q))
    (λ h.
    let z : n - c ≡ 0 = omega arith in
    let k : length (replicate {A = ℕ} c 0) ≤ count = omega arith in
    rw z (rw (append-nil (replicate {A = ℕ} c 0)) (take_all count (replicate c 0) k))) in
    ap free_count e ∙ count_replicate 0 c 0 ∙ omega arith

-- with count at or past the end the whole map is 0
pub cleared_all : (n count : ℕ) → n ≤ count → cleared n count ≡ replicate n 0
unfolding cleared
cleared_all n count h =
    let c : min count n ≡ n = omega arith in
    let z : n - n ≡ 0 = omega arith in
    rw (c, z) (append-nil (replicate {A = ℕ} n 0))
