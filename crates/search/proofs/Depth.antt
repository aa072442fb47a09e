-- The calls of a hunt never stand deeper in each other than page_count plus eighteen. Assumes nothing.
use mathlib.Core.Path.{◌≡◌, refl}
use mathlib.Core.Bool.{Bool, true, false, cond, ◌&&◌, ◌||◌, not}
use mathlib.Core.List.{List}
use Prim.Native.Nat.{ℕ, zero, suc, ◌+◌, ◌≤◌, ◌<◌}
use native.Mathlib.Nat.{lt_of_not-le}
use native.Mathlib.Decide.{dec_le}
use native.Mathlib.Omega.{arith}
use borrow.Author.Tests.{leb-false, ltb-false, le-leb, lt-leb, lt-ltb, le-ltb, not-true}
use lib.Dec.{eqb, leb, ltb}
use lib.ListN.{get_or}
use Rattle.seq.specs.Ids.{none}
use Rattle.seq.specs.Seq.{below, span, level}
use Rattle.seq.proofs.Laws.{level_le}
use Rattle.page.specs.declared.DataHeader.{DataHeader}
use Rattle.page.specs.Page.{Read, unreadable, readable}
use Rattle.chain.specs.Steps.{is_page}
use Rattle.state.proofs.Laws.{both}
use Rattle.search.specs.Hunt.{Hit, hit, too_left, wrong, passed_over, found_on, seen_on, seek_to_page, tries}
use Rattle.search.specs.Depth.{goes_back, back_by, pages_back, next_by, pages_under, depth}
use Rattle.search.proofs.Pages.{inside_says}
use Rattle.search.proofs.Levels.{tries_says, number_below}

-- ---- pages of an image that start from a up to, not including, b

abbrev counted : ℕ → ℕ → Read → ℕ
counted a b unreadable = 0
counted a b (readable h) = cond (leb a h.seq && ltb h.seq b) 1 0

unfoldable between : ℕ → (ℕ → Read) → ℕ → ℕ → ℕ
between zero read a b = 0
between (suc n) read a b = between n read a b + counted a b (read n)

bit : (t : Bool) → cond t 1 0 ≤ 1
bit true = omega arith
bit false = omega arith

counted_le : (a b : ℕ) (x : Read) → counted a b x ≤ 1
counted_le a b unreadable = omega arith
counted_le a b (readable h) = bit (leb a h.seq && ltb h.seq b)

between_le : (n : ℕ) (read : ℕ → Read) (a b : ℕ) → between n read a b ≤ n
unfolding between
between_le zero read a b = omega arith
between_le (suc n) read a b = omega (arith, between_le n read a b, counted_le a b (read n))

-- two parts hold no more than the whole
counted_split : (a m b : ℕ) (x : Read) → a ≤ m → m ≤ b → counted a m x + counted m b x ≤ counted a b x
counted_split a m b unreadable h k = omega arith
counted_split a m b (readable d) h k = go (dec_le m d.seq)
  where
    go : Dec (m ≤ d.seq) → cond (leb a d.seq && ltb d.seq m) 1 0 + cond (leb m d.seq && ltb d.seq b) 1 0 ≤ cond (leb a d.seq && ltb d.seq b) 1 0
    go (yes c) = rw (le-ltb d.seq m c, le-leb m d.seq c, le-leb a d.seq (omega arith)) (omega arith)
    go (no c) = let l = lt_of_not-le c in rw (lt-ltb d.seq m l, lt-leb m d.seq l, lt-ltb d.seq b (omega arith)) (omega arith)

between_split : (n : ℕ) (read : ℕ → Read) (a m b : ℕ) → a ≤ m → m ≤ b → between n read a m + between n read m b ≤ between n read a b
unfolding between
between_split zero read a m b h k = omega arith
between_split (suc n) read a m b h k = omega (arith, between_split n read a m b h k, counted_split a m b (read n) h k)

-- a page that starts at a is one
between_some : (n : ℕ) (read : ℕ → Read) (j b : ℕ) (h : DataHeader) → j < n → read j ≡ readable h → h.seq < b → 1 ≤ between n read h.seq b
unfolding between
between_some zero read j b h l r k = absurd (omega arith)
between_some (suc n) read j b h l r k = go (dec_le n j) (λ g. between_some n read j b h g r k)
  where
    go : Dec (n ≤ j) → (j < n → 1 ≤ between n read h.seq b) → 1 ≤ between n read h.seq b + counted h.seq b (read n)
    go (yes c) f = let e : n ≡ j = omega arith in rw (e, r, le-leb h.seq h.seq (omega arith), lt-ltb h.seq b k) (omega arith)
    go (no c) f = omega (arith, f (lt_of_not-le c))

-- ---- a walk back

-- by the tests of a page: either the page before it is asked, or it does not matter
asked : (a p e n : Bool) (x f : Hit) → (not a && not p && e && not n) ≡ true → cond a wrong (cond p too_left (cond e (cond n wrong x) f)) ≡ x
asked false false true false x f h = refl
asked true p e n x f h = let z : ◌≡◌ {A = ℕ} 0 1 = cc in absurd (omega arith)
asked false true e n x f h = let z : ◌≡◌ {A = ℕ} 0 1 = cc in absurd (omega arith)
asked false false false n x f h = let z : ◌≡◌ {A = ℕ} 0 1 = cc in absurd (omega arith)
asked false false true true x f h = let z : ◌≡◌ {A = ℕ} 0 1 = cc in absurd (omega arith)

unasked : (a p e n : Bool) (x y f : Hit) → (not a && not p && e && not n) ≡ false
    → cond a wrong (cond p too_left (cond e (cond n wrong x) f)) ≡ cond a wrong (cond p too_left (cond e (cond n wrong y) f))
unasked false false true false x y f h = let z : ◌≡◌ {A = ℕ} 0 1 = cc in absurd (omega arith)
unasked true p e n x y f h = refl
unasked false true e n x y f h = refl
unasked false false false n x y f h = refl
unasked false false true true x y f h = refl

-- a page is stepped back from exactly where what it says is what the page before it says
pub goes_seen : (left target limit : ℕ) (h : DataHeader) (back : ℕ → ℕ → Hit) → goes_back left target limit h ≡ true
    → seen_on left target limit h back ≡ back (get_or h.skiplist 0 0) h.seq
unfolding goes_back seen_on
goes_seen left target limit h back e =
    asked (leb limit h.seq || ltb target h.seq) (passed_over left h) (eqb h.record_boundary none) (eqb (get_or h.skiplist 0 0) none)
    (back (get_or h.skiplist 0 0) h.seq) (found_on left target limit h) e

pub stays_seen : (left target limit : ℕ) (h : DataHeader) (back other : ℕ → ℕ → Hit) → goes_back left target limit h ≡ false
    → seen_on left target limit h back ≡ seen_on left target limit h other
unfolding goes_back seen_on
stays_seen left target limit h back other e =
    unasked (leb limit h.seq || ltb target h.seq) (passed_over left h) (eqb h.record_boundary none) (eqb (get_or h.skiplist 0 0) none)
    (back (get_or h.skiplist 0 0) h.seq) (other (get_or h.skiplist 0 0) h.seq) (found_on left target limit h) e

-- a page that is stepped back from starts above left, below the limit and at or below the level's number
goes_says : (left target limit : ℕ) (h : DataHeader) → goes_back left target limit h ≡ true → (h.seq < limit) × (h.seq ≤ target) × (left < h.seq)
unfolding goes_back
goes_says left target limit h e =
    let a = both _ (not (eqb (get_or h.skiplist 0 0) none)) e in
    let b = both _ (eqb h.record_boundary none) a.0 in
    let c = both (not (leb limit h.seq || ltb target h.seq)) (not (passed_over left h)) b.0 in
    let d = neither (leb limit h.seq) (ltb target h.seq) (not-true _ c.0) in
    (leb-false limit h.seq d.0, ltb-false target h.seq d.1, leb-false h.seq left (not-true _ c.1))
  where
    neither : (a b : Bool) → (a || b) ≡ false → (a ≡ false) × (b ≡ false)
    neither true b f = let z : ◌≡◌ {A = ℕ} 0 1 = cc in absurd (omega arith)
    neither false b f = (refl, f)

module _ (count : ℕ) (read : ℕ → Read) (left target : ℕ) where
  -- such a page is one more between left and b
  back_more : (limit b id : ℕ) (x : Read) (back : ℕ → ℕ → ℕ) → id < count → read id ≡ x → ((s : ℕ) → s < limit → s ≤ target → s < b)
      → ((j s : ℕ) → s ≤ target → back j s ≤ between count read (left + 1) s) → back_by left target limit x back ≤ between count read (left + 1) b
  back_more limit b id unreadable back i r f g = omega arith
  back_more limit b id (readable h) back i r f g = go (goes_back left target limit h) refl
    where
      go : (t : Bool) → goes_back left target limit h ≡ t → cond t (suc (back (get_or h.skiplist 0 0) h.seq)) 0 ≤ between count read (left + 1) b
      go true e =
          let w = goes_says left target limit h e in
          let l = f h.seq w.0 w.1 in
          omega (arith, g (get_or h.skiplist 0 0) h.seq w.1, between_some count read id b h i r l, between_split count read (left + 1) h.seq b (omega (arith, w.2)) (omega arith))
      go false e = omega arith

  walk_few : (fuel limit id b : ℕ) → ((s : ℕ) → s < limit → s ≤ target → s < b) → pages_back count read left target fuel limit id ≤ between count read (left + 1) b
  unfolding pages_back
  walk_few zero limit id b f = omega arith
  walk_few (suc k) limit id b f = go (λ j s t. walk_few k s j s (λ u l m. l)) (is_page count id) refl
    where
      go : ((j s : ℕ) → s ≤ target → pages_back count read left target k s j ≤ between count read (left + 1) s)
          → (t : Bool) → is_page count id ≡ t → cond t (back_by left target limit (read id) (λ j s. pages_back count read left target k s j)) 0 ≤ between count read (left + 1) b
      go g true e = back_more limit b id (read id) _ (inside_says count id e) refl f g
      go g false e = omega arith

-- ---- a level and those below it

next_le : (x : Hit) (n b : ℕ) → n ≤ b → next_by x n ≤ b
next_le (hit o) n b h = omega arith
next_le too_left n b h = h
next_le wrong n b h = omega arith

module _ (count : ℕ) (read : ℕ → Read) (right : ℕ) (links : List ℕ) where
  -- each level's pages lie between its left and its number, and the next level's above that
  under_few : (i left : ℕ) → i < 9 → pages_under count read right links i left ≤ between count read (left + 1) (right + 1)
  unfolding pages_under
  under_few zero left h = go (tries left right links 0) refl
    where
      go : (t : Bool) → tries left right links 0 ≡ t → cond t (pages_back count read left (below (span 0) right) (suc right) right (get_or links 0 0)) 0 ≤ between count read (left + 1) (right + 1)
      go true e = walk_few count read left (below (span 0) right) (suc right) right (get_or links 0 0) (right + 1) (λ s l m. omega arith)
      go false e = omega arith
  under_few (suc i) left h = go (λ k. under_few i k (omega arith)) (tries left right links (suc i)) refl
    where
      go : ((k : ℕ) → pages_under count read right links i k ≤ between count read (k + 1) (right + 1)) → (t : Bool) → tries left right links (suc i) ≡ t
          → cond t (pages_back count read left (below (span (suc i)) right) (suc right) right (get_or links (suc i) 0)
          + next_by (seek_to_page count read left (below (span (suc i)) right) (suc right) right (get_or links (suc i) 0)) (pages_under count read right links i (below (span (suc i)) right + 1)))
          (pages_under count read right links i left) ≤ between count read (left + 1) (right + 1)
      go f true e =
          let w = tries_says left right links (suc i) e in
          let room = w.room in
          let low = w.low in
          let t = below (span (suc i)) right in
          let n = number_below right (suc i) h (omega arith) in
          omega (
            arith,
            walk_few count read left t (suc right) right (get_or links (suc i) 0) (t + 1) (λ s l m. omega arith),
            next_le (seek_to_page count read left t (suc right) right (get_or links (suc i) 0)) _ _ (f (t + 1)),
            between_split count read (t + 1) (t + 1 + 1) (right + 1) (omega arith) (omega arith),
            between_split count read (left + 1) (t + 1) (right + 1) (omega arith) (omega arith),
          )
      go f false e = f left

  -- the depth of a hunt's calls
  pub depth_few : (left : ℕ) → depth count read left right links ≤ count + 18
  depth_few left =
      let i = level (left + 1) right in
      omega (arith, under_few i left (omega (arith, level_le (left + 1) right)), between_le count read (left + 1) (right + 1))
