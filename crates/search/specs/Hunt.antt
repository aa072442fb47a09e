-- Trying levels and walking back pages, by document 01, "Reading and search"; DECISIONS 23 and 24. Assumes nothing: these are definitions.
use Rattle.std.specs.Prelude.{ℕ, zero, suc, ◌+◌, Bool, cond, ◌&&◌, ◌||◌, not, List, eqb, leb, ltb, get_or}
use Rattle.seq.specs.Ids.{none}
use Rattle.seq.specs.Seq.{below, span, level}
use Rattle.page.specs.declared.DataHeader.{DataHeader}
use Rattle.page.specs.Page.{Read, unreadable, readable}
use Rattle.chain.specs.Steps.{is_page}
use Rattle.search.specs.declared.hunt.Offer.{Offer}

-- what a level finds
pub data Hit : Type 0 where
  hit : Offer → Hit
  too_left : Hit
  wrong : Hit

-- the greater of two numbers
abbrev pub greater : ℕ → ℕ → ℕ
greater a b = cond (leb a b) b a

-- which pages are passed over: a page that starts at or below left is too far left
abbrev pub passed_over : ℕ → DataHeader → Bool
passed_over left h = leb h.seq left

-- a page that names a boundary: 224 or more, a number at or above the limit, or one above the page's length is Damaged
unfoldable pub found_on : ℕ → ℕ → ℕ → DataHeader → Hit
found_on left target limit h =
    let start = h.seq + h.record_boundary in
    cond (leb 224 h.record_boundary) wrong
    (cond (leb limit start) wrong
    (cond (leb start left) too_left
    (cond (ltb h.length h.record_boundary) wrong
    (hit (record { low = h.seq; links = h.skiplist; mid = start; high = greater target start })))))

-- what a readable page says: Damaged, too far left, a boundary, or the page before it, with this page's seq as the limit
unfoldable pub seen_on : ℕ → ℕ → ℕ → DataHeader → (ℕ → ℕ → Hit) → Hit
seen_on left target limit h back =
    cond (leb limit h.seq || ltb target h.seq) wrong
    (cond (passed_over left h) too_left
    (cond (eqb h.record_boundary none)
    (cond (eqb (get_or h.skiplist 0 0) none) wrong (back (get_or h.skiplist 0 0) h.seq))
    (found_on left target limit h)))

abbrev pub seen_by : ℕ → ℕ → ℕ → Read → (ℕ → ℕ → Hit) → Hit
seen_by left target limit unreadable back = wrong
seen_by left target limit (readable h) back = seen_on left target limit h back

-- walking back from page id, whose seq has to lie below the limit; the limit falls, so that more fuel than it is enough
unfoldable pub seek_to_page : ℕ → (ℕ → Read) → ℕ → ℕ → ℕ → ℕ → ℕ → Hit
seek_to_page count read left target zero limit id = wrong
seek_to_page count read left target (suc k) limit id =
    cond (is_page count id) (seen_by left target limit (read id) (λ j s. seek_to_page count read left target k s j)) wrong

-- where the whole search stands: an offer with left as it is then, the end, or Damaged
pub data Sought : Type 0 where
  offered : ℕ → Offer → Sought
  ended : Sought
  broken : Sought

-- a level is tried where right is above left, its link names a page, and its number is not below left
unfoldable pub tries : ℕ → ℕ → List ℕ → ℕ → Bool
tries left right links i = ltb left right && not (eqb (get_or links i 0) none) && leb left (below (span i) right)

abbrev pub hit_by : ℕ → ℕ → Hit → (ℕ → Sought) → Sought
hit_by left target (hit o) next = offered left o
hit_by left target too_left next = next (target + 1)
hit_by left target wrong next = broken

-- levels downward; a page too far left sets left to the level's number plus 1
unfoldable pub really_seek : ℕ → (ℕ → Read) → ℕ → List ℕ → ℕ → ℕ → Sought
really_seek count read right links zero left =
    cond (tries left right links 0)
    (hit_by left (below (span 0) right) (seek_to_page count read left (below (span 0) right) (suc right) right (get_or links 0 0)) (λ l. ended))
    ended
really_seek count read right links (suc i) left =
    cond (tries left right links (suc i))
    (hit_by left (below (span (suc i)) right) (seek_to_page count read left (below (span (suc i)) right) (suc right) right (get_or links (suc i) 0))
    (λ l. really_seek count read right links i l))
    (really_seek count read right links i left)

-- from skiplist_index(left + 1, right), or 0 where left + 1 ≥ right
abbrev pub hunt : ℕ → (ℕ → Read) → ℕ → ℕ → List ℕ → Sought
hunt count read left right links = really_seek count read right links (level (left + 1) right) left
