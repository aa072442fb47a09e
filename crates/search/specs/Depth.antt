-- How deep the calls of a hunt stand in each other: a call for each level tried, for each walk's first page and for each page stepped
-- back from. Assumes nothing: these are definitions.
use Rattle.std.specs.Prelude.{ℕ, zero, suc, ◌+◌, Bool, cond, ◌&&◌, ◌||◌, not, List, eqb, leb, ltb, get_or}
use Rattle.seq.specs.Ids.{none}
use Rattle.seq.specs.Seq.{below, span, level}
use Rattle.page.specs.declared.DataHeader.{DataHeader}
use Rattle.page.specs.Page.{Read, unreadable, readable}
use Rattle.chain.specs.Steps.{is_page}
use Rattle.search.specs.Hunt.{Hit, hit, too_left, wrong, passed_over, seek_to_page, tries}

-- a page that is stepped back from
unfoldable pub goes_back : ℕ → ℕ → ℕ → DataHeader → Bool
goes_back left target limit h =
    not (leb limit h.seq || ltb target h.seq) && not (passed_over left h) && eqb h.record_boundary none
    && not (eqb (get_or h.skiplist 0 0) none)

abbrev pub back_by : ℕ → ℕ → ℕ → Read → (ℕ → ℕ → ℕ) → ℕ
back_by left target limit unreadable back = 0
back_by left target limit (readable h) back = cond (goes_back left target limit h) (suc (back (get_or h.skiplist 0 0) h.seq)) 0

-- how many pages a walk steps back from
unfoldable pub pages_back : ℕ → (ℕ → Read) → ℕ → ℕ → ℕ → ℕ → ℕ → ℕ
pages_back count read left target zero limit id = 0
pages_back count read left target (suc k) limit id =
    cond (is_page count id) (back_by left target limit (read id) (λ j s. pages_back count read left target k s j)) 0

-- the next level has its turn only after a page too far left
abbrev pub next_by : Hit → ℕ → ℕ
next_by (hit o) n = 0
next_by too_left n = n
next_by wrong n = 0

-- how many the walks of a level and of those below it step back from
unfoldable pub pages_under : ℕ → (ℕ → Read) → ℕ → List ℕ → ℕ → ℕ → ℕ
pages_under count read right links zero left =
    cond (tries left right links 0) (pages_back count read left (below (span 0) right) (suc right) right (get_or links 0 0)) 0
pages_under count read right links (suc i) left =
    cond (tries left right links (suc i))
    (pages_back count read left (below (span (suc i)) right) (suc right) right (get_or links (suc i) 0)
    + next_by (seek_to_page count read left (below (span (suc i)) right) (suc right) right (get_or links (suc i) 0))
    (pages_under count read right links i (below (span (suc i)) right + 1)))
    (pages_under count read right links i left)

-- of a hunt: nine levels, nine first pages, and the pages stepped back from
abbrev pub depth : ℕ → (ℕ → Read) → ℕ → ℕ → List ℕ → ℕ
depth count read left right links = 18 + pages_under count read right links (level (left + 1) right) left
