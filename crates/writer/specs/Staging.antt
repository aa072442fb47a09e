-- The page that a writer stages, by document 01, "Files and transactions", paragraph "Writer"; DECISIONS 17 to 19.
-- Assumes nothing: these are definitions.
use Rattle.std.specs.Prelude.{ℕ, ◌+◌, ◌-◌, ◌/◌, Bool, true, false, cond, ◌&&◌, not, List, eqb, leb, ltb, length, take}
use Rattle.seq.specs.Ids.{none}
use Rattle.runs.specs.Runs.{placed}
use Rattle.page.specs.declared.DataHeader.{DataHeader}
use Rattle.page.specs.Store.{Store, data_stores}
use Rattle.map.specs.Map.{free_count}
use Rattle.chain.specs.declared.PagePointer.{PagePointer}
use Rattle.chain.specs.Links.{links_after, no_links}
use Rattle.state.specs.declared.types.Writer.{Writer}

-- ---- the staged page

abbrev pub is_staged : Writer → Bool
is_staged x = not (eqb x.page none)

abbrev pub previous_of : Writer → PagePointer
previous_of x = record { page_id = x.previous; header = x.previous_header }

-- its links are those of the link rule
unfoldable pub staged_links : Writer → List ℕ
staged_links x = cond (eqb x.previous none) no_links (links_after (previous_of x) x.seq)

-- a boundary not below the page's length is written as none
abbrev pub named_below : ℕ → ℕ → ℕ
named_below boundary length = cond (ltb boundary length) boundary none

unfoldable pub staged_header : Writer → DataHeader
staged_header x =
    record {
      seq = x.seq;
      skiplist = staged_links x;
      record_boundary = named_below x.boundary x.length;
      length = x.length;
    }

abbrev pub staged_bytes : Writer → List ℕ
staged_bytes x = take x.length x.staged

-- a flush: the page's three stores
abbrev pub flush_stores : Writer → List Store
flush_stores x = data_stores x.page (staged_header x) (staged_bytes x)

-- the next page gets boundary 0 if a record ended exactly there, else none
abbrev pub next_boundary : Bool → ℕ
next_boundary ended = cond ended 0 none

-- the writer after a flush
unfoldable pub flushed : Writer → Writer
flushed x =
    record {
      active = x.active;
      file = x.file;
      seq = x.seq + x.length;
      page = none;
      previous = x.page;
      previous_header = staged_header x;
      copied = x.copied;
      boundary = next_boundary x.ended;
      ended = x.ended;
      stored = x.stored + 1;
      length = 0;
      staged = x.staged;
    }

-- a new page, on which nothing is staged yet
unfoldable pub on_page : Writer → ℕ → Writer
on_page x p =
    record {
      active = x.active;
      file = x.file;
      seq = x.seq;
      page = p;
      previous = x.previous;
      previous_header = x.previous_header;
      copied = x.copied;
      boundary = x.boundary;
      ended = x.ended;
      stored = x.stored;
      length = 0;
      staged = x.staged;
    }

-- bytes more on the staged page: no record ends just here
unfoldable pub filled_by : Writer → List ℕ → Writer
filled_by x l =
    record {
      active = x.active;
      file = x.file;
      seq = x.seq;
      page = x.page;
      previous = x.previous;
      previous_header = x.previous_header;
      copied = x.copied;
      boundary = x.boundary;
      ended = false;
      stored = x.stored;
      length = x.length + length l;
      staged = placed x.staged x.length l;
    }

-- a record ends: the current length is the boundary if none is named yet
unfoldable pub record_ended : Writer → Writer
record_ended x =
    record {
      active = x.active;
      file = x.file;
      seq = x.seq;
      page = x.page;
      previous = x.previous;
      previous_header = x.previous_header;
      copied = x.copied;
      boundary = cond (is_staged x && eqb x.boundary none) x.length x.boundary;
      ended = true;
      stored = x.stored;
      length = x.length;
      staged = x.staged;
    }

-- ---- room

-- what is left on the staged page, and how many further pages len bytes begin
unfoldable pub space : Writer → ℕ
space x = cond (is_staged x) (224 - x.length) 0

unfoldable pub pages_for : ℕ → ℕ → ℕ
pages_for left len = cond (leb len left) 0 ((len - left + 223) / 224)

-- one free page is kept back: too few where free pages minus one are fewer
unfoldable pub too_few : List ℕ → ℕ → ℕ → Bool
too_few map count k = not (eqb k 0) && ltb (free_count (take count map)) (k + 1)
