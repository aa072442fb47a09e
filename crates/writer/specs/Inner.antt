-- What the inner functions take and leave, in the words of the calls' definitions. Assumes nothing: these are definitions.
use Rattle.state.specs.Refusals.{Done, fine}
use Rattle.std.specs.Prelude.{◌≡◌, ℕ, ◌+◌, ◌*◌, ◌≤◌, ◌<◌, Bool, true, false, cond, not, List, [], ltb, length, take, replicate, Option, Some, None, Result, Ok, Err}
use Rattle.seq.specs.Ids.{none}
use Rattle.seq.specs.Seq.{limit}
use Rattle.page.specs.Store.{Store, ran}
use Rattle.map.specs.Map.{free_count, beyond}
use Rattle.chain.specs.declared.PagePointer.{PagePointer}
use Rattle.chain.specs.Steps.{Stepped, stays, reaches, breaks}
use Rattle.state.specs.declared.types.Refusal.{Refusal}
use Rattle.state.specs.declared.types.Writer.{Writer}
use Rattle.state.specs.declared.types.FileRecord.{FileRecord}
use Rattle.state.specs.Values.{with_cursor, with_writer}
use Rattle.state.specs.declared.types.State.{State}
use Rattle.state.specs.declared.types.Table.{Table}
use Rattle.state.specs.World.{World, Outcome, before, after, after_call}
use Rattle.state.specs.declared.types.Refusal.TheVariants.{Damaged, NoRoom, SeqEnd, NoSearch}
use Rattle.writer.specs.Staging.{is_staged, flush_stores, flushed, space, pages_for, too_few}
use Rattle.writer.specs.Write.{Writing, write_from}
use Rattle.writer.specs.Open.{no_page}
use Rattle.writer.specs.Finish.{Back, lost, pages, freed}

-- ---- NoSearch without a writer

abbrev pub open_only : State → Done
open_only s = cond s.writer.active fine (Err NoSearch)

-- ---- the cursor, one beyond the page that was allocated, if there is one

abbrev pub moved_on : State → Option ℕ → State
moved_on s None = s
moved_on s (Some p) = with_cursor s (beyond s.page_count p)

-- ---- a flush, where a page is staged

abbrev pub stores_of : Writer → List Store
stores_of x = cond (is_staged x) (flush_stores x) []

abbrev pub unstaged : Writer → Writer
unstaged x = cond (is_staged x) (flushed x) x

-- ---- what a write changes, with its stores made

pub record Made : Type 0 where
  pub image : List ℕ
  pub map : List ℕ
  pub cursor : ℕ
  pub writer : Writer

abbrev pub makes : List ℕ → Writing → Made
makes img x = record { image = ran img x.stores; map = x.map; cursor = x.cursor; writer = x.writer }

-- a map and a state as they are, nothing stored yet
abbrev pub begins : List ℕ → State → Writing
begins m s = record { stores = []; map = m; cursor = s.cursor; writer = s.writer }

-- ---- what holds on the way: the sums fit, and there is room for what is left, with a page kept back

pub record Able (count at : ℕ) (x : Writer) : Type 0 where
  pub few : count ≤ 1024
  pub cursor : at < count
  pub end : x.seq + x.length ≤ limit
  pub stored : x.stored ≤ x.seq
  pub length : x.length ≤ 224

pub record Sound (count len : ℕ) (map : List ℕ) (at : ℕ) (x : Writer) : Type 0 where
  pub able : Able count at x
  pub end : x.seq + x.length + len ≤ limit
  pub room : 0 < pages_for (space x) len → pages_for (space x) len < free_count (take count map)

-- ---- whether a write of some bytes is refused

unfoldable pub may_write : List ℕ → State → ℕ → Done
may_write m s len =
    cond (not s.writer.active) (Err NoSearch)
    (cond (ltb limit (s.writer.seq + s.writer.length + len)) (Err SeqEnd)
    (cond (too_few m s.page_count (pages_for (space s.writer) len)) (Err NoRoom)
    fine))

-- ---- what finishing goes by: the writer's file is in the table, and its end is a number

pub record Ends (x : Writer) : Type 0 where
  pub file : x.file ≤ 7
  pub end : x.seq + x.length < 4294967296

-- ---- a discard's walk

abbrev pub unbroken : Back → Bool
unbroken lost = false
unbroken (pages l) = true

abbrev pub freed_by : List ℕ → Back → List ℕ
freed_by m lost = m
freed_by m (pages l) = freed m l

-- ---- what a write leaves of image, map and state

pub record Wrote : Type 0 where
  pub image : List ℕ
  pub map : List ℕ
  pub state : State

abbrev pub writes : List ℕ → List ℕ → State → Wrote
writes img m s = record { image = img; map = m; state = s }

abbrev pub wrote : List ℕ → State → Writing → Wrote
wrote img s x = record { image = ran img x.stores; map = x.map; state = with_writer (with_cursor s x.cursor) x.writer }

abbrev pub written : List ℕ → List ℕ → State → List ℕ → Wrote
written img m s l = wrote img s (write_from s.page_count (length l) l (begins m s))

-- ---- what opening goes by

-- a call answers and leaves what its definition gives, with any table: it makes no use of it
abbrev pub Leaves : (World → Outcome Done) → List ℕ → List ℕ → State → Done → List ℕ → State → Type 0
Leaves call img m s a m' s' = (t : Table) → after a img m' t s' ≡ after_call call (before img m t s)

-- the image has the state's pages
pub record Sized (img : List ℕ) (s : State) : Type 0 where
  pub few : s.page_count ≤ 1024
  pub whole : s.page_count * 256 ≤ length img
  pub cursor : s.cursor < s.page_count

-- a writer behind page q, with nothing staged
abbrev pub behind : ℕ → ℕ → PagePointer → Writer
behind i n q =
    record {
      active = true;
      file = i;
      seq = n;
      page = none;
      previous = q.page_id;
      previous_header = q.header;
      copied = none;
      boundary = 0;
      ended = true;
      stored = 0;
      length = 0;
      staged = replicate 224 0;
    }

-- the page before a copied one, by the step back from it
abbrev pub page_before : Stepped → Result PagePointer Refusal
page_before stays = Ok no_page
page_before breaks = Err Damaged
page_before (reaches q) = Ok q

-- so has it the record's last page
pub record Stands (img : List ℕ) (s : State) (f : FileRecord) : Type 0 where
  pub sized : Sized img s
  pub inside : f.last_page < s.page_count
  pub high : f.header.length ≤ 224
