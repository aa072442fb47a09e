-- Files, their table and the state, by document 01, "Files and transactions", and DECISIONS 3, 4 and 12.
-- Assumes nothing: these are definitions.
use Rattle.state.specs.declared.types.Refusal.{Refusal}
use Rattle.std.specs.Prelude.{ℕ, ◌+◌, ◌-◌, Bool, true, false, cond, ◌&&◌, [], leb, ltb, eqb, get_or, set, replicate, Result, Ok, Err}
use Rattle.seq.specs.Ids.{none}
use Rattle.page.specs.Page.{no_header}
use Rattle.state.specs.declared.types.FileRecord.{FileRecord}
use Rattle.state.specs.declared.types.Table.{Table}
use Rattle.state.specs.declared.types.Writer.{Writer}
use Rattle.state.specs.declared.types.Search.{Search}
use Rattle.state.specs.declared.types.State.{State}
use Rattle.state.specs.declared.types.Refusal.TheVariants.{BadFile, Range}

-- ---- files

unfoldable pub empty_record : FileRecord
empty_record = record { dirty = false; last_page = none; header = no_header; first_seq = 0; last_seq = 0; flags = 0 }

-- what the logic reads past the end of a table
abbrev pub absent : FileRecord
absent = record { dirty = false; last_page = 0; header = record { seq = 0; skiplist = []; record_boundary = 0; length = 0 }; first_seq = 0; last_seq = 0; flags = 0 }

unfoldable pub empty_table : Table
empty_table = record { files = replicate 8 empty_record }

abbrev pub file_at : Table → ℕ → FileRecord
file_at t i = get_or t.files i absent

unfoldable pub with_file : Table → ℕ → FileRecord → Table
with_file t i f = record { files = set t.files i f }

-- a file is empty exactly if its last page is none
abbrev pub is_empty : FileRecord → Bool
is_empty f = eqb f.last_page none

-- how far a number lies behind a file's first one: a file above 7 is BadFile, a number below the first is Range
unfoldable pub offset_in : Table → ℕ → ℕ → Result ℕ Refusal
offset_in t file n =
    cond (ltb 7 file) (Err BadFile)
    (cond (ltb n (file_at t file).first_seq) (Err Range)
    (Ok (n - (file_at t file).first_seq)))

-- whether a call may follow the record: its last page is below page_count, that page's length is 1 to 224 and leads to last_seq,
-- and first_seq is below last_seq
unfoldable pub in_shape : ℕ → FileRecord → Bool
in_shape count f =
    ltb f.last_page count && leb 1 f.header.length && leb f.header.length 224
    && eqb (f.header.seq + f.header.length) f.last_seq && ltb f.first_seq f.last_seq

-- a change of flags, which sticks only to a file that is not empty and marks it dirty only if it changes them
unfoldable pub flagged : FileRecord → ℕ → FileRecord
flagged f n =
    cond (is_empty f) f
    (cond (eqb f.flags n) f
    (record { dirty = true; last_page = f.last_page; header = f.header; first_seq = f.first_seq; last_seq = f.last_seq; flags = n }))

-- the table with one file's flags changed, and the table where there is no such file
unfoldable pub with_flags : Table → ℕ → ℕ → Table
with_flags t i n = cond (ltb i 8) (with_file t i (flagged (file_at t i) n)) t

-- ---- the state

unfoldable pub no_writer : Writer
no_writer = record { active = false; file = 0; seq = 0; page = none; previous = none; previous_header = no_header; copied = none; boundary = none; ended = false; stored = 0; length = 0; staged = replicate 224 0 }

unfoldable pub no_search : Search
no_search = record { active = false; file = 0; left = 0; right = 0; right_links = replicate 9 none; result = 0; low = 0; low_links = replicate 9 none; mid = 0; high = 0 }

-- the unmounted state of a seed: a fresh one, and what a Damaged mount leaves
unfoldable pub unmounted : ℕ → State
unmounted seed = record { mounted = false; pages = 0; page_count = 0; meta_page = 0; meta_seq = 0; cursor = 0; seed = seed; transaction = false; writer = no_writer; search = no_search }

-- a mounted state in which nothing is open: what format and mount leave
unfoldable pub settled : ℕ → ℕ → ℕ → ℕ → ℕ → ℕ → State
settled pages count meta seq cursor seed = record { mounted = true; pages = pages; page_count = count; meta_page = meta; meta_seq = seq; cursor = cursor; seed = seed; transaction = false; writer = no_writer; search = no_search }

-- a transaction opens: no search position stays on offer
unfoldable pub opened : State → State
opened s = record { mounted = s.mounted; pages = s.pages; page_count = s.page_count; meta_page = s.meta_page; meta_seq = s.meta_seq; cursor = s.cursor; seed = s.seed; transaction = true; writer = s.writer; search = no_search }

-- it ends
unfoldable pub closed : State → State
closed s = record { mounted = s.mounted; pages = s.pages; page_count = s.page_count; meta_page = s.meta_page; meta_seq = s.meta_seq; cursor = s.cursor; seed = s.seed; transaction = false; writer = s.writer; search = s.search }

unfoldable pub with_cursor : State → ℕ → State
with_cursor s c = record { mounted = s.mounted; pages = s.pages; page_count = s.page_count; meta_page = s.meta_page; meta_seq = s.meta_seq; cursor = c; seed = s.seed; transaction = s.transaction; writer = s.writer; search = s.search }

unfoldable pub with_meta : State → ℕ → ℕ → State
with_meta s page seq = record { mounted = s.mounted; pages = s.pages; page_count = s.page_count; meta_page = page; meta_seq = seq; cursor = s.cursor; seed = s.seed; transaction = s.transaction; writer = s.writer; search = s.search }

unfoldable pub with_writer : State → Writer → State
with_writer s w = record { mounted = s.mounted; pages = s.pages; page_count = s.page_count; meta_page = s.meta_page; meta_seq = s.meta_seq; cursor = s.cursor; seed = s.seed; transaction = s.transaction; writer = w; search = s.search }

unfoldable pub with_search : State → Search → State
with_search s q = record { mounted = s.mounted; pages = s.pages; page_count = s.page_count; meta_page = s.meta_page; meta_seq = s.meta_seq; cursor = s.cursor; seed = s.seed; transaction = s.transaction; writer = s.writer; search = q }
