-- An image as a store of pages, a map as an ownership, a record as a file. A device of the proofs. Assumes nothing: these are definitions.
use Rattle.page.specs.declared.MetaHeader.{MetaHeader}
use Rattle.std.specs.Prelude.{ℕ, ◌<◌, ◌≡◌, Bool, true, false, cond, List, eqb, length, get_or, Option, Some, None}
use Rattle.seq.specs.Ids.{none}
use Rattle.page.specs.Page.{page_of, meta_of, header_of, Read, readable, unreadable}
use Rattle.metalog.specs.Log.{replay_of}
use Rattle.state.specs.declared.types.FileRecord.{FileRecord}
use Rattle.state.specs.declared.types.Table.{Table}
use Rattle.state.specs.declared.types.State.{State}
use Rattle.state.specs.declared.types.Writer as StateWriter
use Rattle.state.specs.Values.{empty_record}
use Rattle.owners.specs.Store.{Page, blank, dat, met, Store, Owner, free, held, meta, writer, outside, file, File, gone, live}
use Rattle.owners.specs.State.{link_of, Now, Writer, shut, ready, staging}

-- what stands on a page
abbrev pub dat_by : List ℕ → Read → Page
dat_by pg unreadable = blank
dat_by pg (readable h) = dat h.seq h.length (link_of (get_or h.skiplist 0 0)) pg

abbrev pub seen_by : List ℕ → ℕ → Option MetaHeader → Page
seen_by img p (Some m) = met m.seq m.page_count (replay_of m.page_count img p)
seen_by img p None = dat_by (page_of img p) (header_of (page_of img p))

unfoldable pub view : List ℕ → Store
view img p = seen_by img p (meta_of (page_of img p))

-- the map's byte
abbrev pub code : Owner → ℕ
code free = 0
code held = 2
code meta = 1
code writer = 1
code outside = 3
code (file i) = 1

pub record Mapped (m : List ℕ) (N : ℕ) (own : ℕ → Owner) : Type 0 where
  pub size : length m ≡ N
  pub byte : (p : ℕ) → p < N → get_or m p 0 ≡ code (own p)

-- a record as a file
unfoldable pub as_file : FileRecord → File
as_file f = cond (eqb f.last_page none) gone (live f.last_page f.first_seq f.last_seq f.flags)

-- past the table's end every file is empty
abbrev pub rec_at : Table → ℕ → FileRecord
rec_at t i = get_or t.files i empty_record

-- a writer
abbrev pub staged_by : StateWriter.Writer → Bool → Writer
staged_by x true = ready x.file
staged_by x false = staging x.file (link_of x.previous) x.seq x.page x.length (link_of x.copied) x.stored

abbrev pub writer_by : StateWriter.Writer → Bool → Writer
writer_by x false = shut
writer_by x true = staged_by x (eqb x.page none)

unfoldable pub as_writer : StateWriter.Writer → Writer
as_writer x = writer_by x x.active

abbrev pub now_of : Table → State → (ℕ → Owner) → Now
now_of t s own = record { tab = λ i. as_file (rec_at t i); own = own; dirty = λ i. (rec_at t i).dirty; tx = s.transaction; wr = as_writer s.writer }
