-- The invariant over worlds: sizes, map, table, state and writer are what base and ownership say, and the rest is the invariant of
-- the store of pages. A device of the proofs. Assumes nothing: these are definitions.
use Rattle.std.specs.Prelude.{ℕ, ◌*◌, ◌≤◌, ◌<◌, ◌≡◌, true, List, length}
use Rattle.seq.specs.Ids.{none}
use Rattle.page.specs.Page.{Bytes, readable, no_header}
use Rattle.chain.specs.Steps.{read_at}
use Rattle.state.specs.declared.types.FileRecord.{FileRecord}
use Rattle.state.specs.declared.types.Writer.{Writer}
use Rattle.state.specs.declared.types.Search.{Search}
use Rattle.state.specs.World.{World}
use Rattle.state.specs.Checks.{search_ok}
use Rattle.owners.specs.Store.{Owner}
use Rattle.owners.specs.State.{Base, Inv}
use Rattle.agree.specs.View.{view, Mapped, rec_at, now_of}
use Rattle.agree.specs.Rules.{Rules}

-- an empty file's record has nothing left over; another's has its last page's header as it stands
pub record Blank (f : FileRecord) : Type 0 where
  pub header : f.header ≡ no_header
  pub first : f.first_seq ≡ 0
  pub last : f.last_seq ≡ 0
  pub flags : f.flags ≡ 0

pub record RecordOk (img : List ℕ) (f : FileRecord) : Type 0 where
  pub empty : f.last_page ≡ none → Blank f
  pub stands : (f.last_page ≡ none → ⊥) → read_at img f.last_page ≡ readable f.header
  pub byte : f.flags < 256

-- a writer with no page staged goes on from its file's end
pub record Waits (f : FileRecord) (x : Writer) : Type 0 where
  pub seq : x.seq ≡ f.last_seq
  pub previous : x.previous ≡ f.last_page
  pub copied : x.copied ≡ none
  pub stored : x.stored ≡ 0
  pub length : x.length ≡ 0

pub record WriterIs (img : List ℕ) (f : FileRecord) (x : Writer) : Type 0 where
  pub boundary : x.boundary < 65536
  pub size : length x.staged ≡ 224
  pub bytes : Bytes x.staged
  pub stands : (x.previous ≡ none → ⊥) → read_at img x.previous ≡ readable x.previous_header
  pub waits : x.page ≡ none → Waits f x

-- an open search's numbers are in range, and curr_high is below right
pub record SearchIs (q : Search) : Type 0 where
  pub ok : search_ok q ≡ true
  pub below : q.active ≡ true → q.high < q.right

pub record Sees (N : ℕ) (w : World) (b : Base) (own : ℕ → Owner) : Type 0 where
  pub size : length w.image ≡ 256 * N
  pub big : 4 ≤ N
  pub small : N ≤ 1024
  pub bytes : Bytes w.image
  pub mp : w.state.meta_page ≡ b.mp
  pub mseq : w.state.meta_seq ≡ b.mseq
  pub pc : w.state.page_count ≡ b.pc
  pub cursor : w.state.cursor < b.pc
  pub flag : w.state.mounted ≡ true
  pub pages : w.state.pages ≡ N
  pub search : SearchIs w.state.search
  pub owners : Mapped w.map N own
  pub eight : length w.table.files ≡ 8
  pub recs : (i : ℕ) → RecordOk w.image (rec_at w.table i)
  pub wr : w.state.writer.active ≡ true → WriterIs w.image (rec_at w.table w.state.writer.file) w.state.writer

-- D: whether the link rule is asked, too
pub record Good (D : Type 0) (N : ℕ) (w : World) (b : Base) (own : ℕ → Owner) : Type 0 where
  pub sees : Sees N w b own
  pub inv : Inv N (view w.image) b (now_of w.table w.state own)
  pub rules : D → Rules w b

-- some base and ownership
pub record Known (D : Type 0) (N : ℕ) (w : World) : Type 0 where
  pub base : Base
  pub own : ℕ → Owner
  pub good : Good D N w base own
