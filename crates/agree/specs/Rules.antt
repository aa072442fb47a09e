-- The link rule over the files of a world: older pages full, numbers that meet, links as the rule has them (crate chain, Chain). Asked of
-- the files as they are, of those that a mount would find, and of the open writer's pages. A device of the proofs.
-- Assumes nothing: these are definitions.
use Rattle.std.specs.Prelude.{ℕ, ◌≤◌, ◌≡◌, true, List}
use Rattle.seq.specs.Ids.{none}
use Rattle.page.specs.Page.{readable}
use Rattle.page.specs.declared.DataHeader.{DataHeader}
use Rattle.chain.specs.declared.PagePointer.{PagePointer}
use Rattle.chain.specs.Links.{Chain, oldest, start}
use Rattle.chain.specs.Steps.{read_at}
use Rattle.state.specs.declared.types.FileRecord.{FileRecord}
use Rattle.state.specs.declared.types.Writer.{Writer}
use Rattle.state.specs.World.{World}
use Rattle.writer.specs.Staging.{staged_header}
use Rattle.owners.specs.Store.{File, gone, live}
use Rattle.owners.specs.State.{Base}
use Rattle.agree.specs.View.{as_file, rec_at}

-- a chain of full pages from p back to the page of first
pub record Reaches (img : List ℕ) (count first : ℕ) (p : PagePointer) : Type 0 where
  pub older : List PagePointer
  pub chain : Chain count 224 (read_at img) p older
  pub far : start (oldest p older) ≤ first

-- a file's last page stands, and such a chain goes back from it
pub record Ruled (img : List ℕ) (count p first : ℕ) : Type 0 where
  pub header : DataHeader
  pub stands : read_at img p ≡ readable header
  pub reaches : Reaches img count first (record { page_id = p; header = header })

abbrev pub ChainOf : List ℕ → ℕ → File → Type 0
ChainOf img count gone = Unit {0}
ChainOf img count (live p a e g) = Ruled img count p a

-- a writer goes on from a full page, and its staged page is behind its chain
abbrev pub staged_page : Writer → PagePointer
staged_page x = record { page_id = x.page; header = staged_header x }

pub record WriterRuled (img : List ℕ) (count : ℕ) (f : FileRecord) (x : Writer) : Type 0 where
  pub full : x.page ≡ none → (f.last_page ≡ none → ⊥) → f.header.length ≡ 224
  pub chain : (x.page ≡ none → ⊥) → Reaches img count f.first_seq (staged_page x)

pub record Rules (w : World) (b : Base) : Type 0 where
  pub now : (i : ℕ) → ChainOf w.image b.pc (as_file (rec_at w.table i))
  pub base : (i : ℕ) → ChainOf w.image b.pc (b.tab i)
  pub wr : w.state.writer.active ≡ true → WriterRuled w.image b.pc (rec_at w.table w.state.writer.file) w.state.writer
