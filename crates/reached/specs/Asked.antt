-- What the demands speak of, in document 01's words. Assumes nothing: these are definitions.
use Rattle.state.specs.Refusals.{fine}
use Rattle.std.specs.Prelude.{ℕ, ◌+◌, ◌-◌, ◌*◌, ◌≤◌, ◌<◌, ◌≡◌, true, cond, List, [], ◌∷◌, ◌⊎◌, length, get_or}
use Rattle.seq.specs.Ids.{none}
use Rattle.page.specs.Page.{page_of, holds}
use Rattle.chain.specs.Files.{last_of}
use Rattle.chain.specs.Steps.{read_at, Sought, damaged, at, walk, visited}
use Rattle.state.specs.declared.types.FileRecord.{FileRecord}
use Rattle.state.specs.declared.types.Table.{Table}
use Rattle.state.specs.declared.types.State.{State}
use Rattle.state.specs.declared.types.Writer as StateWriter
use Rattle.state.specs.Values.{file_at}
use Rattle.state.specs.World.{World, after_call}
use Rattle.map.specs.Map as map
use Rattle.writer.specs.Staging.{previous_of}
use Rattle.writer.specs.Finish.{pages, back_from}
use Rattle.volume.specs.Mount.{mount}
use Rattle.transact.specs.Commit.{commit}
use Rattle.page.specs.Page.{readable}
use Rattle.page.specs.declared.DataHeader.{DataHeader}
use Rattle.chain.specs.declared.PagePointer.{PagePointer}
use Rattle.seq.specs.Seq.{multiples}
use Rattle.chain.specs.Seek.{Agree}
use Rattle.reader.specs.Locate.{located_at}
use Rattle.reader.specs.declared.Reader.{Reader}
use Rattle.reader.specs.Locate.{path_of, locate}
use Rattle.reader.specs.Read.{read, moved}

abbrev pub In : ℕ → List ℕ → Type 0
In p [] = ⊥
In p (q ∷ l) = (p ≡ q) ⊎ In p l

-- ---- no list is too short for what is asked of it: a byte of the map for each page below page_count, 256 bytes of the image for each, eight files

pub record Whole (w : World) : Type 0 where
  pub image : length w.image ≡ 256 * length w.map
  pub count : w.state.page_count ≤ length w.map
  pub table : length w.table.files ≡ 8

-- ---- the end of "Files and transactions": what a page below page_count is

pub data Kind : Type 0 where
  free : Kind
  held : Kind
  meta : Kind
  file : ℕ → Kind
  writer : Kind

-- on a file's chain from last page to the page of first_seq: what mount's walk visits
pub record OnChain (w : World) (f : FileRecord) (p : ℕ) : Type 0 where
  pub some : f.last_page ≡ none → ⊥
  pub visits : In p (visited (last_of f) (walk w.state.page_count (read_at w.image) f.first_seq (last_of f)))

-- of the open writer: staged, or one of those that it stored
pub record OfWriter (w : World) (x : StateWriter.Writer) (p : ℕ) : Type 0 where
  pub active : x.active ≡ true
  pub stored : List ℕ
  pub are : back_from w.state.page_count (read_at w.image) x.stored (previous_of x) ≡ pages stored
  pub one : In p (x.page ∷ stored)

abbrev pub Is : World → ℕ → Kind → Type 0
Is w p free = get_or w.map p 0 ≡ map.free
Is w p held = get_or w.map p 0 ≡ map.held
Is w p meta = p ≡ w.state.meta_page
Is w p (file i) = (i < 8) × OnChain w (file_at w.table i) p
Is w p writer = OfWriter w w.state.writer p

-- it is of exactly one kind
pub record One (w : World) (p : ℕ) : Type 0 where
  pub kind : Kind
  pub is : Is w p kind
  pub only : (k : Kind) → Is w p k → k ≡ kind

-- ---- demand 2: the same files

-- the byte at a number: on the page where stepping back from the last page ends, if that holds the number
pub data Byte : Type 0 where
  nowhere : Byte
  byte : ℕ → Byte

abbrev pub byte_by : List ℕ → ℕ → Sought → Byte
byte_by img n damaged = nowhere
byte_by img n (at q) = cond (holds q.header n) (byte (get_or (page_of img q.page_id) (32 + (n - q.header.seq)) 0)) nowhere

unfoldable pub byte_at : List ℕ → ℕ → FileRecord → ℕ → Byte
byte_at img count f n = byte_by img n (walk count (read_at img) n (last_of f)).ends

-- file i of two worlds: last page and header, first_seq, last_seq, flags, and the same byte at every live number
pub record SameFile (w v : World) (i : ℕ) : Type 0 where
  pub last : (file_at w.table i).last_page ≡ (file_at v.table i).last_page
  pub header : (file_at w.table i).header ≡ (file_at v.table i).header
  pub first_seq : (file_at w.table i).first_seq ≡ (file_at v.table i).first_seq
  pub last_seq : (file_at w.table i).last_seq ≡ (file_at v.table i).last_seq
  pub flags : (file_at w.table i).flags ≡ (file_at v.table i).flags
  pub bytes : (n : ℕ) → (file_at w.table i).first_seq ≤ n → n < (file_at w.table i).last_seq
      → byte_at w.image w.state.page_count (file_at w.table i) n ≡ byte_at v.image v.state.page_count (file_at v.table i) n

-- the image that commit leaves, with any map, table and state
abbrev pub afresh : World → List ℕ → Table → State → World
afresh w m t s = record { image = (after_call commit w).world.image; map = m; table = t; state = s }

-- its mount succeeds and gives the same eight files
pub record Again (w : World) (m : List ℕ) (t : Table) (s : State) : Type 0 where
  pub mounts : (after_call mount (afresh w m t s)).answer ≡ fine
  pub files : (i : ℕ) → i < 8 → SameFile w (after_call mount (afresh w m t s)).world i

-- ---- demand 3: locating and reading live numbers

-- locate of number n of file i
pub record Locates (w : World) (i n : ℕ) : Type 0 where
  pub page : PagePointer
  -- it gives that page, with the length of the rule's path
  pub gives : locate w i n ≡ located_at page.page_id (length (path_of w.image w.state.page_count (file_at w.table i) n).path)
  -- the page that stepping back page by page gives
  pub stepped : (walk w.state.page_count (read_at w.image) n (last_of (file_at w.table i))).ends ≡ at page
  -- the one page of the file's chain that holds the number
  pub on_chain : OnChain w (file_at w.table i) page.page_id
  pub stands : read_at w.image page.page_id ≡ readable page.header
  pub held : holds page.header n ≡ true
  pub only : (p : ℕ) (h : DataHeader) → OnChain w (file_at w.table i) p → read_at w.image p ≡ readable h → holds h n ≡ true → p ≡ page.page_id
  -- at most 9 plus the multiples of 32,768 from n up to but excluding the last page's first number
  pub few : length (path_of w.image w.state.page_count (file_at w.table i) n).path ≤ 9 + multiples 32768 n (file_at w.table i).header.seq

-- another image under the same map, table and state, which agrees on the headers of the rule's path
abbrev pub with_image : World → List ℕ → World
with_image w img = record { image = img; map = w.map; table = w.table; state = w.state }

pub record AgreesOnPath (w : World) (i n : ℕ) (img : List ℕ) : Type 0 where
  pub size : length img ≡ length w.image
  pub headers : Agree (read_at w.image) (read_at img) (path_of w.image w.state.page_count (file_at w.table i) n).path

-- a read of live numbers in world v: never refused, and it gives the byte that each number has in world w
pub record Reads (w v : World) (r : Reader) (out : List ℕ) : Type 0 where
  pub bytes : List ℕ
  pub gives : read v r out ≡ record { answer = fine; reader = moved r (length out); out = bytes }
  pub size : length bytes ≡ length out
  pub each : (k : ℕ) → k < length out → byte_at w.image w.state.page_count (file_at w.table r.file) (r.seq + k) ≡ byte (get_or bytes k 0)
