-- All calls of document 01 as one step from world to world, and the worlds that calls reach. Assumes nothing: these are definitions.
use Rattle.state.specs.declared.types.Refusal.{Refusal}
use Rattle.state.specs.Refusals.{Done, fine}
use Rattle.std.specs.Prelude.{ℕ, ◌<◌, ◌≡◌, List, ◌⊎◌, length, Result, Ok, Err}
use Rattle.page.specs.Page.{Bytes}
use Rattle.state.specs.declared.types.Table.{Table}
use Rattle.state.specs.declared.types.State.{State}
use Rattle.state.specs.World.{World, after_call}
use Rattle.volume.specs.Format as VolumeFormat
use Rattle.volume.specs.Mount as VolumeMount
use Rattle.reader.specs.declared.Reader.{Reader}
use Rattle.reader.specs.declared.Located.{Located}
use Rattle.reader.specs.Locate as ReaderLocate
use Rattle.reader.specs.Read as ReaderRead
use Rattle.reader.specs.Skip as ReaderSkip
use Rattle.writer.specs.Open as WriterOpen
use Rattle.writer.specs.Write as WriterWrite
use Rattle.writer.specs.Finish as WriterFinish
use Rattle.transact.specs.Truncate as TransactTruncate
use Rattle.transact.specs.Rename as TransactRename
use Rattle.transact.specs.Commit as TransactCommit
use Rattle.search.specs.declared.Answer.{Answer}
use Rattle.search.specs.declared.Answer.TheVariants.{Offer as Offers, End}
use Rattle.search.specs.Search as SearchCalls

-- a call with its arguments: bytes and flags are bytes, any other number is any; of a read, the output that is lent, with what stands in it
pub data Call : Type 0 where
  format : Call
  mount : Call
  locate : ℕ → ℕ → Call
  read : Reader → List ℕ → Call
  skip : Reader → ℕ → Call
  seek : ℕ → ℕ → Call
  search : ℕ → Call
  left : Call
  right : Call
  open_writer : ℕ → Call
  write : (l : List ℕ) → Bytes l → Call
  record_end : Call
  finish : Call
  discard : Call
  truncate : ℕ → ℕ → Call
  rename : ℕ → ℕ → Call
  flags : ℕ → (n : ℕ) → n < 256 → Call
  commit : Call

-- the world after a call: those that only read leave it
unfoldable pub step : Call → World → World
step format w = (after_call VolumeFormat.format w).world
step mount w = (after_call VolumeMount.mount w).world
step (locate file seq) w = w
step (read r out) w = w
step (skip r n) w = w
step (seek file n) w = w
step (search file) w = (after_call (λ v. SearchCalls.start v file) w).world
step left w = (after_call SearchCalls.left w).world
step right w = (after_call SearchCalls.right w).world
step (open_writer file) w = (after_call (λ v. WriterOpen.open_writer v file) w).world
step (write l ok) w = (after_call (λ v. WriterWrite.write v l) w).world
step record_end w = (after_call WriterWrite.record_end w).world
step finish w = (after_call WriterFinish.finish w).world
step discard w = (after_call WriterFinish.discard w).world
step (truncate file n) w = (after_call (λ v. TransactTruncate.truncate v file n) w).world
step (rename i j) w = (after_call (λ v. TransactRename.rename v i j) w).world
step (flags file n ok) w = (after_call (λ v. TransactRename.flags v file n) w).world
step commit w = (after_call TransactCommit.commit w).world

-- ---- what a call answers: done, or its refusal

abbrev pub located_done : Result Located Refusal → Done
located_done (Ok l) = fine
located_done (Err why) = Err why

abbrev pub skipped_done : Result ℕ Refusal → Done
skipped_done (Ok n) = fine
skipped_done (Err why) = Err why

abbrev pub sought_done : Result Answer Refusal → Done
sought_done (Ok (Offers n)) = fine
sought_done (Ok (End n)) = fine
sought_done (Err why) = Err why

unfoldable pub answer : Call → World → Done
answer format w = (VolumeFormat.format w).answer
answer mount w = (VolumeMount.mount w).answer
answer (locate file seq) w = located_done (ReaderLocate.locate w file seq)
answer (read r out) w = (ReaderRead.read w r out).answer
answer (skip r n) w = skipped_done (ReaderSkip.skip w r n)
answer (seek file n) w = skipped_done (ReaderSkip.seek_offset w file n)
answer (search file) w = sought_done (SearchCalls.start w file).answer
answer left w = sought_done (SearchCalls.left w).answer
answer right w = sought_done (SearchCalls.right w).answer
answer (open_writer file) w = (WriterOpen.open_writer w file).answer
answer (write l ok) w = (WriterWrite.write w l).answer
answer record_end w = (WriterWrite.record_end w).answer
answer finish w = (WriterFinish.finish w).answer
answer discard w = (WriterFinish.discard w).answer
answer (truncate file n) w = (TransactTruncate.truncate w file n).answer
answer (rename i j) w = (TransactRename.rename w i j).answer
answer (flags file n ok) w = (TransactRename.flags w file n).answer
answer commit w = (TransactCommit.commit w).answer

-- ---- reachable worlds

-- the outcome of a successful format of any image of bytes, with any map, table and state; and of a successful mount
pub record Formatted (w : World) : Type 0 where
  pub from : World
  pub bytes : Bytes from.image
  pub done : (VolumeFormat.format from).answer ≡ fine
  pub left : w ≡ (after_call VolumeFormat.format from).world

pub record Mounted (w : World) : Type 0 where
  pub from : World
  pub bytes : Bytes from.image
  pub done : (VolumeMount.mount from).answer ≡ fine
  pub left : w ≡ (after_call VolumeMount.mount from).world

-- what any calls with any arguments, refused ones too, reach from a start
pub data Reach (Start : World → Type 0) : World → Type 0 where
  starts : {w : World} → Start w → Reach Start w
  goes : {w : World} (c : Call) → Reach Start w → Reach Start (step c w)

-- demand 2's worlds
abbrev pub FromEither : World → Type 0
FromEither = Reach (λ w. Formatted w ⊎ Mounted w)

-- power is lost between two calls and comes back: the image is as it was; map, table and state are any
abbrev pub powered : World → List ℕ → Table → State → World
powered w m t s = record { image = w.image; map = m; table = t; state = s }

-- demand 3's worlds: what any calls, refused ones too, reach from a format; and, as often as power is lost and comes back, what the mount
-- after it leaves, with any map of that length, any table and any state, and what calls reach from there
pub data FromFormat : World → Type 0 where
  formats : {w : World} → Formatted w → FromFormat w
  reaches : {w : World} (c : Call) → FromFormat w → FromFormat (step c w)
  boots : {w : World} (m : List ℕ) (t : Table) (s : State) → length m ≡ length w.map → FromFormat w → FromFormat (step mount (powered w m t s))
