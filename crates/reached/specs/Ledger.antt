-- What was written, call by call, by the calls and their answers alone: no table and no page is looked at. A file's bytes stand in a list by
-- their numbers, from 0 on; those below its first number stay in it. Only a write adds bytes, and only where it succeeds.
-- Assumes nothing: these are definitions.
use Rattle.std.specs.Prelude.{ℕ, ◌+◌, ◌-◌, ◌≤◌, ◌<◌, min, ◌≡◌, cond, List, [], ◌++◌, eqb, leb, length, get_or}
use Rattle.chain.specs.Steps.{read_at, walk}
use Rattle.state.specs.declared.types.Writer as StateWriter
use Rattle.state.specs.declared.types.Table.{Table}
use Rattle.state.specs.declared.types.State.{State}
use Rattle.writer.specs.Staging.{previous_of}
use Rattle.reached.specs.Asked.{Byte, byte, byte_by, byte_at}
use Rattle.state.specs.Refusals.{on_done, fine}
use Rattle.state.specs.Values.{file_at}
use Rattle.state.specs.declared.types.FileRecord.{FileRecord}
use Rattle.state.specs.World.{World}
use Rattle.volume.specs.Format as VolumeFormat
use Rattle.volume.specs.Mount as VolumeMount
use Rattle.writer.specs.Open.{open_writer}
use Rattle.writer.specs.Write as WriterWrite
use Rattle.writer.specs.Finish as WriterFinish
use Rattle.transact.specs.Truncate as TransactTruncate
use Rattle.transact.specs.Rename as TransactRename
use Rattle.transact.specs.Commit as TransactCommit
use Rattle.calls.specs.Calls as calls
use Rattle.calls.specs.Calls.{Call, step, Formatted, powered}

-- a file: its first live number, and its bytes by their numbers
pub record Noted : Type 0 where
  pub first : ℕ
  pub bytes : List ℕ

abbrev pub blank : Noted
blank = record { first = 0; bytes = [] }

-- the files as they are and as the last commit left them; the file that a writer was opened on last, and what its bytes will be
pub record Ledger : Type 0 where
  pub files : ℕ → Noted
  pub committed : ℕ → Noted
  pub opened : ℕ
  pub draft : List ℕ

abbrev pub nothing : Ledger
nothing = record { files = λ i. blank; committed = λ i. blank; opened = 0; draft = [] }

abbrev pub put_at : (ℕ → Noted) → ℕ → Noted → ℕ → Noted
put_at f i x j = cond (eqb j i) x (f j)

abbrev pub with_files : Ledger → (ℕ → Noted) → Ledger
with_files g f = record { files = f; committed = g.committed; opened = g.opened; draft = g.draft }

abbrev pub with_draft : Ledger → ℕ → List ℕ → Ledger
with_draft g i l = record { files = g.files; committed = g.committed; opened = i; draft = l }

-- the first number advanced by the smaller of n and the length; a file of which nothing remains starts anew
abbrev pub advanced : ℕ → Noted → ℕ
advanced n x = x.first + min n (length x.bytes - x.first)

abbrev pub shortened : ℕ → Noted → Noted
shortened n x = cond (eqb (advanced n x) (length x.bytes)) blank (record { first = advanced n x; bytes = x.bytes })

-- what was not committed is gone
abbrev pub reverted : Ledger → Ledger
reverted g = record { files = g.committed; committed = g.committed; opened = 0; draft = [] }

-- a call that succeeds; one that is refused notes nothing
unfoldable pub note : Call → World → Ledger → Ledger
note calls.format w g = on_done (VolumeFormat.format w).answer (λ why. g) nothing
note calls.mount w g = on_done (VolumeMount.mount w).answer (λ why. g) (reverted g)
note (calls.open_writer i) w g = on_done (open_writer w i).answer (λ why. g) (with_draft g i (g.files i).bytes)
note (calls.write l ok) w g = on_done (WriterWrite.write w l).answer (λ why. g) (with_draft g g.opened (g.draft ++ l))
note calls.finish w g =
    on_done (WriterFinish.finish w).answer (λ why. g)
    (with_files g (put_at g.files g.opened (record { first = (g.files g.opened).first; bytes = g.draft })))
note (calls.truncate i n) w g =
    on_done (TransactTruncate.truncate w i n).answer (λ why. g)
    (cond (eqb n 0) g (with_files g (put_at g.files i (shortened n (g.files i)))))
note (calls.rename i j) w g = on_done (TransactRename.rename w i j).answer (λ why. g) (with_files g (put_at (put_at g.files i (g.files j)) j (g.files i)))
note calls.commit w g =
    on_done (TransactCommit.commit w).answer (λ why. g)
    (record { files = g.files; committed = g.files; opened = g.opened; draft = g.draft })
note calls.discard w g = g
note calls.record_end w g = g
note (calls.flags i n ok) w g = g
note (calls.search i) w g = g
note calls.left w g = g
note calls.right w g = g
note (calls.locate i n) w g = g
note (calls.read r out) w g = g
note (calls.skip r n) w g = g
note (calls.seek i n) w g = g

-- demand 3's worlds (crate calls, FromFormat), with what was written
pub data Written : World → Ledger → Type 0 where
  starts : {w : World} → Formatted w → Written w nothing
  goes : {w : World} {g : Ledger} (c : Call) → Written w g → Written (step c w) (note c w g)
  boots : {w : World} {g : Ledger} (m : List ℕ) (t : Table) (s : State) → length m ≡ length w.map → Written w g → Written (step calls.mount (powered w m t s)) (reverted g)

-- a file's record in world w is as noted: first_seq, as many bytes as last_seq says, and each live number's byte
pub record AsFile (w : World) (f : FileRecord) (x : Noted) : Type 0 where
  pub first : x.first ≡ f.first_seq
  pub size : length x.bytes ≡ f.last_seq
  pub bytes : (n : ℕ) → f.first_seq ≤ n → n < f.last_seq → byte_at w.image w.state.page_count f n ≡ byte (get_or x.bytes n 0)

abbrev pub AsNoted : World → ℕ → Noted → Type 0
AsNoted w i x = AsFile w (file_at w.table i) x

-- power comes back: the mount of the image as it is succeeds, and every file is as it was committed
pub record PowersUp (w : World) (g : Ledger) (m : List ℕ) (t : Table) (s : State) : Type 0 where
  pub mounts : (VolumeMount.mount (powered w m t s)).answer ≡ fine
  pub files : (i : ℕ) → i < 8 → AsNoted (step calls.mount (powered w m t s)) i (g.committed i)

-- the byte of an open writer at a number: staged, or on the pages behind the staged one
unfoldable pub draft_at : List ℕ → ℕ → StateWriter.Writer → ℕ → Byte
draft_at img count x n =
    cond (leb x.seq n) (byte (get_or x.staged (n - x.seq) 0)) (byte_by img n (walk count (read_at img) n (previous_of x)).ends)
