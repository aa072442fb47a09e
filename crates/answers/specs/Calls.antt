-- The calls that commands make, and what is said of each answer, by docs/REPLAY.md. Assumes nothing: these are definitions.
use Rattle.state.specs.declared.types.Refusal.{Refusal}
use Rattle.std.specs.Prelude.{ℕ, List, [], ◌∷◌, cond, ltb, length, take, Result, Ok, Err}
use Rattle.runs.specs.Runs.{part_of, splice}
use Rattle.seq.specs.Seq.{Reply, number, refused, zeros_says, index_says, jump_says}
use Rattle.seq.specs.Seed.{seed_after}
use Rattle.state.specs.declared.types.Table.{Table}
use Rattle.state.specs.declared.types.State.{State}
use Rattle.state.specs.Refusals.{on_done, Done}
use Rattle.state.specs.World as W
use Rattle.state.specs.World.{After, after_call, before}
use Rattle.volume.specs.Format as VolumeFormat
use Rattle.volume.specs.Mount as VolumeMount
use Rattle.reader.specs.declared.Located.{Located}
use Rattle.reader.specs.Locate as ReaderLocate
use Rattle.reader.specs.Read as ReaderRead
use Rattle.reader.specs.Skip as ReaderSkip
use Rattle.writer.specs.Open.{open_writer}
use Rattle.writer.specs.Write as WriterWrite
use Rattle.writer.specs.Finish as WriterFinish
use Rattle.transact.specs.Truncate as TransactTruncate
use Rattle.transact.specs.Rename as TransactRename
use Rattle.transact.specs.Commit as TransactCommit
use Rattle.search.specs.declared.Answer.{Answer}
use Rattle.search.specs.declared.Answer.TheVariants as A
use Rattle.search.specs.Search as SearchCalls
use Rattle.script.specs.declared.command.Volume.{Volume}
use Rattle.script.specs.declared.command.Volume.TheVariants.{Format, Mount}
use Rattle.script.specs.declared.command.Reading.{Reading}
use Rattle.script.specs.declared.command.Reading.TheVariants.{Locate, Read, Skip}
use Rattle.script.specs.declared.command.Searching.{Searching}
use Rattle.script.specs.declared.command.Searching.TheVariants.{Search, Left as ToLeft, Right as ToRight}
use Rattle.script.specs.declared.command.Writing.{Writing}
use Rattle.script.specs.declared.command.Writing.TheVariants.{Open, Write, End, Finish, Discard}
use Rattle.script.specs.declared.command.Files.{Files}
use Rattle.script.specs.declared.command.Files.TheVariants.{Truncate, Rename, Flags, Commit}
use Rattle.script.specs.declared.command.Helper.{Helper}
use Rattle.script.specs.declared.command.Helper.TheVariants.{Zeros, Index, SpanSeq, Seed}
use Rattle.script.specs.declared.text.Output.{Output}
use Rattle.script.specs.Text.{ascii, puts}
use Rattle.script.specs.Say as say
use Rattle.script.specs.Say.{formed, hex, bad}
use Rattle.answers.specs.declared.world.World.{World}
use Rattle.answers.specs.World.{Turned, Left, left}

-- the world of a call: what is lent of the buffers, with table and state
abbrev pub lent : List ℕ → List ℕ → World → W.World
lent i m w = before i m w.table w.state

-- the output with an answer, and the world from then on
abbrev pub told_by : World → Output → List (List ℕ) → Table → State → Turned
told_by w p said t s = record { out = puts p said; world = record { table = t; state = s; image = w.image; map = w.map } }

-- what a call leaves, with its answer
abbrev pub told : {A : Type 0} → (A → List (List ℕ)) → World → Output → After A → Left
told say w p a = left a.world.image a.world.map (told_by w p (say a.answer) a.world.table a.world.state)

abbrev pub done_by : (W.World → W.Outcome Done) → List ℕ → List ℕ → World → Output → Left
done_by call i m w p = told say.done w p (after_call call (lent i m w))

abbrev pub on_volume : Volume → List ℕ → List ℕ → World → Output → Left
on_volume Format i m w p = done_by VolumeFormat.format i m w p
on_volume Mount i m w p = done_by VolumeMount.mount i m w p

-- ---- reading

abbrev pub located : Result Located Refusal → List (List ℕ)
located (Ok at) = formed (ascii "at % %\n") (at.page ∷ at.headers ∷ [])
located (Err why) = say.refused why

abbrev pub skipped : Result ℕ Refusal → List (List ℕ)
skipped (Ok seq) = formed (ascii "to %\n") (seq ∷ [])
skipped (Err why) = say.refused why

-- a buffer, here the bytes that commands carry, and the output
pub record Sight : Type 0 where
  pub bytes : List ℕ
  pub out : Output

abbrev pub sight : List ℕ → Output → Sight
sight b p = record { bytes = b; out = p }

-- what is read goes by way of those bytes, from their start on
abbrev pub read_by : List ℕ → Output → ReaderRead.AfterRead → Sight
read_by b p a = sight (splice b 0 a.out) (puts p (on_done a.answer say.refused (hex (ascii "bytes") a.out)))

abbrev pub read_of : W.World → ℕ → ℕ → ℕ → List ℕ → Output → Sight
read_of v file seq n b p =
    cond (ltb (length b) n) (sight b (puts p bad))
    (read_by b p (ReaderRead.read v (record { file = file; seq = seq }) (take n b)))

abbrev pub on_reading : Reading → List ℕ → List ℕ → List ℕ → World → Output → Sight
on_reading (Locate file seq) i m b w p = sight b (puts p (located (ReaderLocate.locate (lent i m w) file seq)))
on_reading (Read file seq n) i m b w p = read_of (lent i m w) file seq n b p
on_reading (Skip file seq n) i m b w p = sight b (puts p (skipped (ReaderSkip.skip (lent i m w) (record { file = file; seq = seq }) n)))

-- ---- search

abbrev pub sought : Result Answer Refusal → List (List ℕ)
sought (Ok (A.Offer seq)) = formed (ascii "offer %\n") (seq ∷ [])
sought (Ok (A.End seq)) = formed (ascii "end %\n") (seq ∷ [])
sought (Err why) = say.refused why

abbrev pub on_searching : Searching → List ℕ → List ℕ → World → Output → Left
on_searching (Search file) i m w p = told sought w p (after_call (λ v. SearchCalls.start v file) (lent i m w))
on_searching ToLeft i m w p = told sought w p (after_call SearchCalls.left (lent i m w))
on_searching ToRight i m w p = told sought w p (after_call SearchCalls.right (lent i m w))

-- ---- writing and files

abbrev pub on_writing : Writing → List ℕ → List ℕ → List ℕ → World → Output → Left
on_writing (Open file) b i m w p = done_by (λ v. open_writer v file) i m w p
on_writing (Write n) b i m w p = done_by (λ v. WriterWrite.write v (part_of b 0 n)) i m w p
on_writing End b i m w p = done_by WriterWrite.record_end i m w p
on_writing Finish b i m w p = done_by WriterFinish.finish i m w p
on_writing Discard b i m w p = done_by WriterFinish.discard i m w p

abbrev pub on_files : Files → List ℕ → List ℕ → World → Output → Left
on_files (Truncate file n) i m w p = done_by (λ v. TransactTruncate.truncate v file n) i m w p
on_files (Rename from to) i m w p = done_by (λ v. TransactRename.rename v from to) i m w p
on_files (Flags file flags) i m w p = done_by (λ v. TransactRename.flags v file flags) i m w p
on_files Commit i m w p = done_by TransactCommit.commit i m w p

-- ---- helpers: a number, or a refusal by its number

abbrev pub replied : Reply → List (List ℕ)
replied (number n) = formed (ascii "value %\n") (n ∷ [])
replied (refused n) = formed (ascii "refused %\n") (n ∷ [])

abbrev pub on_helper : Helper → List (List ℕ)
on_helper (Zeros a b) = replied (zeros_says a b)
on_helper (Index a b) = replied (index_says a b)
on_helper (SpanSeq n i) = replied (jump_says n i)
on_helper (Seed s) = formed (ascii "value %\n") (seed_after s ∷ [])
