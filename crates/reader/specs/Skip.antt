-- Skip and seek to an offset, by document 01, "Reading and search"; DECISIONS 21. Assumes nothing: these are definitions.
use Rattle.state.specs.declared.types.Refusal.{Refusal}
use Rattle.std.specs.Prelude.{ℕ, ◌+◌, cond, List, [], ◌∷◌, eqb, leb, ltb, Result, Ok, Err}
use Rattle.state.specs.declared.types.FileRecord.{FileRecord}
use Rattle.state.specs.declared.types.Refusal.TheVariants.{Gone, Eof, Short, Damaged}
use Rattle.state.specs.Refusals.{number}
use Rattle.state.specs.Values.{file_at, in_shape}
use Rattle.state.specs.World.{World, checked}
use Rattle.reader.specs.declared.Reader.{Reader}
use Rattle.reader.specs.Read.{Opened, shut, shown, open_at}

-- the answer in document 01's numbers: 0 and where the reader then stands, or the refusal's number
abbrev pub skipped_numbers : Result ℕ Refusal → List ℕ
skipped_numbers (Ok seq) = 0 ∷ seq ∷ []
skipped_numbers (Err why) = number why ∷ []

-- landing below last_seq opens the page there
abbrev pub landed_by : ℕ → Opened → Result ℕ Refusal
landed_by seq shut = Err Damaged
landed_by seq (shown p) = Ok seq

unfoldable pub landed : List ℕ → ℕ → FileRecord → ℕ → Result ℕ Refusal
landed img count f seq =
    cond (eqb seq f.last_seq) (Ok seq) (cond (in_shape count f) (landed_by seq (open_at img count f seq)) (Err Damaged))

unfoldable pub skip_in : List ℕ → ℕ → FileRecord → ℕ → ℕ → Result ℕ Refusal
skip_in img count f seq n =
    cond (eqb n 0) (Ok seq)
    (cond (ltb seq f.first_seq) (Err Gone)
    (cond (leb f.last_seq seq) (Err Eof)
    (cond (ltb f.last_seq (seq + n)) (Err Short)
    (landed img count f (seq + n)))))

unfoldable pub skip : World → Reader → ℕ → Result ℕ Refusal
skip w r n =
    checked w w.state.transaction r.file Err (skip_in w.image w.state.page_count (file_at w.table r.file) r.seq n)

-- a new reader stands at first_seq, and seeking to an offset is a skip from there
abbrev pub reader_of : ℕ → FileRecord → Reader
reader_of file f = record { file = file; seq = f.first_seq }

unfoldable pub seek_offset : World → ℕ → ℕ → Result ℕ Refusal
seek_offset w file n = skip w (reader_of file (file_at w.table file)) n
