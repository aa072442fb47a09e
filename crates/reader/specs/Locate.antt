-- Locate, by document 01, "Links": the page of a number, unopened, and Gone or Eof outside the file; DECISIONS 4, 21 and 22.
-- Assumes nothing: these are definitions.
use Rattle.std.specs.Prelude.{ℕ, cond, List, [], ◌∷◌, leb, ltb, length, Result, Ok, Err}
use Rattle.chain.specs.Files.{last_of}
use Rattle.chain.specs.Steps.{read_at, Sought, damaged, at, Trace, seek}
use Rattle.state.specs.declared.types.FileRecord.{FileRecord}
use Rattle.state.specs.declared.types.Refusal.{Refusal}
use Rattle.state.specs.declared.types.Refusal.TheVariants.{Gone, Eof, Damaged}
use Rattle.state.specs.Refusals.{number}
use Rattle.state.specs.Values.{file_at, in_shape}
use Rattle.state.specs.World.{World, checked}
use Rattle.reader.specs.declared.Located.{Located}

-- the answer in document 01's numbers: 0, the page and the headers read, or the refusal's number
abbrev pub located_numbers : Result Located Refusal → List ℕ
located_numbers (Ok l) = 0 ∷ l.page ∷ l.headers ∷ []
located_numbers (Err why) = number why ∷ []

-- the rule's path of a number
abbrev pub path_of : List ℕ → ℕ → FileRecord → ℕ → Trace
path_of img count f seq = seek count (read_at img) seq (last_of f)

-- a page, and the headers read on the way
abbrev pub located_at : ℕ → ℕ → Result Located Refusal
located_at page headers = Ok (record { page = page; headers = headers })

-- the path's end, and the headers read on the way
abbrev pub located_by : ℕ → Sought → Result Located Refusal
located_by n damaged = Err Damaged
located_by n (at q) = located_at q.page_id n

-- a record out of shape is not followed
unfoldable pub locate_in : List ℕ → ℕ → FileRecord → ℕ → Result Located Refusal
locate_in img count f seq =
    cond (ltb seq f.first_seq) (Err Gone)
    (cond (leb f.last_seq seq) (Err Eof)
    (cond (in_shape count f) (located_by (length (path_of img count f seq).path) (path_of img count f seq).ends) (Err Damaged)))

unfoldable pub locate : World → ℕ → ℕ → Result Located Refusal
locate w file seq =
    checked w w.state.transaction file Err (locate_in w.image w.state.page_count (file_at w.table file) seq)
