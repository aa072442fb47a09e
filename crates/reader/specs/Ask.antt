-- Small questions of a reader, of the files and of the pages; DECISIONS 46. A reader's offset is `offset_in` of `state`. Assumes nothing: these are definitions.
use Rattle.state.specs.declared.types.Refusal.{Refusal}
use Rattle.std.specs.Prelude.{ℕ, ◌-◌, Bool, true, false, cond, not, List, [], ◌∷◌, eqb, ltb, take, Result, Ok, Err}
use Rattle.std.specs.Int.Bits.{bit_and}
use Rattle.map.specs.Map.{free_count}
use Rattle.state.specs.declared.types.Table.{Table}
use Rattle.state.specs.declared.types.State.{State}
use Rattle.state.specs.declared.types.Refusal.TheVariants.{BadFile}
use Rattle.state.specs.Values.{file_at, is_empty}
use Rattle.reader.specs.declared.Reader.{Reader}
use Rattle.reader.specs.Skip.{reader_of}

-- a new reader stands at first_seq, and at 0 for a file above 7
unfoldable pub reader_at : Table → ℕ → Reader
reader_at t file = cond (ltb 7 file) (record { file = file; seq = 0 }) (reader_of file (file_at t file))

-- whether a file is empty: one above 7 is BadFile
unfoldable pub empty_says : Table → ℕ → Result Bool Refusal
empty_says t file = cond (ltb 7 file) (Err BadFile) (cond (is_empty (file_at t file)) (Ok true) (Ok false))

-- a file above 7 has no flags
unfoldable pub flags_at : Table → ℕ → ℕ
flags_at t file = cond (ltb 7 file) 0 (file_at t file).flags

-- it has one of the flags
abbrev pub has_flag : Table → ℕ → ℕ → Bool
has_flag t flag file = not (eqb (bit_and (flags_at t file) flag) 0)

-- which files have one
abbrev pub with_flag : Table → ℕ → List Bool
with_flag t flag =
    has_flag t flag 0
    ∷ has_flag t flag 1
    ∷ has_flag t flag 2
    ∷ has_flag t flag 3
    ∷ has_flag t flag 4
    ∷ has_flag t flag 5
    ∷ has_flag t flag 6
    ∷ has_flag t flag 7
    ∷ []

-- free pages are counted below page_count, and the others there are used
abbrev pub free_pages : List ℕ → State → ℕ
free_pages m s = free_count (take s.page_count m)

abbrev pub used_pages : List ℕ → State → ℕ
used_pages m s = s.page_count - free_pages m s
