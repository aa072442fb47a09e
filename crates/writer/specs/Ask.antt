-- The writer's small questions; DECISIONS 46. Assumes nothing: these are definitions.
use Rattle.state.specs.declared.types.Refusal.{Refusal}
use Rattle.std.specs.Prelude.{ℕ, ◌+◌, cond, Result, Ok, Err}
use Rattle.state.specs.declared.types.Table.{Table}
use Rattle.state.specs.declared.types.Writer.{Writer}
use Rattle.state.specs.declared.types.State.{State}
use Rattle.state.specs.declared.types.Refusal.TheVariants.{NoSearch}
use Rattle.state.specs.Values.{offset_in}
use Rattle.writer.specs.Staging.{space}

-- with no writer open all of them are NoSearch
abbrev pub of_writer : State → (Writer → (Result ℕ Refusal)) → Result ℕ Refusal
of_writer s says = cond s.writer.active (says s.writer) (Err NoSearch)

-- what is left on the staged page
abbrev pub space_left : State → Result ℕ Refusal
space_left s = of_writer s (λ w. Ok (space w))

-- the number of the next byte
abbrev pub curr_seq : State → Result ℕ Refusal
curr_seq s = of_writer s (λ w. Ok (w.seq + w.length))

-- how far it lies behind the first one of the writer's file
abbrev pub offset_of : Table → State → Result ℕ Refusal
offset_of t s = of_writer s (λ w. offset_in t w.file (w.seq + w.length))
