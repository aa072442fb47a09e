-- All that a call can see and change, and what a call's definition says of it. Assumes nothing: these are definitions.
use Rattle.std.specs.Prelude.{ℕ, List, [], length, Bool, Err}
use Rattle.page.specs.Store.{Store, ran}
use Rattle.state.specs.declared.types.Table.{Table}
use Rattle.state.specs.declared.types.State.{State}
use Rattle.state.specs.declared.types.Refusal.{Refusal}
use Rattle.state.specs.Checks.{checks}
use Rattle.state.specs.Refusals.{numbers, on_done, Done}

pub record World : Type 0 where
  pub image : List ℕ
  pub map : List ℕ
  pub table : Table
  pub state : State

-- what a call answers, the stores that it makes in their order, and map, table and state after it
pub record Outcome (A : Type 0) : Type 0 where
  pub answer : A
  pub stores : List Store
  pub map : List ℕ
  pub table : Table
  pub state : State

-- the answer and the world that it leaves
pub record After (A : Type 0) : Type 0 where
  pub answer : A
  pub world : World

-- a call's outcome made true
abbrev pub ended : {A : Type 0} → World → Outcome A → After A
ended w o = record { answer = o.answer; world = record { image = ran w.image o.stores; map = o.map; table = o.table; state = o.state } }

-- a call, by its definition, on a world
abbrev pub after_call : {A : Type 0} → (World → Outcome A) → World → After A
after_call call w = ended w (call w)

-- a world with an answer and nothing changed
abbrev pub kept : {A : Type 0} → World → A → Outcome A
kept w a = record { answer = a; stores = []; map = w.map; table = w.table; state = w.state }

-- a refusal changes nothing
abbrev pub refuse : World → Refusal → Outcome Done
refuse w why = kept w (Err why)

-- checks 1 to 4 of a world, then the rest
abbrev pub checked {ℓ} : {A : Type ℓ} → World → Bool → ℕ → (Refusal → A) → A → A
checked w busy file refuse go = on_done (checks (length w.image) (length w.map) w.state busy file) refuse go

-- ---- the world of a call's arguments, and what it leaves

abbrev pub before : List ℕ → List ℕ → Table → State → World
before i m t s = record { image = i; map = m; table = t; state = s }

-- its answer, and image, map, table and state as it leaves them
abbrev pub after : {A : Type 0} → A → List ℕ → List ℕ → Table → State → After A
after a i m t s = record { answer = a; world = before i m t s }

-- ---- the same in document 01's numbers: what the promises speak of

-- an answer in numbers, and the world with it
abbrev pub in_numbers : {A : Type 0} → (A → List ℕ) → After A → After (List ℕ)
in_numbers f a = record { answer = f a.answer; world = a.world }

-- what a call answers and leaves
abbrev pub yields : Done → List ℕ → List ℕ → Table → State → After (List ℕ)
yields a i m t s = in_numbers numbers (after a i m t s)

-- what its definition gives
abbrev pub promised : (World → Outcome Done) → World → After (List ℕ)
promised call w = in_numbers numbers (after_call call w)
