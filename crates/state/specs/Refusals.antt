-- Refusals, by document 01, "Refusal numbers". Assumes nothing: these are definitions.
use Rattle.std.specs.Prelude.{ℕ, Bool, true, false, List, [], ◌∷◌, Result, Ok, Err}
use Rattle.state.specs.declared.types.Refusal.{Refusal}
use Rattle.state.specs.declared.types.Refusal.TheVariants.{BadSize, NotMounted, Busy, BadFile, Damaged, Eof, Short, NoRoom, SeqEnd, NoSearch, Gone, Range}

-- what a call answers that gives no value, and the shared checks: done, or refused
abbrev pub Done : Type 0
Done = Result (Unit {0}) Refusal

abbrev pub fine : Done
fine = Ok tt

-- document 01's number of each
abbrev pub number : Refusal → ℕ
number BadSize = 1
number NotMounted = 2
number Busy = 3
number BadFile = 4
number Damaged = 5
number Eof = 6
number Short = 7
number NoRoom = 8
number SeqEnd = 9
number NoSearch = 10
number Gone = 11
number Range = 12

-- an answer in document 01's numbers: 0, or the refusal's number; then the values that come with it
abbrev pub numbers : Done → List ℕ
numbers (Ok u) = 0 ∷ []
numbers (Err why) = number why ∷ []

-- a refusal's place in the order of checking: 1, 2, 3, 4, 12, 11, 6, 7, 9, 8, 10, 5
abbrev pub place : Refusal → ℕ
place BadSize = 0
place NotMounted = 1
place Busy = 2
place BadFile = 3
place Range = 4
place Gone = 5
place Eof = 6
place Short = 7
place SeqEnd = 8
place NoRoom = 9
place NoSearch = 10
place Damaged = 11

-- by what a check found
abbrev pub on_done {ℓ} : {A : Type ℓ} → Done → (Refusal → A) → A → A
on_done (Err why) refuse go = refuse why
on_done (Ok u) refuse go = go

-- ---- the answers of small questions, by document 01's numbers: 0 and the value, yes as 1 and no as 0, or the refusal's number alone

abbrev pub asked_numbers : Result ℕ Refusal → List ℕ
asked_numbers (Ok n) = 0 ∷ n ∷ []
asked_numbers (Err why) = number why ∷ []

abbrev pub whether_numbers : Result Bool Refusal → List ℕ
whether_numbers (Ok true) = 0 ∷ 1 ∷ []
whether_numbers (Ok false) = 0 ∷ 0 ∷ []
whether_numbers (Err why) = number why ∷ []
