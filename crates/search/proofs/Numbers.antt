-- Numbers lose nothing: a search's answer can be read back from them, so that a promise kept in numbers is kept. Assumes nothing.
use Rattle.std.specs.Prelude.{Result, Ok, Err}
use Prim.Native.Nat.{ℕ}
use mathlib.Core.Path.{◌≡◌, refl}
use mathlib.Core.Bool.{cond}
use mathlib.Core.List.{List}
use lib.Dec.{eqb}
use lib.ListN.{get_or}
use Rattle.state.specs.declared.types.Table.{Table}
use Rattle.state.specs.declared.types.State.{State}
use Rattle.state.specs.World.{World, Outcome, after_call}
use Rattle.state.proofs.Numbers.{by_code, by_number, read_back, outcome_same}
use Rattle.search.specs.declared.Answer.{Answer}
use Rattle.search.specs.declared.Answer.TheVariants.{Offer as Offers, End}
use Rattle.state.specs.declared.types.Refusal.{Refusal}
use Rattle.search.specs.Search.{answer_numbers}
use Rattle.search.specs.Told.{after_search, yields, promised}

abbrev answer_in : List ℕ → Result Answer Refusal
answer_in l = by_code (get_or l 0 0) (Ok (cond (eqb (get_or l 1 0) 0) (End (get_or l 2 0)) (Offers (get_or l 2 0)))) Err

answer_back : (a : Result Answer Refusal) → answer_in (answer_numbers a) ≡ a
answer_back (Ok (Offers seq)) = refl
answer_back (Ok (End seq)) = refl
answer_back (Err why) = by_number (Ok (End 0)) Err why

pub answer_same : (a b : Result Answer Refusal) → answer_numbers a ≡ answer_numbers b → a ≡ b
answer_same = read_back answer_numbers answer_in answer_back

pub search_same : (call : World → Outcome (Result Answer Refusal)) (w : World) (a : Result Answer Refusal) (i m : List ℕ) (t : Table) (s : State)
    → yields a i m t s ≡ promised call w → after_search a i m t s ≡ after_call call w
search_same call w a i m t s e = outcome_same answer_numbers answer_same (after_search a i m t s) (after_call call w) e
