-- `script::text::Words::next` meets its contract.
-- Assumes nothing.
use Rattle.std.proofs.Common.{◌≡◌, ◌<◌, List, ℕ, ◌∷◌, length, arith}
use Rattle.script.proofs.Laws.{words_first}
use Rattle.script.proofs.text.WordsIterator.next.Goals as goal

shorter : (ws vs : List (List ℕ)) (w : List ℕ) → ws ≡ w ∷ vs → length vs < length ws
shorter ws vs w e = rw e (omega arith)

pub returns-clause-steps : goal.returns-clause-steps
returns-clause-steps c = rw (← c.self.view_is, c.in_ok-self.was, words_first) (cc (c.cut.ensures.0, c.cut.ensures.1))

pub returns-clause-goes : goal.returns-clause-goes
returns-clause-goes c = let l = shorter _ _ _ (returns-clause-steps c) in
    record { on = λ f. (tt, f, l); keeps = tt; rests = λ f. tt }
