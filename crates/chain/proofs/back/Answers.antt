-- `chain::back` meets its contract: the tests that led to each return say which case it is.
-- Assumes nothing.
use mathlib.Core.Path.{◌≡◌, sym, ◌∙◌, ap}
use Prim.Native.Nat.{ℕ}
use lib.Dec.{eqb}
use Rattle.seq.specs.Ids.{none}
use Rattle.chain.proofs.Places.{back_told_stays, back_told_reaches, back_told_breaks}
use Rattle.chain.proofs.back.Goals as goal
use Rattle.chain.proofs.back.Goals.{After-is_none}

-- the test of the link
is_none : (c : After-is_none) → c.is_none.result ≡ eqb c.args.p.link none
is_none c = c.is_none.ensures ∙ ap (λ (x : ℕ). eqb x none) c.from_raw.ensures

pub returns-then-p-limit : goal.returns-then-p-limit
returns-then-p-limit c = back_told_stays _ _ _ _ _ (is_none (goal.at.returns-then-p-limit c).After-is_none) c.if-p-limit.true

pub returns-in-Some : goal.returns-in-Some
returns-in-Some c =
    back_told_reaches _ _ _ _ _ (is_none (goal.at.returns-in-Some c).After-is_none) c.if-p-limit.false _ (sym c.in-Some.is ∙ c.lower.ensures)

pub returns-in-None : goal.returns-in-None
returns-in-None c =
    back_told_breaks _ _ _ _ _ (is_none (goal.at.returns-in-None c).After-is_none) c.if-p-limit.false (sym c.in-None.is ∙ c.lower.ensures)
