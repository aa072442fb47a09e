-- `chain::walk_back` meets its contract: the walk ends where the walk from the page at hand ends.
-- Assumes nothing.
use mathlib.Core.Path.{◌≡◌, sym, ◌∙◌, ap}
use Rattle.chain.specs.declared.Place.{Place}
use Rattle.chain.specs.declared.Step.{Step}
use Rattle.chain.specs.declared.Step.TheVariants.{Stays, Reaches, Breaks}
use Rattle.chain.specs.Steps.{read_at, Trace}
use Rattle.chain.specs.Back.{reached_by}
use Rattle.chain.proofs.Places.{SaysBack, says_back}
use Rattle.chain.proofs.walk_back.Goals as goal
use Rattle.chain.proofs.walk_back.Goals.{After-back}

-- what the step of a turn says
turn : (g : After-back) (x : Step Place) → g.back.result ≡ x
    → let a = g.args in
    SaysBack a.count (read_at a.image.now) a.limit g.loop-next.here x
turn g x e = says_back _ _ _ _ x (sym e ∙ g.back.ensures)

pub returns-in-Stays : goal.returns-in-Stays
returns-in-Stays c =
    ap (λ (t : Trace). reached_by t.ends) (sym (turn (goal.at.returns-in-Stays c).After-back Stays c.in-Stays.is)) ∙ c.loop-next.invariant

pub returns-in-Breaks : goal.returns-in-Breaks
returns-in-Breaks c =
    ap reached_by (sym (turn (goal.at.returns-in-Breaks c).After-back Breaks c.in-Breaks.is)) ∙ c.loop-next.invariant

pub loop-next-smaller : goal.loop-next-smaller
loop-next-smaller c = (turn (goal.at.loop-next-smaller c).After-back (Reaches _) c.in-Reaches.is).1

pub loop-next-preserved : goal.loop-next-preserved
loop-next-preserved c =
    ap (λ (t : Trace). reached_by t.ends) (sym (turn (goal.at.loop-next-preserved c).After-back (Reaches _) c.in-Reaches.is).0) ∙ c.loop-next.invariant
