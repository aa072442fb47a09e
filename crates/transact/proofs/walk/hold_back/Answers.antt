-- `transact::walk::hold_back` meets its contract: what is held in the end, of the pages after the one at hand, is what the whole holds.
-- Assumes nothing.
use mathlib.Core.Path.{sym, ◌∙◌}
use native.Mathlib.Omega.{arith}
use Rattle.transact.proofs.Steps.{held_on}
use Rattle.transact.proofs.walk.hold_back.Goals as goal

pub loop-next-smaller : goal.loop-next-smaller
loop-next-smaller c = (held_on _ _ _ _ _ c.loop-next.invariant.1 _ _ _ (sym c.in-Reaches.is ∙ c.back.ensures) c.hold_other.ensures).0

pub loop-next-preserved : goal.loop-next-preserved
loop-next-preserved c =
    let o = c.loop-next in
    let w = held_on _ _ _ _ _ o.invariant.1 _ _ _ (sym c.in-Reaches.is ∙ c.back.ensures) c.hold_other.ensures in
    (omega (arith, c.hold_other.auto.map, o.invariant.0), w.1, w.2 ∙ o.invariant.2)
