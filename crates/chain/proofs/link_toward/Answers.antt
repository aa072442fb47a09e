-- `chain::link_toward` meets its contract: the index that was found is one of nine.
-- Assumes nothing.
use Prim.Native.Nat.{◌≤◌}
use native.Mathlib.Omega.{arith}
use Rattle.seq.proofs.Laws.{level_le}
use Rattle.chain.proofs.link_toward.Goals as goal
use Rattle.chain.proofs.link_toward.Goals.{After-link_index-i}

small : (c : After-link_index-i) → c.link_index-i.result ≤ 8
small c = rw c.link_index-i.ensures (level_le _ _)

pub offset_bounds-p-i : goal.offset_bounds-p-i
offset_bounds-p-i c = omega (arith, small (goal.at.offset_bounds-p-i c).After-link_index-i)

pub bounds-p-i : goal.bounds-p-i
bounds-p-i c = omega (arith, small (goal.at.bounds-p-i c).After-link_index-i)
