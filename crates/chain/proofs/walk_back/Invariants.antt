-- `chain::walk_back` meets its contract: the walk ends where the walk from the page at hand ends.
-- Assumes nothing.
use mathlib.Core.Path.{◌≡◌}
use Rattle.chain.specs.Steps.{read_at}
use Rattle.chain.specs.Back.{walk_back, reached_by}
use Rattle.chain.proofs.walk_back.Given as goal

abbrev pub invariant-loop-next : goal.invariant-loop-next
invariant-loop-next l = reached_by (walk_back l.count (read_at l.image) l.limit l.here).ends ≡ reached_by (walk_back l.count (read_at l.image) l.limit l.fn.p).ends

abbrev pub decreases-loop-next : goal.decreases-loop-next
decreases-loop-next l = l.here.seq
