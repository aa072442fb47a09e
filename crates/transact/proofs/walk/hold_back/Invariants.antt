-- `transact::walk::hold_back` meets its contract: what is held in the end, of the pages after the one at hand, is what the whole holds.
-- Assumes nothing.
use mathlib.Core.Path.{◌≡◌}
use lib.ListN.{length}
use Rattle.chain.specs.Steps.{read_at}
use Rattle.chain.specs.Back.{walk_back}
use Rattle.transact.specs.Truncate.{others, held_all}
use Rattle.transact.specs.Walks.{Ends}
use Rattle.transact.proofs.walk.hold_back.Given as goal

abbrev pub invariant-loop-next : goal.invariant-loop-next
invariant-loop-next l = (length l.map ≡ length l.initial.map) × Ends l.image l.count l.here l.limit × (held_all l.map (others l.last (walk_back l.count (read_at l.image) l.limit l.here).path) ≡ held_all l.initial.map (others l.last (walk_back l.count (read_at l.image) l.limit l.initial.here).path))

abbrev pub decreases-loop-next : goal.decreases-loop-next
decreases-loop-next l = l.here.seq
