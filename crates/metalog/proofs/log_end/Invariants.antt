-- `metalog::log_end` meets its contract.
-- Assumes nothing.
use Rattle.metalog.proofs.Laws.{further}
use Rattle.metalog.specs.Log.{area_of, log_of, log_at, end_of}
use lib.ListN.{length}
use mathlib.Core.Path.{◌≡◌}
use Prim.Native.Nat.{◌≤◌, ◌+◌}
use Rattle.metalog.proofs.log_end.Given as goal

abbrev pub invariant-loop-batch : goal.invariant-loop-batch
invariant-loop-batch l =
    (goal.iterator-loop-batch).can_next l.batch-iterator
    × (goal.iterator-loop-batch).is_finite l.batch-iterator
    × (l.end + length l.batch-iterator.rest.now ≤ length (area_of l.image l.p))
    × (end_of (log_at l.image l.p) ≡ further l.end (end_of (log_of l.batch-iterator.rest.now)))
