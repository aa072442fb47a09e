-- `metalog::replay_at` meets its contract.
-- Assumes nothing.
use Rattle.metalog.specs.Log.{log_of, log_at, good, fresh, replayed, taken}
use mathlib.Core.Bool.{true}
use mathlib.Core.Path.{◌≡◌}
use Rattle.metalog.proofs.replay_at.Given as goal

abbrev pub invariant-loop-batch : goal.invariant-loop-batch
invariant-loop-batch l =
    (goal.iterator-loop-batch).can_next l.batch-iterator
    × (goal.iterator-loop-batch).is_finite l.batch-iterator
    × (taken (replayed l.count (fresh true) (log_at l.image l.p)) ≡ taken (replayed l.count (good l.files) (log_of l.batch-iterator.rest.now)))
