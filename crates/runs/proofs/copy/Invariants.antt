-- `runs::copy` meets its contract. The invariant: the first i bytes are those of s, the others as they were.
-- Assumes nothing.
use lib.ListN.{take, drop}
use mathlib.Core.List.{◌++◌}
use mathlib.Core.Path.{◌≡◌}
use Rattle.runs.proofs.copy.Given as goal

abbrev pub invariant-loop-i : goal.invariant-loop-i
invariant-loop-i l = l.d ≡ take l.i l.s ++ drop l.i l.initial.d
