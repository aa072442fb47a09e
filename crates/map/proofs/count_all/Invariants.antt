-- `map::count_all` meets its contract. The invariant: what was counted, and what is free in the rest, is what is free.
-- Assumes nothing.
use Rattle.map.specs.Map.{free_count}
use lib.ListN.{length}
use mathlib.Core.Path.{◌≡◌}
use Prim.Native.Nat.{◌≤◌, ◌+◌}
use Rattle.map.proofs.count_all.Given as goal

abbrev pub invariant-loop-few : goal.invariant-loop-few
invariant-loop-few l = (l.n + length l.rest ≤ length l.m) × (l.n + free_count l.rest ≡ free_count l.m)

abbrev pub decreases-loop-few : goal.decreases-loop-few
decreases-loop-few l = length l.rest
