-- `map::count_few` meets its contract.
-- Assumes nothing.
use Rattle.map.specs.Map.{free_count}
use lib.ListN.{drop}
use mathlib.Core.Path.{◌≡◌}
use Prim.Native.Nat.{◌≤◌, ◌+◌}
use Rattle.map.proofs.count_few.Given as goal

abbrev pub invariant-loop-page : goal.invariant-loop-page
invariant-loop-page l = (l.n ≤ l.page-index) × (l.n + free_count (drop l.page-index l.m) ≡ free_count l.m)
