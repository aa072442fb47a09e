-- `map::release` meets its contract. The invariant: the bytes before the page are released, the others as they were.
-- Assumes nothing.
use Rattle.map.specs.Map.{unheld}
use lib.ListN.{take, drop}
use mathlib.Core.List.{◌++◌, map}
use mathlib.Core.Path.{◌≡◌}
use Rattle.map.proofs.release.Given as goal

abbrev pub invariant-loop-page : goal.invariant-loop-page
invariant-loop-page l = l.m ≡ take l.page-index (map unheld l.initial.m) ++ drop l.page-index l.initial.m
