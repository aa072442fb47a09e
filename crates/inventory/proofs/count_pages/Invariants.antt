-- `inventory::count_pages` meets its contract: the pages counted so far and those of the walk from the page at hand are all. A page more
-- is a lower start, so that the count stays small.
-- Assumes nothing.
use mathlib.Core.Path.{◌≡◌}
use Prim.Native.Nat.{◌+◌, ◌≤◌}
use Rattle.chain.specs.Links.{start}
use Rattle.chain.specs.Steps.{read_at}
use Rattle.inventory.specs.Inventory.{counted_from}
use Rattle.inventory.proofs.Pages.{counts_from}
use Rattle.inventory.proofs.count_pages.Given as goal

abbrev pub invariant-loop-next : goal.invariant-loop-next
invariant-loop-next l = (counts_from l.count (read_at l.image) l.limit l.n l.here ≡ counted_from l.image l.count l.limit 1 l.p) × (l.n + l.here.seq ≤ start l.p + 1)

abbrev pub decreases-loop-next : goal.decreases-loop-next
decreases-loop-next l = l.here.seq
