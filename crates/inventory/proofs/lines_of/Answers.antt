-- `inventory::lines_of` meets its contract: a line for each file.
-- Assumes nothing.
use Rattle.std.proofs.Common.{rules}
use Rattle.inventory.specs.Inventory.{no_line}
use Rattle.inventory.proofs.Listed.{lines_by}
use Rattle.inventory.proofs.lines_of.Goals as goal

pub returns : goal.returns
returns c = lines_by _ _ _ _ c.from_fn.ensures.items.long (λ k h. let f = c.from_fn.ensures.items.at k no_line h in search rules)
