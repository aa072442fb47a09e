-- `search::hunt::first_level` meets its contract: from left + 1 on the range is empty where right is at or below left.
-- Assumes nothing.
use Prim.Native.Nat.{◌+◌}
use native.Mathlib.Omega.{arith}
use borrow.Author.Tests.{le-ltb}
use Rattle.seq.specs.Seq.{level}
use Rattle.search.proofs.hunt.first_level.Goals as goal

pub returns-then-right-left : goal.returns-then-right-left
unfolding level
returns-then-right-left c = rw (le-ltb (c.args.left + 1) c.args.right (omega arith))
