-- `search::hunt::hunt` meets its contract: the first level is one of nine.
-- Assumes nothing.
use Prim.Native.Nat.{◌+◌}
use mathlib.Core.Path.{◌∙◌}
use native.Mathlib.Omega.{arith}
use Rattle.seq.proofs.Laws.{level_le}
use Rattle.search.proofs.hunt.hunt.Goals as goal

pub really_seek-requires : goal.really_seek-requires
really_seek-requires c = omega (arith, c.first_level-level.ensures, level_le (c.args.s.now.left + 1) c.args.s.now.right)

pub returns : goal.returns
returns c = c.really_seek.ensures ∙ rw c.first_level-level.ensures
