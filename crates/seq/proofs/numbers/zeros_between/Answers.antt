-- `seq::numbers::zeros_between` meets its contract: 0 is a multiple of every power, and else the top differing bit decides.
-- Assumes nothing.
use Prim.Native.Nat.{◌-◌}
use native.Mathlib.Omega.{arith}
use Rattle.seq.proofs.Top.{xor_pos}
use Rattle.seq.proofs.Laws.{zeros_zero, zeros_top}
use Rattle.seq.proofs.numbers.zeros_between.Goals as goal

pub returns-then-a-eq0 : goal.returns-then-a-eq0
returns-then-a-eq0 c = zeros_zero c.if-a-eq0.true c.requires

pub top_bit-requires : goal.top_bit-requires
top_bit-requires c = xor_pos {x = c.args.a - 1} {y = c.args.b - 1} (omega arith)

pub returns : goal.returns
returns c = zeros_top (omega arith) c.requires c.top_bit.ensures
