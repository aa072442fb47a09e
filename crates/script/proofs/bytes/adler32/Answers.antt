-- `script::bytes::adler32` meets its contract.
-- Assumes nothing.
use Rattle.std.proofs.Common.{arith, sym, ◌∙◌}
use lib.ListN.{drop_of_length-le}
use Rattle.script.specs.Bytes.{adler}
use Rattle.script.proofs.Laws.{adler_more}
use Rattle.script.proofs.bytes.adler32.Goals as goal

pub loop-byte-preserved : goal.loop-byte-preserved
loop-byte-preserved c = let l = c.loop-byte in
    record { low = omega arith; high = omega arith; rest = rw c.from.ensures (sym (adler_more l.a l.b c.args.s.now l.byte-index c.loop-byte-test.true) ∙ l.invariant.rest) }

pub returns : goal.returns
unfolding adler
returns c = rw (drop_of_length-le c.args.s.now c.loop-byte-test.false) at c.loop-byte.invariant.rest
