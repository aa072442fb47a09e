-- `script::text::write_hex` meets its contract.
-- Assumes nothing.
use Rattle.std.proofs.Common.{arith, ◌+◌, ◌*◌, ◌<◌, length, sym, ◌∙◌}
use lib.ListN.{drop_of_length-le}
use Rattle.script.specs.Text.{hex_digits}
use Rattle.script.proofs.Laws.{hex_stored, splice_none}
use Rattle.script.proofs.text.write_hex.Goals as goal

pub loop-i-preserved : goal.loop-i-preserved
loop-i-preserved c = let l = c.loop-i in
    let k : c.args.at + 2 * l.i + 1 < length l.out = omega arith in
    hex_stored l.out c.args.bytes.now (c.args.at + 2 * l.i) (c.args.at + 2 * (l.i + 1)) l.i _ _ c.loop-i-test.true k (omega arith) c.digit.ensures c.digit-in-loop-i.ensures ∙ l.invariant

pub returns : goal.returns
unfolding hex_digits
returns c = let l = c.loop-i in sym (splice_none l.out _) ∙ rw (drop_of_length-le c.args.bytes.now c.loop-i-test.false) at l.invariant
