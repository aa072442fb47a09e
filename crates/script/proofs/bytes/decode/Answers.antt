-- `script::bytes::decode` meets its contract.
-- Assumes nothing.
use Rattle.std.proofs.Common.{arith, ◌+◌, ◌*◌, ◌<◌, ◌≤◌, length, sym, ◌∙◌}
use lib.ListN.{drop_of_length-le}
use Rattle.runs.proofs.Laws.{placed_in}
use Rattle.script.specs.Bytes.{bytes_of}
use Rattle.script.proofs.Laws.{bytes_length, byte_stored, splice_none}
use Rattle.script.proofs.bytes.decode.Goals as goal

pub loop-o-preserved : goal.loop-o-preserved
loop-o-preserved c = let l = c.loop-o in
    let k : 2 * l.o + 1 < length c.args.word.now = omega arith in
    let m : l.o < length l.out = omega arith in
    byte_stored l.out c.args.word.now l.o (2 * l.o) (2 * (l.o + 1)) _ k m (omega arith) (cc (c.digit_of.ensures.0, c.digit_of-in-loop-o.ensures.0)) ∙ l.invariant

pub returns : goal.returns
unfolding bytes_of
returns c = let l = c.loop-o in
    let w = c.args.word.now in
    let g : 0 + length (bytes_of w) ≤ length c.args.out.now = rw (bytes_length w) (omega arith) in
    let h : length w ≤ 2 * l.o = omega arith in
    sym (splice_none l.out l.o) ∙ rw (drop_of_length-le w h) at l.invariant ∙ sym (placed_in c.args.out.now 0 (bytes_of w) g)
