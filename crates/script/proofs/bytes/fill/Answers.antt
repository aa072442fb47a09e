-- `script::bytes::fill` meets its contract.
-- Assumes nothing.
use Rattle.std.proofs.Common.{arith, ◌≡◌, ◌<◌, ◌-◌, ◌%◌, length, sym, ◌∙◌}
use borrow.Author.Tests.{lt-ltb, le-ltb}
use Rattle.runs.proofs.Laws.{splice_all}
use Rattle.script.specs.Bytes.{next_byte, ramp}
use Rattle.script.proofs.Laws.{ramp_length, ramp_stored, splice_none}
use Rattle.script.proofs.bytes.fill.Goals as goal
use Rattle.script.proofs.bytes.fill.Goals.{then-next-lt250, else-next-lt250}

pub loop-byte-init : goal.loop-byte-init
loop-byte-init c = let n = length c.args.out.now in
    let z : n - 0 ≡ n = omega arith in
    record { low = omega arith; rest = rw z (splice_all c.args.out.now (ramp n (c.args.start % 251)) (ramp_length n (c.args.start % 251))) }

pub loop-byte-preserved : goal.loop-byte-preserved
loop-byte-preserved c = let l = c.loop-byte in
    let e : c.if-next-lt250.next ≡ next_byte l.next =
    elim c.if-next-lt250.branch [
      | then-next-lt250 w ↦ w.next-is ∙ sym (rw (lt-ltb _ _ w.if-next-lt250.true))
      | else-next-lt250 w ↦ w.next-is ∙ sym (rw (le-ltb _ _ w.if-next-lt250.false))
    ] in
    let m : c.if-next-lt250.next < 251 = elim c.if-next-lt250.branch [ then-next-lt250 w ↦ omega arith | else-next-lt250 w ↦ omega arith ] in
    record { low = m; rest = ramp_stored l.byte-items l.byte-index l.next _ (omega arith) e ∙ l.invariant.rest }

pub returns : goal.returns
unfolding ramp
returns c = let l = c.loop-byte in
    let e : length l.byte-items - l.byte-index ≡ 0 = omega arith in
    sym (splice_none l.byte-items l.byte-index) ∙ rw e at l.invariant.rest
