-- `script::bytes::number_of` meets its contract.
-- Assumes nothing.
use Rattle.std.proofs.Common.{◌≡◌, Some, None, sym, ◌∙◌, get_or}
use lib.ListN.{drop_of_length-le}
use Rattle.script.specs.Bytes.{more, digits}
use Rattle.script.proofs.Laws.{digits_more, digits_bad}
use Rattle.script.proofs.bytes.number_of.Goals as goal

pub returns-in_err-value : goal.returns-in_err-value
returns-in_err-value c = let l = c.loop-digit in
    let w = c.args.word.now in
    let e : more l.value (get_or w l.digit-index 0) ≡ None = sym c.more.ensures ∙ c.in_err-value.was in
    c.from_residual.ensures ∙ sym (sym l.invariant ∙ digits_more l.value w l.digit-index c.loop-digit-test.true ∙ rw (e, digits_bad))

pub loop-digit-preserved : goal.loop-digit-preserved
loop-digit-preserved c = let l = c.loop-digit in
    let w = c.args.word.now in
    let e : more l.value (get_or w l.digit-index 0) ≡ Some c.in_ok-value.value = sym c.more.ensures ∙ c.in_ok-value.was in
    sym (digits_more l.value w l.digit-index c.loop-digit-test.true ∙ rw e) ∙ l.invariant

pub returns : goal.returns
unfolding digits
returns c = rw (drop_of_length-le c.args.word.now c.loop-digit-test.false) at c.loop-digit.invariant
