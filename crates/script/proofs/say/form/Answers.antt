-- `script::say::form` meets its contract.
-- Assumes nothing.
use Rattle.std.proofs.Common.{◌≡◌, Some, None, drop, get_or, ◌+◌}
use lib.ListN.{drop_of_length-le}
use Rattle.script.specs.Text.{rest}
use Rattle.script.specs.Say.{formed}
use Rattle.script.proofs.Laws.{here}
use Rattle.script.proofs.Pieces.{form_next, form_last}
use Rattle.script.proofs.say.form.Goals as goal

pub loop-n-preserved : goal.loop-n-preserved
loop-n-preserved c = let l = c.loop-n in
    let ns = c.args.numbers.now in
    let n = get_or ns l.n-index 0 in
    let more = drop (l.n-index + 1) ns in
    let e : Some c.in-Some.rest.now ≡ rest 37 l.left.now = rw c.in-Some.is at c.cut.ensures.1 in
    cc (form_next l.output l.left.now c.in-Some.rest.now n more e, here ns l.n-index c.loop-n-test.true, l.invariant, c.put.ensures, c.put_number.ensures, c.cut.ensures.0)

pub returns-in_default : goal.returns-in_default
returns-in_default c = let l = c.loop-n in
    let ns = c.args.numbers.now in
    let n = get_or ns l.n-index 0 in
    let more = drop (l.n-index + 1) ns in
    let e : None ≡ rest 37 l.left.now = rw c.in_default.is at c.cut.ensures.1 in
    cc (form_last l.output l.left.now n more e, here ns l.n-index c.loop-n-test.true, l.invariant, c.put.ensures, c.cut.ensures.0)

pub returns : goal.returns
unfolding formed
returns c = let l = c.loop-n in
    let w = rw (drop_of_length-le c.args.numbers.now c.loop-n-test.false) at l.invariant in
    cc (w, c.put-2.ensures, c.cut-2.ensures.0)
