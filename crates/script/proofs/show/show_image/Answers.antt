-- `script::show::show_image` meets its contract.
-- Assumes nothing.
use Rattle.std.proofs.Common.{◌/◌, length, sym, ◌∙◌}
use Rattle.script.specs.Show.{lines, sum_shown}
use Rattle.script.proofs.Pieces.{puts_more, lines_step, lines_end}
use Rattle.script.proofs.show.show_image.Goals as goal

pub loop-p-preserved : goal.loop-p-preserved
loop-p-preserved c = let l = c.loop-p in
    lines_step (sum_shown c.args.image.now) l.p (length c.args.image.now / 256) _ _ _ c.loop-p-test.true c.show_sum.ensures l.invariant

pub returns : goal.returns
returns c = let l = c.loop-p in
    let n = length c.args.image.now / 256 in
    let e = sym (lines_end (sum_shown c.args.image.now) l.p n l.output c.loop-p-test.false) ∙ l.invariant in
    rw (puts_more c.args.output.now (lines (sum_shown c.args.image.now) 0 n)) (cc (e, c.adler32.ensures, c.form.ensures))
