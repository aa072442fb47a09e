-- `script::show::show_table` meets its contract.
-- Assumes nothing.
use Rattle.std.proofs.Common.{◌≡◌, ◌<◌, ◌≤◌, length, sym, ◌∙◌, arith}
use Rattle.state.specs.Values.{file_at}
use Rattle.script.specs.Show.{file_shown}
use Rattle.script.proofs.Pieces.{lines_step, lines_end}
use Rattle.script.proofs.show.show_table.Goals as goal

pub loop-i-preserved : goal.loop-i-preserved
loop-i-preserved c = let l = c.loop-i in
    let n : length c.args.table.now.files ≡ 8 = c.if-prove.false in
    let k : l.i < 8 = omega arith in
    lines_step (λ i. file_shown i (file_at c.args.table.now i)) l.i 8 _ _ _ k c.show_file.ensures l.invariant

pub returns : goal.returns
returns c = let l = c.loop-i in
    let n : length c.args.table.now.files ≡ 8 = c.if-prove.false in
    let k : 8 ≤ l.i = omega arith in
    sym (lines_end (λ i. file_shown i (file_at c.args.table.now i)) l.i 8 _ k) ∙ l.invariant
