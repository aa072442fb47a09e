-- `script::command::filled` meets its contract.
-- Assumes nothing.
use Rattle.std.proofs.Common.{arith, ◌≡◌, ◌+◌, length, take, rules, le-ltb}
use Rattle.runs.specs.Runs.{splice}
use Rattle.script.proofs.Laws.{ramp_length}
use Rattle.script.proofs.command.filled.Goals as goal

pub returns : goal.returns
unfolding splice
returns c = let a = c.args in
    let e : length (take a.n a.buffer.now) ≡ a.n = search rules in
    let k : 0 + a.n ≡ a.n = omega arith in
    let l = rw e at c.fill.ensures in
    rw (le-ltb _ _ c.if-n-gt-BYTES_MAX.false, le-ltb _ _ c.if-buffer-count.false, ramp_length, k, l)
