-- `page::links_bytes` meets its contract.
-- Assumes nothing.
use Rattle.page.proofs.Headers.{pairs_step}
use Rattle.std.proofs.Common.{rules}
use native.Mathlib.Omega.{arith}
use mathlib.Core.Path.{◌≡◌}
use Prim.Native.Nat.{◌+◌, ◌-◌, ◌*◌}
use Rattle.page.proofs.links_bytes.Goals as goal

pub loop-i-preserved : goal.loop-i-preserved
loop-i-preserved c =
    let i = c.loop-i.i in
    let w : 2 * i + 2 - 2 * i ≡ 2 = omega arith in
    rw (w, c.copy_from_slice.ensures.after, c.to_le_bytes.ensures, c.loop-i.invariant) (pairs_step c.args.links i (search rules) c.loop-i-test.true)
