-- `page::erase` meets its contract.
-- Assumes nothing.
use Rattle.page.specs.Store.{erase}
use Rattle.runs.proofs.Laws.{put_splice}
use Rattle.page.proofs.Laws.{stored_in, stored_out}
use Rattle.std.proofs.Common.{rules}
use lib.ListN.{length-take, length-drop, length, take, drop, replicate}
use Prim.Native.Nat.{◌+◌, ◌-◌, ◌*◌}
use native.Mathlib.Nat.{add-zero}
use native.Mathlib.Omega.{arith}
use mathlib.Core.Path.{◌≡◌, refl, sym}
use Rattle.page.proofs.erase.Goals as goal

pub returns-then-p-image : goal.returns-then-p-image
returns-then-p-image c =
    let a = c.args in
    let n : a.p * 256 + 256 - a.p * 256 ≡ 256 = omega arith in
    let k : length (take 256 (drop (a.p * 256) a.image.now)) ≡ 256 = simp (length-take, length-drop) (omega arith) in
    rw (n, c.fill.ensures.after (search rules), n, k, stored_in a.image.now (erase a.p) c.if-p-image.true (omega arith), add-zero)
    (put_splice a.image.now (a.p * 256) 256 (replicate 256 255) refl)

pub returns-else-p-image : goal.returns-else-p-image
returns-else-p-image c = let a = c.args in sym (stored_out a.image.now (erase a.p) c.if-p-image.false)
