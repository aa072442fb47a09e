-- `runs::place` meets its contract.
-- Assumes nothing.
use Rattle.runs.proofs.Laws.{put_splice, placed_in, placed_out}
use borrow.Rule.Slice.PartMut.{put_mid}
use lib.ListN.{length}
use native.Mathlib.Omega.{arith}
use Prim.Native.Nat.{◌+◌, ◌-◌, ◌<◌}
use mathlib.Core.Path.{ap, sym, ◌∙◌}
use Rattle.runs.proofs.place.Goals as goal
use Rattle.runs.proofs.place.Goals.{else-at-d-via-then-at-d+else-run-d, else-at-d-via-else-at-d}

pub returns-then-run-d : goal.returns-then-run-d
returns-then-run-d c =
    let a = c.args in
    let n = length a.run.now in
    ap (put_mid a.at (a.at + n - a.at) a.d.now) c.copy.ensures
    ∙ put_splice a.d.now a.at (a.at + n - a.at) a.run.now (omega arith)
    ∙ sym (placed_in a.d.now a.at a.run.now (omega arith))

pub returns-else-at-d : goal.returns-else-at-d
returns-else-at-d c =
    let a = c.args in
    let h : length a.d.now < a.at + length a.run.now = elim c.else-at-d.branch [ else-at-d-via-then-at-d+else-run-d w ↦ omega (arith, w.if-run-d.false) | else-at-d-via-else-at-d w ↦ omega (arith, w.if-at-d.false) ] in
    sym (placed_out a.d.now a.at a.run.now h)
