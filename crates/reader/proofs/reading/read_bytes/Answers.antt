-- `reader::reading::read_bytes` meets its contract: what is read so far with what is left to read is what the whole read gives.
-- Assumes nothing.
use mathlib.Core.Path.{◌≡◌, sym, ◌∙◌}
use Prim.Native.Nat.{◌+◌, ◌≤◌, ◌<◌, ◌-◌}
use native.Mathlib.Omega.{arith}
use lib.ListN.{length}
use borrow.Rule.Slice.PartMut.{put_mid, same_len_mid}
use Rattle.reader.proofs.Bytes.{bytes, rest, rest_last, turn_none, turn_again}
use Rattle.reader.proofs.reading.read_bytes.Goals as goal
use Rattle.reader.proofs.reading.read_bytes.Goals.{In_ok-done}

-- what a turn leaves
again : (c : In_ok-done)
    → let a = c.args in
    let n = length a.out.now in
    let l = c.loop-done in
    let k = c.in_ok-done.field-0 in
    (0 < k) × (l.done + k ≤ n)
    × (rest a.image.now a.count a.f.now a.seq n (l.done + k) (put_mid l.done (length l.out - l.done) l.out c.read_page.new.out)
    ≡ bytes a.image.now a.count a.f.now a.seq n)
again c =
    let l = c.loop-done in
    turn_again _ _ _ _ l.done l.out _ _ c.loop-done-test.true c.read_page.ensures _ _ l.invariant.kept l.invariant.rest _ c.in_ok-done.was

pub returns-in_err-done : goal.returns-in_err-done
returns-in_err-done c =
    let l = c.loop-done in
    rw c.from_residual.ensures
    (sym (turn_none _ _ _ _ l.done l.out _ _ c.loop-done-test.true c.read_page.ensures _ _ l.invariant.kept l.invariant.rest c.in_err-done.was))

pub overflow_add-done : goal.overflow_add-done
overflow_add-done c = let w = again c in omega (arith, w.1, c.requires)

pub loop-done-smaller : goal.loop-done-smaller
loop-done-smaller c = let w = again c in omega (arith, w.0, w.1)

pub loop-done-preserved : goal.loop-done-preserved
loop-done-preserved c =
    let w = again c in
    let kept = same_len_mid c.loop-done.done _ c.loop-done.out c.read_page.new.out c.read_page.auto.out ∙ c.loop-done.invariant.kept in
    record { inside = omega (arith, w.1, kept); kept = kept; rest = w.2 }

pub returns : goal.returns
returns c =
    let l = c.loop-done in
    let n = length c.args.out.now in
    let e : l.done ≡ length c.args.out.now = omega arith in
    sym (rest_last _ _ _ _ n l.out (omega arith)) ∙ rw e at l.invariant.rest
