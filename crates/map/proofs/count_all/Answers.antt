-- `map::count_all` meets its contract.
-- Assumes nothing.
use Rattle.map.proofs.Laws.{count_split, count_le}
use Rattle.map.specs.Map.{free_count}
use lib.ListN.{take, drop, length-take}
use native.Mathlib.Omega.{arith}
use mathlib.Core.Path.{◌≡◌, ap, ◌∙◌}
use Prim.Native.Nat.{◌≤◌}
use Rattle.map.proofs.count_all.Goals as goal

pub loop-few-preserved : goal.loop-few-preserved
loop-few-preserved c =
    let l = c.loop-few in
    let s = c.in-Some.ensures.cases in
    let rest = l.rest.now in
    let e : c.count_few.result ≡ free_count (take 128 rest) = c.count_few.ensures ∙ ap free_count s.0 in
    let f : free_count c.in-Some.after.now ≡ free_count (drop 128 rest) = ap free_count s.1 in
    let k : free_count (take 128 rest) ≤ 128 = omega (arith, simp length-take at (count_le 0 (take 128 rest))) in
    (omega (arith, s.2, e, k, c.from-n.ensures, l.invariant.0), omega (arith, e, f, c.from-n.ensures, count_split 0 128 rest, l.invariant.1))
