-- `map::release` meets its contract.
-- Assumes nothing.
use Rattle.runs.proofs.Laws.{copy_more, copy_all}
use Rattle.map.proofs.Turns.{at_seam}
use Rattle.map.specs.Map.{unheld, released}
use borrow.Author.Tests.{eq-eqb, ne_eqb}
use lib.ListN.{length, get_or, length-map, get_or-map}
use native.Mathlib.Omega.{arith}
use mathlib.Core.List.{List, map}
use mathlib.Core.Path.{◌≡◌, sym, ap, ◌∙◌}
use Prim.Native.Nat.{ℕ, ◌<◌, ◌≤◌}
use Rattle.map.proofs.release.Goals as goal
use Rattle.map.proofs.release.Goals.{then-page-eq-HELD, else-page-eq-HELD}

pub loop-page-preserved : goal.loop-page-preserved
loop-page-preserved c =
    let m = c.args.m.now in
    let l = c.loop-page in
    let i = l.page-index in
    let k : i < length m = omega arith in
    let f = length-map m unheld in
    let g : i < length (map unheld m) = omega arith in
    let u : c.if-page-eq-HELD.page ≡ unheld (get_or l.m i 0) = elim c.if-page-eq-HELD.branch [
      | then-page-eq-HELD w ↦ rw (w.page-is, eq-eqb _ _ w.if-page-eq-HELD.true)
      | else-page-eq-HELD w ↦ rw (w.page-is, ne_eqb _ _ w.if-page-eq-HELD.false)
    ] in
    let s = ap (λ (x : List ℕ). get_or x i 0) l.invariant ∙ at_seam (map unheld m) m i (omega arith) k in
    let e : c.if-page-eq-HELD.page ≡ get_or (map unheld m) i 0 = u ∙ ap unheld s ∙ sym (get_or-map unheld m i 0) in
    rw (e, l.invariant) (copy_more (map unheld m) m i g k)

pub returns : goal.returns
unfolding released
returns c =
    let m = c.args.m.now in
    let l = c.loop-page in
    let f = length-map m unheld in
    let a : l.page-index ≤ length m = omega (arith, l.auto.page-index-end) in
    l.invariant ∙ copy_all (map unheld m) m l.page-index (omega arith) (omega arith) (sym f)
