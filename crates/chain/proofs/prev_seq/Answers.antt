-- `chain::prev_seq` meets its contract: what is answered in the end from the page at hand, after so many headers, is what is answered
-- from the first page. The start falls, so that no more headers are read than the first start says, which fits.
-- Assumes nothing.
use mathlib.Core.Path.{◌≡◌, sym, ◌∙◌}
use Prim.Native.Nat.{◌<◌}
use native.Mathlib.Omega.{arith}
use Rattle.chain.specs.declared.PagePointer.{PagePointer}
use Rattle.chain.specs.Links.{start}
use Rattle.chain.specs.Steps.{read_at, seek_rule, through, trace}
use Rattle.chain.proofs.Rules.{seek_falling}
use Rattle.chain.proofs.Traces.{stays_trace, breaks_trace, reaches_trace}
use Rattle.chain.proofs.Steps.{seek_stays, seek_reaches, seek_breaks, after_first, after_stays, after_breaks, after_reaches}
use Rattle.chain.proofs.prev_seq.Goals as goal
use Rattle.chain.proofs.prev_seq.Goals.{In_ok-header}

pub loop-here-init : goal.loop-here-init
loop-here-init c = (after_first _ _ _ _ (omega arith), omega arith)

-- a turn that read a page: the trace from there, and an earlier start
turn : (c : In_ok-header)
    → let a = c.args in
    let q : PagePointer = record { page_id = c.link_toward-page_id.result; header = c.in_ok-header.header } in
    let r = seek_rule a.count a.seq in
    (trace r (read_at a.image.now) c.loop-here.here ≡ through q.page_id (trace r (read_at a.image.now) q)) × (start q < start c.loop-here.here)
turn c =
    reaches_trace _ (seek_falling _ _) _ _ _
    (seek_reaches _ _ _ _ _ c.loop-here-test.true c.link_toward-page_id.ensures _ (sym c.in_ok-header.was ∙ c.lower.ensures))

pub overflow_add-read : goal.overflow_add-read
overflow_add-read c = omega (arith, (turn c).1, c.loop-here.invariant.1, c.well_formed.1.1.0)

pub loop-here-smaller : goal.loop-here-smaller
loop-here-smaller c = (turn c).1

pub loop-here-preserved : goal.loop-here-preserved
loop-here-preserved c =
    (after_reaches _ _ _ _ _ (turn c).0 ∙ c.loop-here.invariant.0, omega (arith, (turn c).1, c.loop-here.invariant.1))

pub returns-in_err-header : goal.returns-in_err-header
returns-in_err-header c =
    c.from_residual.ensures
    ∙ after_breaks _ _ _ _ (breaks_trace _ (seek_falling _ _) _ _
    (seek_breaks _ _ _ _ _ c.loop-here-test.true c.link_toward-page_id.ensures (sym c.in_err-header.was ∙ c.lower.ensures)))
    ∙ c.loop-here.invariant.0

pub returns : goal.returns
returns c =
    after_stays _ _ _ _ (stays_trace _ (seek_falling _ _) _ _ (seek_stays _ _ _ _ c.loop-here-test.false)) ∙ c.loop-here.invariant.0
