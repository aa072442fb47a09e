-- `search::hunt::found_on` meets its contract: the tests that led to each return say which case it is.
-- Assumes nothing.
use native.Mathlib.Omega.{arith}
use Rattle.search.proofs.Pages.{found_far, found_above, found_left, found_past, found_hit}
use Rattle.search.proofs.hunt.found_on.Goals as goal

pub returns-then-boundary-ge224 : goal.returns-then-boundary-ge224
returns-then-boundary-ge224 c = λ target. found_far c.args.left target c.args.limit c.args.h.now c.if-boundary-ge224.true

pub returns-then-limit-start : goal.returns-then-limit-start
returns-then-limit-start c = λ target. found_above c.args.left target c.args.limit c.args.h.now (omega arith) c.if-limit-start.true

pub returns-then-start-left : goal.returns-then-start-left
returns-then-start-left c = λ target. found_left c.args.left target c.args.limit c.args.h.now (omega arith) c.if-limit-start.false c.if-start-left.true

pub returns-then-h-boundary : goal.returns-then-h-boundary
returns-then-h-boundary c = λ target. found_past c.args.left target c.args.limit c.args.h.now (omega arith) c.if-limit-start.false c.if-start-left.false c.if-h-boundary.true

pub returns : goal.returns
returns c = λ target. found_hit c.args.left target c.args.limit c.args.h.now (omega arith) c.if-limit-start.false c.if-start-left.false c.if-h-boundary.false
