-- `search::hunt::seen_on` meets its contract: the tests that led to each return say which case it is.
-- Assumes nothing.
use mathlib.Core.Path.{sym, ◌∙◌}
use Rattle.search.proofs.Pages.{seen_above, seen_past, seen_left, seen_found, seen_first, seen_back}
use Rattle.search.proofs.hunt.seen_on.Goals as goal

pub returns-then-limit-h : goal.returns-then-limit-h
returns-then-limit-h c = seen_above c.args.left c.args.target c.args.limit c.args.h.now c.if-limit-h.true

pub returns-then-target-h : goal.returns-then-target-h
returns-then-target-h c = seen_past c.args.left c.args.target c.args.limit c.args.h.now c.if-limit-h.false c.if-target-h.true

pub returns-then-passed_over : goal.returns-then-passed_over
returns-then-passed_over c = seen_left c.args.left c.args.target c.args.limit c.args.h.now c.if-limit-h.false c.if-target-h.false (sym c.passed_over.ensures ∙ c.if-passed_over.true)

pub returns-then-h : goal.returns-then-h
returns-then-h c = seen_found c.args.left c.args.target c.args.limit c.args.h.now c.if-limit-h.false c.if-target-h.false (sym c.passed_over.ensures ∙ c.if-passed_over.false) c.if-h.true _ (c.found_on.ensures _)

pub returns-then-h-eq-NONE : goal.returns-then-h-eq-NONE
returns-then-h-eq-NONE c = seen_first c.args.left c.args.target c.args.limit c.args.h.now c.if-limit-h.false c.if-target-h.false (sym c.passed_over.ensures ∙ c.if-passed_over.false) c.if-h.false c.if-h-eq-NONE.true

pub returns : goal.returns
returns c = seen_back c.args.left c.args.target c.args.limit c.args.h.now c.if-limit-h.false c.if-target-h.false (sym c.passed_over.ensures ∙ c.if-passed_over.false) c.if-h.false c.if-h-eq-NONE.false
