-- `search::search::turn` meets its contract: the checks passed or not, a position is on offer or not, and which way.
-- Assumes nothing.
use mathlib.Core.Path.{sym, ◌∙◌, ap}
use mathlib.Core.Bool.{Bool, cond}
use Rattle.std.proofs.lemmas.Result.{err_from_is_err_and}
use Rattle.state.specs.Values.{with_search}
use Rattle.state.specs.World.{before, in_numbers}
use Rattle.state.proofs.Laws.{checks_pass, search_says}
use Rattle.search.specs.Search.{answer_numbers, left_of, right_of}
use Rattle.search.proofs.Calls.{answer_refused, answer_none, answer_replied, turned}
use Rattle.search.proofs.search.turn.Goals as goal

pub returns-in_err-check : goal.returns-in_err-check
returns-in_err-check c =
    let a = c.args in
    let p = err_from_is_err_and c.from_residual.result c.from_residual.ensures.1 in
    λ t. rw (p.1, p.2) (ap (in_numbers answer_numbers)
    (answer_refused (before a.image.now a.map.now t a.state.now) (cond a.to_right right_of left_of) _ (sym c.check.ensures ∙ c.in_err-check.was) ∙ turned a.to_right _))

pub returns-then-not-state : goal.returns-then-not-state
returns-then-not-state c =
    let a = c.args in
    λ t. ap (in_numbers answer_numbers)
    (answer_none (before a.image.now a.map.now t a.state.now) (cond a.to_right right_of left_of) (sym c.check.ensures ∙ c.in_ok-check.was) c.if-not-state.true
    ∙ turned a.to_right _)

pub right_of-from-requires : goal.right_of-from-requires
right_of-from-requires c =
    (search_says _ (checks_pass _ _ _ _ _ (sym c.check.ensures ∙ c.in_ok-check.was)).mounted.search c.if-not-state.false).high

pub returns-then-to_right : goal.returns-then-to_right
unfolding with_search
returns-then-to_right c =
    let a = c.args in
    λ t. ap (in_numbers answer_numbers)
    (answer_replied (before a.image.now a.map.now t a.state.now) (cond a.to_right right_of left_of) _ _ _
    (sym c.check.ensures ∙ c.in_ok-check.was) c.if-not-state.false
    (c.right_of-from.ensures ∙ ap (λ (b : Bool). cond b right_of left_of a.state.now.search) (sym c.if-to_right.true))
    c.sought.ensures
    ∙ turned a.to_right _)

pub returns : goal.returns
unfolding with_search
returns c =
    let a = c.args in
    λ t. ap (in_numbers answer_numbers)
    (answer_replied (before a.image.now a.map.now t a.state.now) (cond a.to_right right_of left_of) _ _ _
    (sym c.check.ensures ∙ c.in_ok-check.was) c.if-not-state.false
    (c.left_of-from.ensures ∙ ap (λ (b : Bool). cond b right_of left_of a.state.now.search) (sym c.if-to_right.false))
    c.sought-2.ensures
    ∙ turned a.to_right _)
