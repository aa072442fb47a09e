-- `search::search::search` meets its contract: the checks passed or not, and what the record gives.
-- Assumes nothing.
use mathlib.Core.Path.{sym, ap, ◌∙◌}
use Rattle.std.proofs.lemmas.Result.{err_from_is_err_and}
use Rattle.state.specs.Values.{with_search}
use Rattle.state.specs.World.{before, in_numbers}
use native.Mathlib.Omega.{arith}
use Rattle.state.proofs.Laws.{checks_pass}
use Rattle.search.specs.Search.{answer_numbers}
use Rattle.search.proofs.Calls.{start_refused, start_replied}
use Rattle.search.proofs.search.search.Goals as goal

pub returns-in_err-check : goal.returns-in_err-check
returns-in_err-check c =
    let a = c.args in
    let p = err_from_is_err_and c.from_residual.result c.from_residual.ensures.1 in
    rw (p.1, p.2) (ap (in_numbers answer_numbers) (start_refused (before a.image.now a.map.now a.table.now a.state.now) a.file _ (sym c.check.ensures ∙ c.in_err-check.was)))

pub bounds-table-file : goal.bounds-table-file
bounds-table-file c = omega (arith, (checks_pass _ _ _ _ _ (sym c.check.ensures ∙ c.in_ok-check.was)).known)

pub returns : goal.returns
unfolding with_search
returns c =
    let a = c.args in
    ap (in_numbers answer_numbers) (start_replied (before a.image.now a.map.now a.table.now a.state.now) a.file _ _ (sym c.check.ensures ∙ c.in_ok-check.was) c.begin.ensures)
