-- `transact::commit::commit_moved` meets its contract: the page that was found is below the page count.
-- Assumes nothing.
use mathlib.Core.Path.{sym, ◌∙◌, ap}
use native.Mathlib.Omega.{arith}
use Rattle.std.specs.Result.{result_ok}
use Rattle.map.proofs.Laws.{alloc_found}
use Rattle.transact.proofs.commit.commit_moved.Goals as goal

pub overflow_cast-page : goal.overflow_cast-page
overflow_cast-page c =
    let k = (alloc_found c.args.map.now _ _ (omega (arith, c.from.ensures, c.from-count.ensures)) _ (sym c.find_free.ensures ∙ c.ok_or-2.ensures.ok_part ∙ ap result_ok c.in_ok-page.was)).inside in
    omega (arith, k, c.from-count.ensures)
