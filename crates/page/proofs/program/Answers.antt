-- `page::program` meets its contract.
-- Assumes nothing.
use Rattle.page.specs.Store.{program}
use Rattle.runs.specs.Runs.{part}
use Rattle.page.proofs.Laws.{page_put, stored_out}
use native.Mathlib.Omega.{arith}
use mathlib.Core.Path.{sym}
use Rattle.page.proofs.program.Goals as goal

pub returns-then-p-image : goal.returns-then-p-image
unfolding part
returns-then-p-image c =
    let a = c.args in
    rw c.place.ensures (page_put a.image.now (program a.p a.off a.run.now) _ (omega arith) c.if-p-image.true)

pub returns-else-p-image : goal.returns-else-p-image
returns-else-p-image c = let a = c.args in sym (stored_out a.image.now (program a.p a.off a.run.now) c.if-p-image.false)
