-- `reader::ask::used_pages` meets its contract: no more pages are free than there are.
-- Assumes nothing.
use native.Mathlib.Omega.{arith}
use lib.ListN.{take, length-take}
use Rattle.map.proofs.Laws.{count_le}
use Rattle.reader.proofs.ask.used_pages.Goals as goal

pub overflow_sub-result : goal.overflow_sub-result
overflow_sub-result c =
    let a = c.args in
    omega (arith, count_le 0 (take a.state.now.page_count a.map.now), length-take a.state.now.page_count a.map.now)
