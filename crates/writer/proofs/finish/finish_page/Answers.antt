-- `writer::finish::finish_page` meets its contract.
-- Assumes nothing.
use Rattle.state.specs.Values.{opened, with_writer}
use Rattle.state.specs.World.{before}
use Rattle.writer.proofs.Exits.{finished_is}
use Rattle.writer.proofs.finish.finish_page.Goals as goal

pub returns : goal.returns
unfolding with_writer opened
returns c =
    let a = c.args in
    let w = before a.image.now a.map.now a.table.now a.state.now in
    finished_is w _ _ _ _ _ c.staged_header-header.ensures c.flush_header.ensures c.mark_page.ensures (c.grow.ensures) (rw (c.open_transaction.ensures, c.no_writer-state.ensures))
