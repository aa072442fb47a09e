-- `writer::write::next_page` meets its contract: the staged page is stored, then a page allocated.
-- Assumes nothing.
use Rattle.state.specs.Values.{with_cursor, with_writer}
use Rattle.writer.proofs.Pages.{next_page_lem, next_full}
use Rattle.writer.proofs.write.next_page.Goals as goal

pub returns-in-Some : goal.returns-in-Some
unfolding with_cursor with_writer
returns-in-Some c =
    let a = c.args in
    let g = c.allocate.ensures in
    let n = next_page_lem a.image.now a.map.now a.state.now _ _ _ _ c.flush.ensures.0 c.flush.ensures.1 g.0 g.1 c.in-Some.p c.in-Some.is in
    rw (c.staged_on.ensures, g.2, c.in-Some.is) n

pub returns-in_default : goal.returns-in_default
unfolding with_cursor with_writer
returns-in_default c =
    let a = c.args in
    let g = c.allocate.ensures in
    rw (g.2, c.in_default.is) (next_full a.image.now a.map.now a.state.now _ _ _ _ c.flush.ensures.0 c.flush.ensures.1 g.0 g.1 c.in_default.is)
