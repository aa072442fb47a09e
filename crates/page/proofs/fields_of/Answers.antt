-- `page::fields_of` meets its contract. Written out, so that a field of the wrong bytes is refused here, by its equation.
-- Assumes nothing.
use Rattle.page.specs.Page.{fields_of}
use Rattle.page.proofs.fields_of.Goals as goal

pub returns : goal.returns
unfolding fields_of
returns c = rw (← c.links_of-skiplist.ensures, ← c.u32_at.ensures, ← c.u16_at.ensures, ← c.u16_at-2.ensures)
