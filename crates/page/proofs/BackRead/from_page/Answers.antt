-- `page::BackRead::from_page` meets its contract. Written out, so that another link is refused here, by the two links.
-- Assumes nothing.
use Rattle.page.specs.Page.{header_of, gives_back}
use Rattle.page.proofs.Headers.{given_read}
use mathlib.Core.Path.{refl}
use Rattle.page.proofs.BackRead.from_page.Goals as goal

pub returns : goal.returns
unfolding gives_back
returns c = rw (given_read c.from_page.result (header_of c.args.pg.now) c.in_ok-h.h c.from_page.ensures c.in_ok-h.was) refl
