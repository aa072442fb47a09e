-- `page::PageView::bytes` meets its contract. Written out, so that another page is refused here, by the two pages.
-- Assumes nothing.
use Rattle.page.proofs.PageView.bytes.Goals as goal

pub returns : goal.returns
returns c = c.page_of.ensures
