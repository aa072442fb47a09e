-- `page::page_of` meets its contract.
-- Assumes nothing.
use Rattle.page.specs.Page.{page_of}
use Rattle.runs.specs.Runs.{part}
use borrow.Author.Tests.{lt-ltb}
use native.Mathlib.Nat.{add-sub_cancel_left}
use mathlib.Core.Path.{sym}
use Rattle.page.proofs.Laws.{page_none}
use Rattle.page.proofs.page_of.Goals as goal

pub returns-then-p-image : goal.returns-then-p-image
unfolding page_of part
returns-then-p-image c = simp (lt-ltb _ _ c.if-p-image.true, add-sub_cancel_left)

pub returns-else-p-image : goal.returns-else-p-image
returns-else-p-image c = sym (page_none _ _ c.if-p-image.false)
