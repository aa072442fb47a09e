-- `search::hunt::header_at` meets its contract: the id is a page or not.
-- Assumes nothing.
use mathlib.Core.Path.{sym, ◌∙◌, ap}
use Prim.Native.Nat.{ℕ}
use Rattle.page.specs.Page.{gives}
use Rattle.chain.specs.Steps.{read_at}
use Rattle.chain.proofs.Steps.{in_page, in_none}
use Rattle.search.proofs.Pages.{named_no, named_yes}
use Rattle.search.proofs.hunt.header_at.Goals as goal

pub returns-in_err-page_at : goal.returns-in_err-page_at
returns-in_err-page_at c =
    c.from_residual.ensures ∙ named_no c.args.count (read_at c.args.image.now) c.args.id (in_none _ _ (sym c.in_err-page_at.was ∙ c.page_at.ensures))

pub returns : goal.returns
returns c =
    let s = in_page _ _ _ (sym c.in_ok-page_at.was ∙ c.page_at.ensures) in
    c.header_at.ensures ∙ ap (λ (x : ℕ). gives (read_at c.args.image.now x)) s.0 ∙ named_yes c.args.count (read_at c.args.image.now) c.args.id s.1
