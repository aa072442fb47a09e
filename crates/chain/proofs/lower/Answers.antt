-- `chain::lower` meets its contract: the tests that led to each return say which case it is.
-- Assumes nothing.
use mathlib.Core.Path.{◌≡◌, sym, ◌∙◌, ap}
use Prim.Native.Nat.{ℕ}
use mathlib.Core.Bool.{true}
use Rattle.chain.specs.Steps.{read_at, is_page}
use Rattle.chain.proofs.Steps.{in_page, in_none, lower_none, lower_missing, lower_falls, lower_high}
use Rattle.chain.proofs.lower.Given.{Over}
use Rattle.chain.proofs.lower.Goals as goal
use Rattle.chain.proofs.lower.Goals.{In_ok-at}

-- the id is a page
some : (g : Over) (i : In_ok-at g) → (i.in_ok-at.at ≡ i.args.id) × (is_page i.args.count i.args.id ≡ true)
some g i = in_page _ _ _ (sym i.in_ok-at.was ∙ i.page_at.ensures)

pub returns-in_err-at : goal.returns-in_err-at
returns-in_err-at g c =
    let m = g.H.Headed in
    c.from_residual.ensures ∙ m.laws.missing ∙ ap m.reads (sym (lower_none _ _ _ _ (in_none _ _ (sym c.in_err-at.was ∙ c.page_at.ensures))))

pub returns-in_err-header : goal.returns-in_err-header
returns-in_err-header g c =
    let m = g.H.Headed in
    let s = some g (goal.at.returns-in_err-header g c).In_ok-at in
    c.from_residual-in_err-header.ensures ∙ lower_missing _ _ _ _ m.laws s.1 (sym c.in_err-header.was ∙ c.read_at.ensures ∙ ap (λ (x : ℕ). m.reads (read_at c.args.image.now x)) s.0)

pub returns-then-seq-start : goal.returns-then-seq-start
returns-then-seq-start g c =
    let m = g.H.Headed in
    let s = some g (goal.at.returns-then-seq-start g c).In_ok-at in
    lower_falls _ _ _ _ m.laws s.1 _ (sym c.in_ok-header.was ∙ c.read_at.ensures ∙ ap (λ (x : ℕ). m.reads (read_at c.args.image.now x)) s.0) (rw c.seq.ensures at c.if-seq-start.true)

pub returns : goal.returns
returns g c =
    let m = g.H.Headed in
    let s = some g (goal.at.returns g c).In_ok-at in
    lower_high _ _ _ _ m.laws s.1 _ (sym c.in_ok-header.was ∙ c.read_at.ensures ∙ ap (λ (x : ℕ). m.reads (read_at c.args.image.now x)) s.0) (rw c.seq.ensures at c.if-seq-start.false)
