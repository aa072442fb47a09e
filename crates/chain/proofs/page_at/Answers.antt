-- `chain::page_at` meets its contract: the tests that led to each return say which case it is.
-- Assumes nothing.
use Rattle.std.specs.Prelude.{Some, None}
use mathlib.Core.Path.{◌≡◌, refl, ◌∙◌, ap}
use Prim.Native.Nat.{ℕ}
use Rattle.seq.specs.Ids.{none}
use Rattle.chain.proofs.Rules.{none_no_page, outside_no_page, is_page_lem}
use Rattle.chain.proofs.Steps.{shown}
use Rattle.chain.proofs.page_at.Goals as goal
use Rattle.chain.proofs.page_at.Goals.{After-index-at}

-- the id is one
some : (i : After-index-at) → (i.index-at.result ≡ i.args.id) × (i.args.id ≡ none → ⊥)
some i =
    let s = shown _ i.from_raw.ensures refl (Some _) i.in_ok-from_raw.was in
    (i.index-at.ensures ∙ s.0, s.1)

pub returns-in_err-from_raw : goal.returns-in_err-from_raw
returns-in_err-from_raw c =
    let e = none_no_page c.args.count c.args.id (shown _ c.from_raw.ensures refl None c.in_err-from_raw.was) in
    rw (c.from_residual.ensures, e)

pub returns-then-at-count : goal.returns-then-at-count
returns-then-at-count c =
    let s = some (goal.at.returns-then-at-count c).After-index-at in
    let e = is_page_lem c.args.count c.args.id s.1 (rw s.0 at c.if-at-count.true) in
    rw e (ap (λ (x : ℕ). Some x) s.0)

pub returns-else-at-count : goal.returns-else-at-count
returns-else-at-count c =
    let s = some (goal.at.returns-else-at-count c).After-index-at in
    let e = outside_no_page c.args.count c.args.id (rw s.0 at c.if-at-count.false) in
    rw e
