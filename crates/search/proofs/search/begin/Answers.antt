-- `search::search::begin` meets its contract: the tests that led to each return say which case it is.
-- Assumes nothing.
use mathlib.Core.Path.{sym, ◌∙◌}
use Rattle.chain.specs.Steps.{read_at}
use Rattle.search.proofs.Calls.{begun_empty, begun_hunts, begun_broken}
use Rattle.search.proofs.search.begin.Goals as goal

pub returns-then-is_empty : goal.returns-then-is_empty
returns-then-is_empty c =
    let a = c.args in
    let e = begun_empty a.search.now a.count (read_at a.image.now) a.file a.f.now (sym c.if-is_empty.true ∙ c.is_empty.ensures) in
    rw c.no_search.ensures e

pub returns-then-not-in_shape : goal.returns-then-not-in_shape
returns-then-not-in_shape c =
    let a = c.args in
    begun_broken a.search.now a.count (read_at a.image.now) a.file a.f.now (sym c.is_empty.ensures ∙ c.if-is_empty.false) (sym c.in_shape.ensures ∙ c.if-not-in_shape.true)

pub returns : goal.returns
returns c =
    let a = c.args in
    c.sought.ensures
    ∙ begun_hunts a.search.now a.count (read_at a.image.now) a.file a.f.now (sym c.is_empty.ensures ∙ c.if-is_empty.false) (sym c.in_shape.ensures ∙ c.if-not-in_shape.false) _ c.start_of.ensures
