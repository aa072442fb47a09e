-- `transact::truncate::truncate` meets its contract: where the file is not empty, whether its walk ends says which exit it is.
-- Assumes nothing.
use Rattle.std.specs.Prelude.{Some, None, Err}
use mathlib.Core.Path.{◌≡◌, sym, ◌∙◌, ap}
use borrow.Author.Tests.{eqb-false}
use Rattle.std.specs.Result.{result_ok}
use Rattle.std.proofs.Common.{rules}
use Rattle.state.specs.declared.types.Refusal.TheVariants.{Damaged}
use Rattle.state.specs.Values.{with_file}
use Rattle.state.specs.Refusals.{numbers, Done}
use Rattle.state.specs.World.{Outcome, before, ended, in_numbers, yields}
use Rattle.transact.proofs.Steps.{edge_says, edge_not}
use Rattle.transact.proofs.Exits.{truncate_damaged, truncate_held}
use Rattle.transact.proofs.truncate.truncate.Goals as goal

pub returns-in_err-edge : goal.returns-in_err-edge
returns-in_err-edge c =
    let a = c.args in
    let w = before a.image.now a.map.now a.table.now a.state.now in
    let none : c.edge_of.result ≡ None = c.ok_or.ensures.ok_part ∙ ap result_ok c.in_err-edge.was in
    let d =
    truncate_damaged w a.file a.bytes (sym c.check.ensures ∙ c.in_ok-check.was) c.if-bytes-eq0.false
    (rw c.from-i.ensures at (eqb-false _ _ (sym c.is_empty.ensures ∙ c.if-is_empty.false)))
    (rw (c.from-i.ensures, c.from-count.ensures) at (edge_not _ _ _ _ (sym none ∙ c.edge_of.ensures)))
    in
    let r : c.from_residual-in_err-edge.result ≡ Err Damaged = search rules in
    ap (λ (x : Done). yields x a.image.now a.map.now a.table.now a.state.now) r ∙ sym (ap (λ (o : Outcome Done). in_numbers numbers (ended w o)) d)

pub returns : goal.returns
unfolding with_file
returns c =
    let a = c.args in
    let w = before a.image.now a.map.now a.table.now a.state.now in
    let some : c.edge_of.result ≡ Some c.in_ok-edge.edge = c.ok_or.ensures.ok_part ∙ ap result_ok c.in_ok-edge.was in
    let d =
    truncate_held w a.file a.bytes (sym c.check.ensures ∙ c.in_ok-check.was) c.if-bytes-eq0.false
    (rw c.from-i.ensures at (eqb-false _ _ (sym c.is_empty.ensures ∙ c.if-is_empty.false)))
    (rw (c.from-i.ensures, c.from-count.ensures) at (edge_says _ _ _ _ _ (sym some ∙ c.edge_of.ensures)).0)
    in
    rw (c.open_transaction-2.ensures, c.hold_unreached.ensures, c.cut.ensures, c.new_first-first.ensures, c.from-i.ensures, c.from-count.ensures)
    (sym (ap (λ (o : Outcome Done). in_numbers numbers (ended w o)) d))
