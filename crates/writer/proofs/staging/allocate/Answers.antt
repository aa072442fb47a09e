-- `writer::staging::allocate` meets its contract: a page is found, or none.
-- Assumes nothing.
use Rattle.std.specs.Prelude.{Some, None}
use mathlib.Core.Path.{sym, refl}
use native.Mathlib.Omega.{arith}
use Rattle.state.specs.Values.{with_cursor}
use Rattle.writer.proofs.Pages.{alloc_small, alloc_told}
use Rattle.writer.proofs.staging.allocate.Goals as goal

pub overflow_cast-result : goal.overflow_cast-result
overflow_cast-result c =
    let h = c.requires in
    let e = alloc_small _ _ _ _ c.in_ok-p.p _ c.allocate.ensures c.in_ok-p.was (omega arith) in
    omega arith

pub returns-in_err-p : goal.returns-in_err-p
returns-in_err-p c =
    let e = alloc_told _ _ _ _ None (rw (c.from-count.ensures, c.from.ensures) at c.in_err-p.ensures) in
    rw c.from_residual.ensures (sym e.0, e.1, refl)

pub returns : goal.returns
unfolding with_cursor
returns c =
    let e = alloc_told _ _ _ _ (Some c.in_ok-p.p) (rw (c.from-count.ensures, c.from.ensures) at c.in_ok-p.ensures) in
    (sym e.0, e.1, rw (c.beyond_page.ensures, c.from-count.ensures))
