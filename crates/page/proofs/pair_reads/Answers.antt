-- `page::pair_reads` meets its contract. Written out, so that a wrong place or bound is refused here, by its equation.
-- Assumes nothing.
use Rattle.page.specs.Page.{pair_reads}
use borrow.Author.Tests.{eq-eqb, ne_eqb}
use native.Mathlib.Omega.{arith}
use Rattle.std.proofs.lemmas.Grind.{common_steps}
use Rattle.page.proofs.pair_reads.Goals as goal

pub returns-then-u16_at-n : goal.returns-then-u16_at-n
unfolding pair_reads
returns-then-u16_at-n c =
    let last = c.new.ensures.end in
    rw (c.contains.ensures.value, ← c.u16_at.ensures, ← c.u16_at-n.ensures, eq-eqb _ _ c.if-u16_at-n.true) (grind (arith, common_steps))

pub returns-else-u16_at-n : goal.returns-else-u16_at-n
unfolding pair_reads
returns-else-u16_at-n c = rw (← c.u16_at.ensures, ← c.u16_at-n.ensures, ne_eqb _ _ c.if-u16_at-n.false)
