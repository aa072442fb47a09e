-- `seq::numbers::skiplist_seq` meets its contract. A span is no 0, and the product is at most the number before curr.
-- Assumes nothing.
use borrow.Author.Tests.{ne_eqb, lt-ltb}
use native.Mathlib.Nat.{div-mul-le_self}
use native.Mathlib.Omega.{arith}
use Prim.Native.Nat.{◌-◌}
use mir.Facts.{Fits-le, Fits-sub}
use Rattle.seq.specs.Seq.{below, span}
use Rattle.seq.proofs.Laws.{span_pos}
use Rattle.seq.proofs.numbers.skiplist_seq.Goals as goal

pub nonzero_div-result : goal.nonzero_div-result
unfolding span
nonzero_div-result c = span_pos c.args.index (omega arith)

pub overflow_mul-result : goal.overflow_mul-result
overflow_mul-result c = Fits-le (div-mul-le_self (c.args.curr - 1) _) (Fits-sub 1 c.ranges.curr)

pub returns : goal.returns
unfolding below span
returns c = simp (ne_eqb _ _ c.if-curr-eq0.false, lt-ltb _ _ c.if-index-ge-SKIPLIST_LEN.false)
