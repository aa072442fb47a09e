-- `writer::finish::free_back` meets its contract: the page at hand is freed already, and what freeing the others gives is what freeing all gives.
-- Assumes nothing.
use mathlib.Core.Path.{◌≡◌}
use mathlib.Core.Bool.{true}
use Prim.Native.Nat.{◌+◌, ◌-◌}
use Rattle.chain.specs.Steps.{read_at}
use Rattle.chain.specs.Back.{wide}
use Rattle.writer.specs.Finish.{back_from}
use Rattle.writer.specs.Inner.{unbroken, freed_by}
use Rattle.writer.proofs.Backs.{freed_after}
use Rattle.writer.proofs.finish.free_back.Given as goal

abbrev pub invariant-loop : goal.invariant-loop
invariant-loop l = record {
  unbroken : unbroken (back_from l.count (read_at l.image) (l.n + 1 - l.counter) (wide l.here)) ≡ true;
  freed : freed_after l.count (read_at l.image) l.map (back_from l.count (read_at l.image) (l.n + 1 - l.counter) (wide l.here)) ≡ freed_by l.fn.map (back_from l.count (read_at l.image) l.n l.p);
}
