-- `writer::finish::is_unbroken` meets its contract: what the rest of the walk says is what the whole says.
-- Assumes nothing.
use mathlib.Core.Path.{◌≡◌}
use Prim.Native.Nat.{◌+◌, ◌-◌}
use Rattle.chain.specs.Steps.{read_at}
use Rattle.chain.specs.Back.{wide}
use Rattle.writer.specs.Finish.{back_from}
use Rattle.writer.specs.Inner.{unbroken}
use Rattle.writer.proofs.finish.is_unbroken.Given as goal

abbrev pub invariant-loop : goal.invariant-loop
invariant-loop l = unbroken (back_from l.count (read_at l.image) (l.n + 1 - l.counter) (wide l.here)) ≡ unbroken (back_from l.count (read_at l.image) l.n l.p)
