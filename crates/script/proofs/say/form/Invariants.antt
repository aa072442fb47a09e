-- `script::say::form` meets its contract. The invariant: what is left, put behind what is held, gives the whole.
-- Assumes nothing.
use Rattle.std.proofs.Common.{◌≡◌, drop}
use Rattle.script.specs.Text.{puts}
use Rattle.script.specs.Say.{formed}
use Rattle.script.proofs.say.form.Given as goal

abbrev pub invariant-loop-n : goal.invariant-loop-n
invariant-loop-n l = puts l.output (formed l.left (drop l.n-index l.numbers)) ≡ puts l.initial.output (formed l.form l.numbers)
