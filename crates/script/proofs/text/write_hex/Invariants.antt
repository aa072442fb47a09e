-- `script::text::write_hex` meets its contract. The invariant: the digits that are left, stored behind those so far, give all.
-- Assumes nothing.
use Rattle.std.proofs.Common.{◌≡◌, ◌+◌, ◌*◌, drop}
use Rattle.runs.specs.Runs.{splice}
use Rattle.script.specs.Text.{hex_digits}
use Rattle.script.proofs.text.write_hex.Given as goal

abbrev pub invariant-loop-i : goal.invariant-loop-i
invariant-loop-i l = splice l.out (l.at + 2 * l.i) (hex_digits (drop l.i l.bytes)) ≡ splice l.initial.out l.at (hex_digits l.bytes)
