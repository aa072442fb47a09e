-- `script::show::show_image` meets its contract. The invariant: the lines that are left, put behind what is held, give all of them.
-- Assumes nothing.
use Rattle.std.proofs.Common.{◌≡◌, ◌-◌, ◌/◌, length}
use Rattle.script.specs.Text.{puts}
use Rattle.script.specs.Show.{lines, sum_shown}
use Rattle.script.proofs.show.show_image.Given as goal

abbrev pub invariant-loop-p : goal.invariant-loop-p
invariant-loop-p l =
    puts l.output (lines (sum_shown l.image) l.p (length l.image / 256 - l.p)) ≡ puts l.initial.output (lines (sum_shown l.image) 0 (length l.image / 256))
