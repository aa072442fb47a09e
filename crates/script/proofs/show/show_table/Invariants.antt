-- `script::show::show_table` meets its contract. The invariant: the lines that are left, put behind what is held, give all of them.
-- Assumes nothing.
use Rattle.std.proofs.Common.{◌≡◌, ◌-◌}
use Rattle.state.specs.Values.{file_at}
use Rattle.script.specs.Text.{puts}
use Rattle.script.specs.Show.{lines, file_shown}
use Rattle.script.proofs.show.show_table.Given as goal

abbrev pub invariant-loop-i : goal.invariant-loop-i
invariant-loop-i l =
    puts l.output (lines (λ k. file_shown k (file_at l.fn.table k)) l.i (8 - l.i)) ≡ puts l.initial.output (lines (λ k. file_shown k (file_at l.fn.table k)) 0 8)
