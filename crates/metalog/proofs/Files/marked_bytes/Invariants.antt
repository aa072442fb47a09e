-- `metalog::Files::marked_bytes` meets its contract.
-- Assumes nothing.
use Rattle.metalog.proofs.Runs.{Below}
use Rattle.metalog.proofs.Files.marked_bytes.Given as goal

abbrev pub invariant-loop-i : goal.invariant-loop-i
invariant-loop-i l = Below l.self l.marks l.i l.bytes.items
