-- `writer::write::write_all` meets its contract: what the rest of the write makes is what the whole makes.
-- Assumes nothing.
use mathlib.Core.Path.{◌≡◌}
use lib.ListN.{length}
use Rattle.writer.specs.Inner.{written, Sound}
use Rattle.writer.proofs.write.write_all.Given as goal

abbrev pub invariant-loop-rest : goal.invariant-loop-rest
invariant-loop-rest l = record {
  made : written l.image l.map l.state l.rest ≡ written l.initial.image l.initial.map l.initial.state l.bytes;
  sound : Sound l.state.page_count (length l.rest) l.map l.state.cursor l.state.writer;
}

abbrev pub decreases-loop-rest : goal.decreases-loop-rest
decreases-loop-rest l = length l.rest
