-- `script::bytes::fill` meets its contract. The invariant: what is left, filled on, gives the whole.
-- Assumes nothing.
use Rattle.std.proofs.Common.{◌≡◌, ◌<◌, ◌-◌, ◌%◌, length}
use Rattle.runs.specs.Runs.{splice}
use Rattle.script.specs.Bytes.{ramp}
use Rattle.script.proofs.bytes.fill.Given as goal

abbrev pub invariant-loop-byte : goal.invariant-loop-byte
invariant-loop-byte l =
    record {
      low : l.next < 251;
      rest : splice l.byte-items l.byte-index (ramp (length l.byte-items - l.byte-index) l.next) ≡ ramp (length l.initial.byte-items) (l.start % 251);
    }
