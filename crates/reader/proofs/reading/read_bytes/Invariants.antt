-- `reader::reading::read_bytes` meets its contract: what is read so far with what is left to read is what the whole read gives.
-- Assumes nothing.
use mathlib.Core.Path.{◌≡◌}
use Prim.Native.Nat.{◌≤◌, ◌-◌}
use lib.ListN.{length}
use Rattle.reader.proofs.Bytes.{bytes, rest}
use Rattle.reader.proofs.reading.read_bytes.Given as goal

abbrev pub invariant-loop-done : goal.invariant-loop-done
invariant-loop-done l =
    record {
      inside : l.done ≤ length l.out;
      kept : length l.out ≡ length l.initial.out;
      rest : rest l.image l.count l.f l.seq (length l.initial.out) l.done l.out ≡ bytes l.image l.count l.f l.seq (length l.initial.out);
    }

abbrev pub decreases-loop-done : goal.decreases-loop-done
decreases-loop-done l = length l.initial.out - l.done
