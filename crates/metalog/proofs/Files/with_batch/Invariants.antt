-- `metalog::Files::with_batch` meets its contract.
-- Assumes nothing.
use Rattle.metalog.specs.Log.{entries, adds, good, taken}
use Rattle.std.specs.Slice.Iter.{chunks_exact_rest, chunks_exact_size}
use lib.ListN.{length}
use mathlib.Core.Path.{◌≡◌}
use Prim.Native.Nat.{◌/◌}
use Rattle.metalog.proofs.Files.with_batch.Given as goal

abbrev pub invariant-loop-entry : goal.invariant-loop-entry
invariant-loop-entry l =
    (goal.iterator-loop-entry).can_next l.entry-iterator
    × (goal.iterator-loop-entry).is_finite l.entry-iterator
    × (chunks_exact_size l.entry-iterator ≡ 8)
    × (taken (adds l.count (good l.initial.self) (entries (length l.batch / 8) l.batch))
    ≡ taken (adds l.count (good l.self) (entries (length (chunks_exact_rest l.entry-iterator) / 8) (chunks_exact_rest l.entry-iterator))))
