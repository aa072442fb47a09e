-- `script::bytes::decode` meets its contract. The invariant: the bytes of what is left, stored behind those so far, give all.
-- Assumes nothing.
use Rattle.std.proofs.Common.{◌≡◌, ◌*◌, drop}
use Rattle.runs.specs.Runs.{splice}
use Rattle.script.specs.Bytes.{bytes_of}
use Rattle.script.proofs.bytes.decode.Given as goal

abbrev pub invariant-loop-o : goal.invariant-loop-o
invariant-loop-o l = splice l.out l.o (bytes_of (drop (2 * l.o) l.word)) ≡ splice l.initial.out 0 (bytes_of l.word)
