-- `script::bytes::adler32` meets its contract. The invariant: the sums so far lead to the whole's.
-- Assumes nothing.
use Rattle.std.proofs.Common.{◌≡◌, ◌<◌, drop}
use Rattle.script.specs.Bytes.{adler}
use Rattle.script.proofs.bytes.adler32.Given as goal

abbrev pub invariant-loop-byte : goal.invariant-loop-byte
invariant-loop-byte l = record { low : l.a < 65521; high : l.b < 65521; rest : adler l.a l.b (drop l.byte-index l.s) ≡ adler 1 0 l.s }
