-- `script::bytes::number_of` meets its contract. The invariant: what the digits that are left add gives the whole's number.
-- Assumes nothing.
use Rattle.std.proofs.Common.{◌≡◌, drop, Some}
use Rattle.script.specs.Bytes.{digits, number_of}
use Rattle.script.proofs.bytes.number_of.Given as goal

abbrev pub invariant-loop-digit : goal.invariant-loop-digit
invariant-loop-digit l = digits (Some l.value) (drop l.digit-index l.word) ≡ number_of l.word
