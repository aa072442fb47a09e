-- `script::text::hex_at` meets its contract.
-- Assumes nothing.
use Rattle.std.proofs.Common.{arith, ◌+◌, ◌*◌, ◌<◌, ◌≤◌, length}
use Rattle.std.proofs.lemmas.Bool.{lt-leb, le-leb}
use Rattle.runs.proofs.Laws.{placed_in, placed_out}
use Rattle.script.specs.Text.{hex_digits}
use Rattle.script.proofs.Laws.{hex_length}
use Rattle.script.proofs.text.hex_at.Goals as goal

pub returns-then-room-at : goal.returns-then-room-at
returns-then-room-at c = let a = c.args in
    let g : length a.out.now < a.at + length (hex_digits a.bytes.now) = rw (hex_length a.bytes.now) (omega arith) in
    record { text = rw (placed_out a.out.now a.at (hex_digits a.bytes.now) g); end = rw (lt-leb _ _ g) }

pub returns-then-room-at-2 : goal.returns-then-room-at-2
returns-then-room-at-2 c = let a = c.args in
    let h : length a.out.now < a.at + 2 * length a.bytes.now = omega arith in
    let g : length a.out.now < a.at + length (hex_digits a.bytes.now) = rw (hex_length a.bytes.now) h in
    record { text = rw (placed_out a.out.now a.at (hex_digits a.bytes.now) g); end = rw (lt-leb _ _ g) }

pub returns : goal.returns
returns c = let a = c.args in
    let h : a.at + 2 * length a.bytes.now ≤ length a.out.now = omega arith in
    let g : a.at + length (hex_digits a.bytes.now) ≤ length a.out.now = rw (hex_length a.bytes.now) h in
    record { text = rw (placed_in a.out.now a.at (hex_digits a.bytes.now) g) c.write_hex.ensures; end = rw (le-leb _ _ g, hex_length a.bytes.now) }
