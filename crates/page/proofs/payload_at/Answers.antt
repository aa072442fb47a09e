-- `page::payload_at` meets its contract.
-- Assumes nothing.
use Rattle.page.specs.Page.{page_of}
use Rattle.page.proofs.Laws.{page_most}
use Rattle.runs.proofs.Laws.{part_of_out}
use Prim.Native.Nat.{◌+◌}
use native.Mathlib.Omega.{arith}
use mathlib.Core.Path.{sym}
use Rattle.page.proofs.payload_at.Goals as goal

pub returns-else-off-le-PAYLOAD_SIZE : goal.returns-else-off-le-PAYLOAD_SIZE
returns-else-off-le-PAYLOAD_SIZE c =
    let a = c.args in
    let m = page_most a.image.now a.p in
    sym (part_of_out (page_of a.image.now a.p) (32 + a.off) a.n (omega arith))
