-- `page::links_bytes`: the links so far stand in front, and zeros behind them.
-- Assumes nothing.
use Rattle.std.proofs.Common.{◌≡◌, ◌-◌, ◌*◌, ◌++◌, take, replicate}
use Rattle.page.specs.Page.{pairs}
use Rattle.page.proofs.links_bytes.Given as goal

abbrev pub invariant-loop-i : goal.invariant-loop-i
invariant-loop-i l = l.bytes ≡ pairs (take l.i l.fn.links) ++ replicate (18 - 2 * l.i) 0
