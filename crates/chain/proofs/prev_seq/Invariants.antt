-- `chain::prev_seq` meets its contract: what is answered in the end from the page at hand, after so many headers, is what is answered
-- from the first page. The start falls, so that no more headers are read than the first start says, which fits.
-- Assumes nothing.
use mathlib.Core.Path.{◌≡◌}
use Prim.Native.Nat.{◌+◌, ◌≤◌}
use Rattle.chain.specs.Links.{start}
use Rattle.chain.specs.Steps.{read_at, seek_rule, seek}
use Rattle.chain.specs.Seek.{located}
use Rattle.chain.proofs.Steps.{after}
use Rattle.chain.proofs.prev_seq.Given as goal

abbrev pub invariant-loop-here : goal.invariant-loop-here
invariant-loop-here l = (after (seek_rule l.count l.seq) (read_at l.image) l.read l.here ≡ located (seek l.count (read_at l.image) l.seq l.fn.p)) × (l.read + start l.here ≤ start l.fn.p)

abbrev pub decreases-loop-here : goal.decreases-loop-here
decreases-loop-here l = start l.here
