-- `volume::claim_walk` meets its contract: what the pages from the one at hand on give on the map as it is, the whole walk gives.
-- Assumes nothing.
use mathlib.Core.Path.{◌≡◌}
use Rattle.chain.specs.Steps.{read_at, walk}
use Rattle.volume.specs.Mount.{claimed}
use Rattle.volume.proofs.Claims.{claims_from}
use Rattle.volume.proofs.claim_walk.Given as goal

abbrev pub invariant-loop-here : goal.invariant-loop-here
invariant-loop-here l = claims_from l.count (read_at l.image) l.first l.map l.here
    ≡ claimed l.initial.map l.p (walk l.count (read_at l.image) l.first l.p) (walk l.count (read_at l.image) l.first l.p).ends

abbrev pub decreases-loop-here : goal.decreases-loop-here
decreases-loop-here l = l.here.seq
