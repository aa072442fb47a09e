-- `volume::erase_old` meets its contract: at each turn the pages before are done.
-- Assumes nothing.
use mathlib.Core.Path.{◌≡◌}
use Rattle.page.specs.Store.{ran}
use Rattle.volume.specs.Format.{erasures}
use Rattle.volume.proofs.erase_old.Given as goal

abbrev pub invariant-loop-i : goal.invariant-loop-i
invariant-loop-i l = l.image ≡ ran l.initial.image (erasures l.initial.image l.p l.i)
