-- `volume::scan_meta` meets its contract: at each turn the best is that of the pages before.
-- Assumes nothing.
use mathlib.Core.Path.{◌≡◌}
use Rattle.volume.specs.Scan.{scan}
use Rattle.volume.proofs.scan_meta.Given as goal

abbrev pub invariant-loop-page : goal.invariant-loop-page
invariant-loop-page l = l.best ≡ scan l.image l.page
