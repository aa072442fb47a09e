-- `volume::load_files` meets its contract: the files so far in front of what the others give on the map as it is, are what all give.
-- Assumes nothing.
use mathlib.Core.Path.{◌∙◌}
use native.Mathlib.Omega.{arith}
use lib.ListN.{length-set}
use Rattle.volume.proofs.Exits.{so_far_more}
use Rattle.volume.proofs.load_files.Goals as goal

pub loop-i-preserved : goal.loop-i-preserved
loop-i-preserved c =
    let i = c.loop-i.invariant in
    (simp length-set i.0, so_far_more _ _ _ _ _ _ (omega arith) c.in_ok-file.field-0 _ (rw c.in_ok-file.was at c.load.ensures) i.0 ∙ i.1)
