-- `volume::load_files` meets its contract: the files so far in front of what the others give on the map as it is, are what all give.
-- Assumes nothing.
use mathlib.Core.Path.{◌≡◌}
use lib.ListN.{length}
use Rattle.volume.specs.Mount.{load_from}
use Rattle.volume.proofs.Exits.{so_far}
use Rattle.volume.proofs.load_files.Given as goal

abbrev pub invariant-loop-i : goal.invariant-loop-i
invariant-loop-i l = (length l.file-items ≡ 8)
    × (so_far l.image l.count l.f l.i l.file-items l.map ≡ load_from l.image l.count l.f 0 8 l.initial.map)
