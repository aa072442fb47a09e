-- Rename and flags, by document 01, "Files and transactions"; DECISIONS 12. Assumes nothing: these are definitions.
use Rattle.state.specs.Refusals.{Done, fine}
use Rattle.std.specs.Prelude.{ℕ, cond, [], ltb}
use Rattle.state.specs.declared.types.Table.{Table}
use Rattle.state.specs.declared.types.Refusal.TheVariants.{BadFile}
use Rattle.state.specs.Values.{file_at, with_file, with_flags, opened}
use Rattle.state.specs.World.{World, Outcome, refuse, checked}
use Rattle.transact.specs.Truncate.{dirtied}

-- two files swapped, also one with itself, and both marked dirty
unfoldable pub swapped : Table → ℕ → ℕ → Table
swapped t i j = with_file (with_file t i (dirtied (file_at t j))) j (dirtied (file_at t i))

abbrev pub changed_table : World → Table → Outcome Done
changed_table w t = record { answer = fine; stores = []; map = w.map; table = t; state = opened w.state }

unfoldable pub rename : World → ℕ → ℕ → Outcome Done
rename w i j =
    checked w w.state.writer.active i (refuse w) (cond (ltb 7 j) (refuse w BadFile) (changed_table w (swapped w.table i j)))

-- flags stick only to non-empty files and mark dirty only if changed, but each call opens a transaction
unfoldable pub flags : World → ℕ → ℕ → Outcome Done
flags w i n = checked w w.state.writer.active i (refuse w) (changed_table w (with_flags w.table i n))
