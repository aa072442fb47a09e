-- What the parts of the code's mount hand back with the map that they leave, as the definitions say it. Where one gives none, the map
-- is half marked and nobody looks at it. Assumes nothing: these are definitions.
use Rattle.std.specs.Prelude.{ℕ, Bool, cond, List, Option, Some, None}
use Rattle.state.specs.declared.types.FileRecord.{FileRecord}
use Rattle.state.specs.declared.types.Table.{Table}
use Rattle.volume.specs.Mount.{Maybe, bad, good, Loaded, LoadedAll}

abbrev pub marked_as : Bool → List ℕ → Maybe (List ℕ)
marked_as ok m = cond ok (good m) bad

abbrev pub loaded_as : Option FileRecord → List ℕ → Maybe Loaded
loaded_as None m = bad
loaded_as (Some f) m = good (record { file = f; map = m })

abbrev pub all_as : Option Table → List ℕ → Maybe LoadedAll
all_as None m = bad
all_as (Some t) m = good (record { files = t.files; map = m })
