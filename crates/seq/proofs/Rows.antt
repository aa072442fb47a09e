-- The checked rows hold: what each asks is the number that it names. Assumes nothing.
use Rattle.std.specs.Prelude.{◌≡◌, refl, map}
use Rattle.seq.specs.Seq.{number, index, below, span}
use Rattle.seq.specs.Rows.{Row, rows}

pub rows_hold : map (λ (r : Row). r.says r.left r.right) rows ≡ map (λ (r : Row). number r.gives) rows
unfolding rows index span below
rows_hold = refl
