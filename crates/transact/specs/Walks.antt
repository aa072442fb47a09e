-- For private functions: a walk back that ends at a page, a record that truncate follows, and the page where the walk to the new first_seq
-- ends. Assumes nothing: these are definitions.
use Rattle.std.specs.Prelude.{ℕ, ◌≡◌, Bool, true, cond, ◌&&◌, List, Option, Some, None}
use Rattle.chain.specs.declared.Place.{Place}
use Rattle.chain.specs.Files.{last_of}
use Rattle.chain.specs.Steps.{read_at, walk}
use Rattle.chain.specs.Seek.{found}
use Rattle.chain.specs.Back.{place_of, wide, walk_back}
use Rattle.state.specs.declared.types.FileRecord.{FileRecord}
use Rattle.state.specs.Values.{in_shape}

abbrev pub Ends : List ℕ → ℕ → Place → ℕ → Type 0
Ends img count p limit = (found (wide p) (walk_back count (read_at img) limit p)).ok ≡ true

unfoldable pub follows : List ℕ → ℕ → FileRecord → Bool
follows img count f = in_shape count f && (found (last_of f) (walk count (read_at img) f.first_seq (last_of f))).ok

abbrev pub edge_of : List ℕ → ℕ → FileRecord → ℕ → Place
edge_of img count f first = place_of (found (last_of f) (walk count (read_at img) first (last_of f))).page

-- the same as the code tells it: none where a call may not follow the record, or its walk ends at no page
abbrev pub edge_at : List ℕ → ℕ → FileRecord → ℕ → Option Place
edge_at img count f first = cond (follows img count f) (Some (edge_of img count f first)) None
