-- What the listing program lists, by document 01, "Listing program"; DECISIONS 25. Assumes nothing: these are definitions.
use Rattle.std.specs.Prelude.{ℕ, ◌+◌, ◌/◌, cond, List, [], ◌∷◌, ltb, length, replicate, Option, Some, None, Result, Ok, Err}
use Rattle.std.specs.Option.{unwrap_or}
use Rattle.chain.specs.Files.{last_of}
use Rattle.chain.specs.Steps.{read_at, Sought, damaged, at, walk}
use Rattle.chain.specs.declared.PagePointer.{PagePointer}
use Rattle.state.specs.declared.types.FileRecord.{FileRecord}
use Rattle.state.specs.declared.types.Refusal.{Refusal}
use Rattle.state.specs.declared.types.Refusal.TheVariants.{BadSize}
use Rattle.state.specs.declared.types.Table.{Table}
use Rattle.state.specs.Refusals.{Done}
use Rattle.state.specs.Values.{file_at, is_empty, empty_table, unmounted}
use Rattle.state.specs.World.{Outcome, before}
use Rattle.volume.specs.Mount.{mount}
use Rattle.inventory.specs.declared.FileLine.{FileLine}

-- an empty file's
abbrev pub no_line : Option FileLine
no_line = None

-- the pages that a walk visits after n others, if it does not break
abbrev pub counted_by : ℕ → List ℕ → Sought → Option ℕ
counted_by n path damaged = None
counted_by n path (at q) = Some (n + length path)

abbrev pub counted_from : List ℕ → ℕ → ℕ → ℕ → PagePointer → Option ℕ
counted_from img count first n p = counted_by n (walk count (read_at img) first p).path (walk count (read_at img) first p).ends

-- 0 where it breaks, which it does not once an image is mounted
abbrev pub pages_by : ℕ → List ℕ → Sought → ℕ
pages_by n path s = unwrap_or (counted_by n path s) 0

-- the pages that mount's walk visits, its first one with them
abbrev pub pages_from : List ℕ → ℕ → ℕ → ℕ → PagePointer → ℕ
pages_from img count first n p = pages_by n (walk count (read_at img) first p).path (walk count (read_at img) first p).ends

unfoldable pub pages_of : List ℕ → ℕ → FileRecord → ℕ
pages_of img count f = pages_from img count f.first_seq 1 (last_of f)

unfoldable pub line_of : List ℕ → ℕ → FileRecord → Option FileLine
line_of img count f =
    cond (is_empty f) no_line
    (Some (record { first = f.first_seq; last = f.last_seq; flags = f.flags; pages = pages_of img count f }))

-- a line for each of the eight files
unfoldable pub lines_of : List ℕ → ℕ → Table → List (Option FileLine)
lines_of img count t =
    line_of img count (file_at t 0) ∷ line_of img count (file_at t 1) ∷ line_of img count (file_at t 2) ∷ line_of img count (file_at t 3)
    ∷ line_of img count (file_at t 4) ∷ line_of img count (file_at t 5) ∷ line_of img count (file_at t 6) ∷ line_of img count (file_at t 7)
    ∷ []

-- an image's lines, or why it has none
abbrev pub Inventory : Type 0
Inventory = Result (List (Option FileLine)) Refusal

abbrev pub refused_by : Refusal → Inventory
refused_by why = Err why

abbrev pub listed_by : List ℕ → Outcome Done → Done → Inventory
listed_by img o (Err why) = refused_by why
listed_by img o (Ok u) = Ok (lines_of img o.state.page_count o.table)

-- the image mounted with seed 1
abbrev pub mounted : List ℕ → Outcome Done
mounted img = mount (before img (replicate (length img / 256) 0) empty_table (unmounted 1))

-- up to 256 pages; more is BadSize
unfoldable pub inventory_of : List ℕ → Inventory
inventory_of img = cond (ltb 65536 (length img)) (refused_by BadSize) (listed_by img (mounted img) (mounted img).answer)
