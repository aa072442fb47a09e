-- Truncate, by document 01, "Files and transactions"; DECISIONS 12 and 15. Assumes nothing: these are definitions.
use Rattle.state.specs.Refusals.{Done, fine}
use Rattle.std.specs.Prelude.{ℕ, ◌+◌, ◌-◌, min, true, cond, List, [], ◌∷◌, eqb, length, drop, set}
use Rattle.seq.specs.Ids.{none}
use Rattle.page.specs.Page.{no_header}
use Rattle.map.specs.Map.{held}
use Rattle.chain.specs.Files.{last_of}
use Rattle.chain.specs.Steps.{read_at, Sought, damaged, at, walk, visited}
use Rattle.state.specs.declared.types.FileRecord.{FileRecord}
use Rattle.state.specs.declared.types.Refusal.TheVariants.{Damaged}
use Rattle.state.specs.Values.{file_at, with_file, is_empty, in_shape, opened}
use Rattle.state.specs.World.{World, Outcome, kept, refuse, checked}

-- ---- the record

unfoldable pub dirtied : FileRecord → FileRecord
dirtied f =
    record { dirty = true; last_page = f.last_page; header = f.header; first_seq = f.first_seq; last_seq = f.last_seq; flags = f.flags }

-- first_seq advanced
unfoldable pub advanced : FileRecord → ℕ → FileRecord
advanced f first =
    record { dirty = true; last_page = f.last_page; header = f.header; first_seq = first; last_seq = f.last_seq; flags = f.flags }

-- if nothing remains, last page is none, both numbers and the flags are 0
unfoldable pub emptied : FileRecord
emptied = record { dirty = true; last_page = none; header = no_header; first_seq = 0; last_seq = 0; flags = 0 }

-- advanced by the smaller of bytes and length
abbrev pub new_first : FileRecord → ℕ → ℕ
new_first f bytes = f.first_seq + min bytes (f.last_seq - f.first_seq)

unfoldable pub cut : FileRecord → ℕ → FileRecord
cut f first = cond (eqb first f.last_seq) emptied (advanced f first)

-- ---- the pages

-- a page's id is no other's: only a header that was changed on the image can lead back to the last page
abbrev pub others : ℕ → List ℕ → List ℕ
others p [] = []
others p (q ∷ l) = cond (eqb q p) (others p l) (q ∷ others p l)

-- the pages of the walk to the old first_seq that the walk to the new one does not reach; all where nothing remains
unfoldable pub unreached : List ℕ → ℕ → FileRecord → ℕ → List ℕ
unreached img count f first =
    let all = visited (last_of f) (walk count (read_at img) f.first_seq (last_of f)) in
    cond (eqb first f.last_seq) all
    (others f.last_page (drop (length (visited (last_of f) (walk count (read_at img) first (last_of f)))) all))

abbrev pub held_all : List ℕ → List ℕ → List ℕ
held_all m [] = m
held_all m (p ∷ l) = held_all (set m p held) l

-- ---- the call

abbrev pub changed_file : World → ℕ → List ℕ → FileRecord → Outcome Done
changed_file w i m f = record { answer = fine; stores = []; map = m; table = with_file w.table i f; state = opened w.state }

abbrev pub truncated_by : World → ℕ → FileRecord → ℕ → Sought → Outcome Done
truncated_by w i f first damaged = refuse w Damaged
truncated_by w i f first (at q) =
    changed_file w i (held_all w.map (unreached w.image w.state.page_count f first)) (cut f first)

-- the whole walk is checked before anything changes; of an empty file nothing remains, whatever its record says
unfoldable pub truncate_in : World → ℕ → FileRecord → ℕ → Outcome Done
truncate_in w i f bytes =
    cond (is_empty f) (changed_file w i w.map emptied)
    (cond (in_shape w.state.page_count f)
    (truncated_by w i f (new_first f bytes) (walk w.state.page_count (read_at w.image) f.first_seq (last_of f)).ends)
    (refuse w Damaged))

-- truncate 0 does nothing and opens nothing
unfoldable pub truncate : World → ℕ → ℕ → Outcome Done
truncate w i bytes =
    checked w w.state.writer.active i (refuse w)
    (cond (eqb bytes 0) (kept w fine) (truncate_in w i (file_at w.table i) bytes))
