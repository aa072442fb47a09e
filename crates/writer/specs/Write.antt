-- Writing and ending a record, by document 01, "Files and transactions", paragraphs "Writer" and "NoRoom"; DECISIONS 7, 17 to 19.
-- Assumes nothing: these are definitions.
use Rattle.state.specs.Refusals.{Done, fine}
use Rattle.std.specs.Prelude.{ℕ, zero, suc, ◌+◌, false, cond, not, List, [], ◌∷◌, ◌++◌, eqb, ltb, length, take, drop, set, Option, Some, None}
use Rattle.seq.specs.Seq.{limit}
use Rattle.page.specs.Store.{Store}
use Rattle.map.specs.Map.{alloc_of, used, beyond}
use Rattle.state.specs.declared.types.Writer.{Writer}
use Rattle.state.specs.declared.types.Refusal.TheVariants.{NoRoom, SeqEnd, NoSearch}
use Rattle.state.specs.Values.{with_cursor, with_writer}
use Rattle.state.specs.World.{World, Outcome, kept, refuse, checked}
use Rattle.writer.specs.Staging.{is_staged, flush_stores, flushed, on_page, filled_by, record_ended, space, pages_for, too_few}

-- what a write changes
pub record Writing : Type 0 where
  pub stores : List Store
  pub map : List ℕ
  pub cursor : ℕ
  pub writer : Writer

-- a staged page is flushed
unfoldable pub flush : Writing → Writing
flush x =
    cond (is_staged x.writer)
    (record { stores = x.stores ++ flush_stores x.writer; map = x.map; cursor = x.cursor; writer = flushed x.writer })
    x

-- then a page is allocated; the room was seen to before, so that there is one
abbrev pub staged : ℕ → Writing → Option ℕ → Writing
staged count x None = x
staged count x (Some p) = record { stores = x.stores; map = set x.map p used; cursor = beyond count p; writer = on_page x.writer p }

unfoldable pub next_page : ℕ → Writing → Writing
next_page count x = staged count (flush x) (alloc_of (flush x).map count (flush x).cursor)

-- a full page is stored when the next byte comes
unfoldable pub ready : ℕ → Writing → Writing
ready count x = cond (eqb (space x.writer) 0) (next_page count x) x

-- as many bytes as the staged page takes
abbrev pub put : Writing → List ℕ → Writing
put x l = record { stores = x.stores; map = x.map; cursor = x.cursor; writer = filled_by x.writer l }

-- page by page; each takes one byte at least, so that as much fuel as bytes is enough
unfoldable pub write_from : ℕ → ℕ → List ℕ → Writing → Writing
write_from count zero l x = x
write_from count (suc k) [] x = x
write_from count (suc k) (b ∷ l) x =
    let y = ready count x in
    let n = space y.writer in
    write_from count k (drop n (b ∷ l)) (put y (take n (b ∷ l)))

abbrev pub begun : World → Writing
begun w = record { stores = []; map = w.map; cursor = w.state.cursor; writer = w.state.writer }

abbrev pub written_as : World → Writing → Outcome Done
written_as w x =
    record { answer = fine; stores = x.stores; map = x.map; table = w.table; state = with_writer (with_cursor w.state x.cursor) x.writer }

-- whole or refused
unfoldable pub write_in : World → List ℕ → Outcome Done
write_in w l =
    cond (not w.state.writer.active) (refuse w NoSearch)
    (cond (ltb limit (w.state.writer.seq + w.state.writer.length + length l)) (refuse w SeqEnd)
    (cond (too_few w.map w.state.page_count (pages_for (space w.state.writer) (length l))) (refuse w NoRoom)
    (written_as w (write_from w.state.page_count (length l) l (begun w)))))

unfoldable pub write : World → List ℕ → Outcome Done
write w l = checked w false 0 (refuse w) (cond (eqb (length l) 0) (kept w fine) (write_in w l))

-- ---- a record's end

unfoldable pub record_end : World → Outcome Done
record_end w =
    checked w false 0 (refuse w)
    (cond w.state.writer.active
    (record { answer = fine; stores = []; map = w.map; table = w.table; state = with_writer w.state (record_ended w.state.writer) })
    (refuse w NoSearch))
