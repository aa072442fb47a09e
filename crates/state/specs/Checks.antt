-- Checks 1 to 4, in document 01's order, and when a state counts as mounted (DECISIONS 3). Assumes nothing: these are definitions.
use Rattle.state.specs.Refusals.{Done, fine}
use Rattle.std.specs.Prelude.{ℕ, ◌+◌, ◌*◌, Bool, cond, ◌&&◌, ◌||◌, not, leb, ltb, eqb, Err}
use Rattle.seq.specs.Ids.{none}
use Rattle.seq.specs.Seq.{limit}
use Rattle.state.specs.declared.types.Writer.{Writer}
use Rattle.state.specs.declared.types.Search.{Search}
use Rattle.state.specs.declared.types.State.{State}
use Rattle.state.specs.declared.types.Refusal.TheVariants.{BadSize, NotMounted, Busy, BadFile}

-- 4 to 1,024 pages, and an image and a map of that many
unfoldable pub sizes : ℕ → ℕ → Bool
sizes image map = leb map 1024 && (leb 4 map && eqb image (256 * map))

-- an id that is none or a page's
abbrev pub id_ok : ℕ → ℕ → Bool
id_ok count id = eqb id none || ltb id count

-- an open writer's file, staged length, ids (its page, the copied one and the one before) and numbers are in range
unfoldable pub writer_ok : ℕ → Writer → Bool
writer_ok count w =
    not w.active
    || (leb w.file 7 && leb w.length 224 && (id_ok count w.page && id_ok count w.copied && id_ok count w.previous)
    && leb (w.seq + w.length) limit && leb w.stored w.seq)

-- so are an open search's
unfoldable pub search_ok : Search → Bool
search_ok q =
    not q.active
    || (leb q.file 7 && (leb q.left limit && leb q.right limit && leb q.result limit)
    && (leb q.low limit && leb q.mid limit && leb q.high limit))

-- a state counts as mounted if its flag says so and each of its numbers is in range
unfoldable pub is_mounted : State → Bool
is_mounted s =
    s.mounted && (leb 4 s.pages && leb s.pages 1024 && leb 1 s.page_count && leb s.page_count s.pages)
    && (ltb s.meta_page s.page_count && ltb s.cursor s.page_count)
    && writer_ok s.page_count s.writer
    && search_ok s.search

-- a mounted state wants the sizes that it was mounted with
unfoldable pub wrong_size : ℕ → ℕ → Bool → ℕ → Bool
wrong_size image map mounted pages = not (sizes image map) || mounted && not (eqb map pages)

-- checks 1 to 4
unfoldable pub checks : ℕ → ℕ → State → Bool → ℕ → Done
checks image map s busy file =
    cond (wrong_size image map (is_mounted s) s.pages) (Err BadSize)
    (cond (is_mounted s)
    (cond busy (Err Busy)
    (cond (ltb 7 file) (Err BadFile)
    fine))
    (Err NotMounted))
