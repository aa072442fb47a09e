-- Finishing and discarding a writer, by document 01, "Files and transactions", paragraph "Writer"; DECISIONS 12, 19 and 20.
-- Assumes nothing: these are definitions.
use Rattle.state.specs.Refusals.{Done, fine}
use Rattle.std.specs.Prelude.{ℕ, zero, suc, ◌+◌, true, false, cond, List, [], ◌∷◌, eqb, set}
use Rattle.seq.specs.Ids.{none}
use Rattle.page.specs.Page.{Read}
use Rattle.map.specs.Map.{held, free}
use Rattle.chain.specs.declared.PagePointer.{PagePointer}
use Rattle.chain.specs.Steps.{read_at, back_rule, Stepped, stays, reaches, breaks, step}
use Rattle.state.specs.declared.types.FileRecord.{FileRecord}
use Rattle.state.specs.declared.types.Writer.{Writer}
use Rattle.state.specs.declared.types.Refusal.TheVariants.{Damaged, NoSearch}
use Rattle.state.specs.Values.{file_at, with_file, no_writer, opened, with_writer}
use Rattle.state.specs.World.{World, Outcome, refuse, checked}
use Rattle.writer.specs.Staging.{is_staged, staged_header, flush_stores, previous_of}

-- an id's byte becomes v, and none has none
abbrev pub marked : List ℕ → ℕ → ℕ → List ℕ
marked m p v = cond (eqb p none) m (set m p v)

-- ---- finish

-- the file ends with the staged page
unfoldable pub grown : FileRecord → Writer → FileRecord
grown f x =
    record {
      dirty = true;
      last_page = x.page;
      header = staged_header x;
      first_seq = f.first_seq;
      last_seq = x.seq + x.length;
      flags = f.flags;
    }

-- the staged page is stored, the copied one held, and a transaction opened
unfoldable pub finished : World → Writer → Outcome Done
finished w x =
    record {
      answer = fine;
      stores = flush_stores x;
      map = marked w.map x.copied held;
      table = with_file w.table x.file (grown (file_at w.table x.file) x);
      state = with_writer (opened w.state) no_writer;
    }

-- with no page staged it opens none and changes no file
abbrev pub shut : World → Outcome Done
shut w = record { answer = fine; stores = []; map = w.map; table = w.table; state = with_writer w.state no_writer }

unfoldable pub finish : World → Outcome Done
finish w =
    checked w false 0 (refuse w)
    (cond w.state.writer.active
    (cond (is_staged w.state.writer) (finished w w.state.writer) (shut w))
    (refuse w NoSearch))

-- ---- discard

-- the last n pages from a page back: those that the writer stored; or a bad step
pub data Back : Type 0 where
  lost : Back
  pages : List ℕ → Back

abbrev pub beside : ℕ → Back → Back
beside p lost = lost
beside p (pages l) = pages (p ∷ l)

-- a chain that ends before all of them is bad, too
abbrev pub back_by : Stepped → (PagePointer → Back) → Back
back_by stays rest = lost
back_by breaks rest = lost
back_by (reaches q) rest = rest q

unfoldable pub back_from : ℕ → (ℕ → Read) → ℕ → PagePointer → Back
back_from count read zero p = pages []
back_from count read (suc zero) p = pages (p.page_id ∷ [])
back_from count read (suc (suc n)) p = beside p.page_id (back_by (step (back_rule count 0) read p) (λ q. back_from count read (suc n) q))

abbrev pub freed : List ℕ → List ℕ → List ℕ
freed m [] = m
freed m (p ∷ l) = freed (set m p free) l

-- exactly the pages this writer allocated are free at once; the cursor stays
abbrev pub discarded_by : World → Writer → Back → Outcome Done
discarded_by w x lost = refuse w Damaged
discarded_by w x (pages l) =
    record { answer = fine; stores = []; map = marked (freed w.map l) x.page free; table = w.table; state = with_writer w.state no_writer }

unfoldable pub discard : World → Outcome Done
discard w =
    checked w false 0 (refuse w)
    (cond w.state.writer.active
    (discarded_by w w.state.writer (back_from w.state.page_count (read_at w.image) w.state.writer.stored (previous_of w.state.writer)))
    (refuse w NoSearch))
