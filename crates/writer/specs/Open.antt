-- Opening a writer, by document 01, "Files and transactions", paragraphs "Writer" and "NoRoom"; DECISIONS 16.
-- Assumes nothing: these are definitions.
use Rattle.state.specs.Refusals.{Done, fine}
use Rattle.std.specs.Prelude.{ℕ, true, cond, List, [], eqb, ltb, set, replicate, Option, Some, None}
use Rattle.seq.specs.Ids.{none}
use Rattle.seq.specs.Seq.{limit}
use Rattle.runs.specs.Runs.{part, placed}
use Rattle.page.specs.declared.DataHeader.{DataHeader}
use Rattle.page.specs.Page.{page_of, no_header}
use Rattle.map.specs.Map.{alloc_of, used, beyond}
use Rattle.chain.specs.declared.PagePointer.{PagePointer}
use Rattle.chain.specs.Files.{last_of}
use Rattle.chain.specs.Steps.{read_at, back_rule, Stepped, stays, reaches, breaks, step}
use Rattle.state.specs.declared.types.FileRecord.{FileRecord}
use Rattle.state.specs.declared.types.Writer.{Writer}
use Rattle.state.specs.declared.types.Refusal.TheVariants.{Damaged, NoRoom, SeqEnd}
use Rattle.state.specs.Values.{file_at, is_empty, in_shape, with_cursor, with_writer}
use Rattle.state.specs.World.{World, Outcome, refuse, checked}
use Rattle.writer.specs.Staging.{too_few}

-- nothing staged: the file's last page, which is full or none, is the page before
unfoldable pub ready_writer : ℕ → FileRecord → Writer
ready_writer i f =
    record {
      active = true;
      file = i;
      seq = f.last_seq;
      page = none;
      previous = f.last_page;
      previous_header = f.header;
      copied = none;
      boundary = 0;
      ended = true;
      stored = 0;
      length = 0;
      staged = replicate 224 0;
    }

-- the boundary of a copied page is kept as it stood
abbrev pub open_boundary : DataHeader → ℕ
open_boundary h = h.record_boundary

-- the page before, as a step back found it
abbrev pub no_page : PagePointer
no_page = record { page_id = none; header = no_header }

-- the last page copied to page p, behind page q
unfoldable pub copy_writer : List ℕ → ℕ → FileRecord → PagePointer → ℕ → Writer
copy_writer img i f q p =
    record {
      active = true;
      file = i;
      seq = f.header.seq;
      page = p;
      previous = q.page_id;
      previous_header = q.header;
      copied = f.last_page;
      boundary = open_boundary f.header;
      ended = true;
      stored = 0;
      length = f.header.length;
      staged = placed (replicate 224 0) 0 (part (page_of img f.last_page) 32 f.header.length);
    }

abbrev pub readied : World → ℕ → FileRecord → Outcome Done
readied w i f = record { answer = fine; stores = []; map = w.map; table = w.table; state = with_writer w.state (ready_writer i f) }

-- the copy's page is allocated at once; nothing is stored yet
abbrev pub copied_to : World → ℕ → FileRecord → PagePointer → Option ℕ → Outcome Done
copied_to w i f q None = refuse w NoRoom
copied_to w i f q (Some p) =
    record {
      answer = fine;
      stores = [];
      map = set w.map p used;
      table = w.table;
      state = with_writer (with_cursor w.state (beyond w.state.page_count p)) (copy_writer w.image i f q p);
    }

-- its previous page is mount's next step from the old one
abbrev pub copied : World → ℕ → FileRecord → Stepped → Outcome Done
copied w i f breaks = refuse w Damaged
copied w i f stays = copied_to w i f no_page (alloc_of w.map w.state.page_count w.state.cursor)
copied w i f (reaches q) = copied_to w i f q (alloc_of w.map w.state.page_count w.state.cursor)

abbrev pub step_from : World → FileRecord → Stepped
step_from w f =
    step (back_rule w.state.page_count f.first_seq) (read_at w.image) (last_of f)

-- a last page of 224 bytes is kept, a shorter one is copied
unfoldable pub open_last : World → ℕ → FileRecord → Outcome Done
open_last w i f =
    cond (eqb f.header.length 224)
    (cond (in_shape w.state.page_count f) (readied w i f) (refuse w Damaged))
    (cond (too_few w.map w.state.page_count 1) (refuse w NoRoom)
    (cond (in_shape w.state.page_count f) (copied w i f (step_from w f)) (refuse w Damaged)))

unfoldable pub open_in : World → ℕ → FileRecord → Outcome Done
open_in w i f =
    cond (ltb limit f.last_seq) (refuse w SeqEnd)
    (cond (is_empty f) (readied w i f) (open_last w i f))

unfoldable pub open_writer : World → ℕ → Outcome Done
open_writer w i = checked w w.state.writer.active i (refuse w) (open_in w i (file_at w.table i))
