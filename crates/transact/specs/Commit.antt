-- Commit, by document 01, "Files and transactions"; DECISIONS 8, 13 and 14. Assumes nothing: these are definitions.
use Rattle.state.specs.Refusals.{Done, fine}
use Rattle.std.specs.Prelude.{ℕ, ◌+◌, cond, not, ◌&&◌, List, [], map, eqb, length, set, Option, Some, None}
use Rattle.page.specs.Store.{Store}
use Rattle.metalog.specs.declared.Entry.{Entry}
use Rattle.metalog.specs.declared.Files.{Files}
use Rattle.metalog.specs.Log.{log_end, rest_erased, fits}
use Rattle.metalog.specs.Batch.{chosen, batch_stores, new_meta_stores}
use Rattle.map.specs.Map.{alloc_of, released, used, free, beyond}
use Rattle.state.specs.declared.types.FileRecord.{FileRecord}
use Rattle.state.specs.declared.types.Table.{Table}
use Rattle.state.specs.declared.types.Refusal.TheVariants.{Damaged, NoRoom, SeqEnd}
use Rattle.state.specs.Values.{is_empty, closed, with_meta, with_cursor}
use Rattle.state.specs.World.{World, Outcome, refuse, checked}

-- ---- which files

-- what entries are made of
abbrev pub files_of : Table → Files
files_of t =
    record {
      last = map (λ (f : FileRecord). f.last_page) t.files;
      first = map (λ (f : FileRecord). f.first_seq) t.files;
      flags = map (λ (f : FileRecord). f.flags) t.files;
    }

-- the dirty files, in id order, and all that are not empty
abbrev pub dirty_files : Table → List Entry
dirty_files t = chosen (files_of t) (map (λ (f : FileRecord). f.dirty) t.files)

abbrev pub live_files : Table → List Entry
live_files t = chosen (files_of t) (map (λ (f : FileRecord). not (is_empty f)) t.files)

-- ---- what a commit leaves: held pages are free, the transaction ends; dirty marks stay

abbrev pub committed : World → List Store → Outcome Done
committed w l = record { answer = fine; stores = l; map = released w.map; table = w.table; state = closed w.state }

-- a new metadata page with seq one higher takes all non-empty files, and the old one is then free
abbrev pub moved_to : World → Option ℕ → Outcome Done
moved_to w None = refuse w NoRoom
moved_to w (Some p) =
    record {
      answer = fine;
      stores = new_meta_stores p (record { page_count = w.state.page_count; seq = w.state.meta_seq + 1 }) (live_files w.table);
      map = set (released (set w.map p used)) w.state.meta_page free;
      table = w.table;
      state = closed (with_cursor (with_meta w.state p (w.state.meta_seq + 1)) (beyond w.state.page_count p));
    }

-- SeqEnd and NoRoom apply only here
unfoldable pub moved : World → Outcome Done
moved w =
    cond (eqb w.state.meta_seq 4294967295) (refuse w SeqEnd)
    (moved_to w (alloc_of w.map w.state.page_count w.state.cursor))

-- ---- the call

-- a batch is appended where it fits and the rest of the page is all 0xFF
abbrev pub appended_at : World → List Entry → Option ℕ → Outcome Done
appended_at w b None = refuse w Damaged
appended_at w b (Some e) =
    cond (fits e (length b) && rest_erased w.image w.state.meta_page e)
    (committed w (batch_stores w.state.meta_page e b))
    (moved w)

-- none dirty, nothing stored, and the log is not looked at
unfoldable pub commit_batch : World → List Entry → Outcome Done
commit_batch w b =
    cond (eqb (length b) 0) (committed w []) (appended_at w b (log_end w.image w.state.meta_page))

unfoldable pub commit : World → Outcome Done
commit w = checked w w.state.writer.active 0 (refuse w) (commit_batch w (dirty_files w.table))
