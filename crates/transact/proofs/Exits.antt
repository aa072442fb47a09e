-- One law for each exit of a call's definition. Assumes nothing.
use Rattle.std.specs.Prelude.{Some, None, Err}
use mathlib.Core.Path.{◌≡◌, refl, sym, ◌∙◌, ap}
use mathlib.Core.Bool.{Bool, true, false, cond, ◌&&◌}
use mathlib.Core.List.{List, []}
use Prim.Native.Nat.{ℕ}
use native.Mathlib.Omega.{arith}
use borrow.Author.Tests.{eq-eqb, ne_eqb}
use lib.ListN.{length}
use Rattle.seq.specs.Ids.{none}
use Rattle.page.specs.Store.{Store, ran}
use Rattle.map.specs.Map.{alloc_of, released}
use Rattle.metalog.specs.Log.{log_end, rest_erased, fits}
use Rattle.metalog.specs.Batch.{batch_stores}
use Rattle.chain.specs.Files.{last_of}
use Rattle.chain.specs.Steps.{read_at, Sought, damaged, at, walk}
use Rattle.chain.specs.Seek.{found_by}
use Rattle.state.specs.declared.types.FileRecord.{FileRecord}
use Rattle.state.specs.declared.types.Table.{Table}
use Rattle.state.specs.declared.types.State.{State}
use Rattle.state.specs.declared.types.Refusal.{Refusal}
use Rattle.state.specs.declared.types.Refusal.TheVariants.{Damaged, NoRoom, SeqEnd}
use Rattle.state.specs.Values.{file_at, in_shape, closed}
use Rattle.state.specs.Refusals.{Done, fine}
use Rattle.state.specs.Checks.{checks}
use Rattle.state.specs.World.{World, Outcome, ended, after_call, refuse, after, yields, promised}
use Rattle.state.proofs.Numbers.{promise_same}
use Rattle.transact.specs.Truncate.{new_first, cut, unreached, held_all, changed_file, truncated_by, truncate_in, truncate}
use Rattle.transact.specs.Commit.{dirty_files, committed, moved_to, moved, appended_at, commit_batch, commit}
use Rattle.transact.specs.Walks.{follows}

-- ---- checks 1 to 4

abbrev pub Checked : World → ℕ → Done → Type 0
Checked w i d = checks (length w.image) (length w.map) w.state w.state.writer.active i ≡ d

-- ---- truncate

module _ (w : World) (i bytes : ℕ) where
  abbrev file : FileRecord
  file = file_at w.table i

  abbrev ends : Sought
  ends = (walk w.state.page_count (read_at w.image) file.first_seq (last_of file)).ends

  abbrev by_tests : Bool → Sought → Outcome Done
  by_tests s e = cond s (truncated_by w i file (new_first file bytes) e) (refuse w Damaged)

  truncate_file : Checked w i fine → (bytes ≡ 0 → ⊥) → (file.last_page ≡ none → ⊥)
      → truncate w i bytes ≡ by_tests (in_shape w.state.page_count file) ends
  unfolding truncate truncate_in
  truncate_file e h k = rw (e, ne_eqb bytes 0 h, ne_eqb file.last_page none k)

  pub truncate_damaged : Checked w i fine → (bytes ≡ 0 → ⊥) → (file.last_page ≡ none → ⊥) → follows w.image w.state.page_count file ≡ false
      → truncate w i bytes ≡ refuse w Damaged
  unfolding follows
  truncate_damaged e h k f = truncate_file e h k ∙ by (in_shape w.state.page_count file) ends f
    where
      by : (s : Bool) (x : Sought) → (s && (found_by (last_of file) (length (walk w.state.page_count (read_at w.image) file.first_seq (last_of file)).path) x).ok) ≡ false
          → by_tests s x ≡ refuse w Damaged
      by false x f = refl
      by true damaged f = refl
      by true (at q) f = let z : ◌≡◌ {A = ℕ} 0 1 = cc in absurd (omega arith)

  pub truncate_held : Checked w i fine → (bytes ≡ 0 → ⊥) → (file.last_page ≡ none → ⊥) → follows w.image w.state.page_count file ≡ true
      → truncate w i bytes
      ≡ changed_file w i (held_all w.map (unreached w.image w.state.page_count file (new_first file bytes))) (cut file (new_first file bytes))
  unfolding follows
  truncate_held e h k f = truncate_file e h k ∙ by (in_shape w.state.page_count file) ends f
    where
      by : (s : Bool) (x : Sought) → (s && (found_by (last_of file) (length (walk w.state.page_count (read_at w.image) file.first_seq (last_of file)).path) x).ok) ≡ true
          → by_tests s x
          ≡ changed_file w i (held_all w.map (unreached w.image w.state.page_count file (new_first file bytes))) (cut file (new_first file bytes))
      by false x f = let z : ◌≡◌ {A = ℕ} 0 1 = cc in absurd (omega arith)
      by true damaged f = let z : ◌≡◌ {A = ℕ} 0 1 = cc in absurd (omega arith)
      by true (at q) f = refl

-- ---- commit

abbrev pub batch_of : World → Outcome Done
batch_of w = appended_at w (dirty_files w.table) (log_end w.image w.state.meta_page)

module _ (w : World) where
  pub commit_refused : (why : Refusal) → Checked w 0 (Err why) → commit w ≡ refuse w why
  unfolding commit
  commit_refused why e = rw e

  pub commit_none : Checked w 0 fine → length (dirty_files w.table) ≡ 0 → commit w ≡ committed w []
  unfolding commit commit_batch
  commit_none e h = rw (e, eq-eqb (length (dirty_files w.table)) 0 h)

  pub commit_some : Checked w 0 fine → (length (dirty_files w.table) ≡ 0 → ⊥) → commit w ≡ batch_of w
  unfolding commit commit_batch
  commit_some e h = rw (e, ne_eqb (length (dirty_files w.table)) 0 h)

  pub batch_damaged : log_end w.image w.state.meta_page ≡ None → batch_of w ≡ refuse w Damaged
  batch_damaged e = ap (appended_at w (dirty_files w.table)) e

  abbrev tested : ℕ → Bool
  tested e = fits e (length (dirty_files w.table)) && rest_erased w.image w.state.meta_page e

  pub batch_fits : (e : ℕ) → log_end w.image w.state.meta_page ≡ Some e → tested e ≡ true
      → batch_of w ≡ committed w (batch_stores w.state.meta_page e (dirty_files w.table))
  batch_fits e h t = ap (appended_at w (dirty_files w.table)) h ∙ rw t

  pub batch_moved : (e : ℕ) → log_end w.image w.state.meta_page ≡ Some e → tested e ≡ false → batch_of w ≡ moved w
  batch_moved e h t = ap (appended_at w (dirty_files w.table)) h ∙ rw t

  pub moved_end : w.state.meta_seq ≡ 4294967295 → moved w ≡ refuse w SeqEnd
  unfolding moved
  moved_end h = rw (eq-eqb w.state.meta_seq 4294967295 h)

  pub moved_full : (w.state.meta_seq ≡ 4294967295 → ⊥) → alloc_of w.map w.state.page_count w.state.cursor ≡ None → moved w ≡ refuse w NoRoom
  unfolding moved
  moved_full h e = rw (ne_eqb w.state.meta_seq 4294967295 h, e)

  pub moved_page : (p : ℕ) → (w.state.meta_seq ≡ 4294967295 → ⊥) → alloc_of w.map w.state.page_count w.state.cursor ≡ Some p
      → moved w ≡ moved_to w (Some p)
  unfolding moved
  moved_page p h e = rw (ne_eqb w.state.meta_seq 4294967295 h, e)

  -- what is there after a commit that did not move
  pub committed_is : (call : World → Outcome Done) (l : List Store) (img m : List ℕ) (s : State) → call w ≡ committed w l
      → img ≡ ran w.image l → m ≡ released w.map → s ≡ closed w.state → after fine img m w.table s ≡ after_call call w
  committed_is call l img m s e a b c = rw (a, b, c) (sym (ap (ended w) e))

-- ---- flags

-- a promise of a change of flags that is kept in numbers is kept
pub flags_same : (call : World → Outcome Done) (w : World) (a : Done) (i m : List ℕ) (t : Table) (s : State)
    → yields a i m t s ≡ promised call w → after a i m t s ≡ after_call call w
flags_same = promise_same
