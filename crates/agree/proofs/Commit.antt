-- Commit keeps the invariant, and what it commits is the table on the pages as they stand. Assumes nothing.
use Rattle.std.specs.Prelude.{Option, Some, None, Err}
use Rattle.state.specs.Refusals.{Done, fine}
use Rattle.agree.proofs.Seen.{sees_on}
use Rattle.agree.proofs.Keeps.{known}
use Rattle.seq.specs.Ids as ids
use mathlib.Core.Bool.{and-eq-true_iff}
use Rattle.state.specs.World.{World, Outcome, ended, refuse}
use Rattle.map.specs.Map.{alloc_of, released, used}
use Rattle.map.proofs.Laws.{beyond_inside}
use Rattle.page.specs.Store as stores
use Rattle.metalog.specs.Log.{adds, fresh, log_end, rest_erased, fits}
use Rattle.metalog.specs.Batch.{batch_stores, new_meta_stores, marked, Fit}
use Rattle.metalog.proofs.Table.{Typed, chosen_fit, chosen_sounds, adds_good, append_replay, new_replay, end_reads, replay_typed}
use Rattle.metalog.proofs.Pages.{batch_on, batch_meta, batch_bytes, new_on, new_bytes, new_meta}
use Rattle.metalog.proofs.Runs.{length_chosen, chosen_few}
use Rattle.transact.specs.Commit.{files_of, dirty_files, live_files, appended_at, moved, commit_batch, commit}
use Rattle.transact.specs.Commit as calls
use Rattle.state.specs.declared.types.Refusal.TheVariants.{SeqEnd, NoRoom, Damaged}
use Prim.Native.Nat.{ℕ, ◌+◌, ◌/◌, ◌≤◌, ◌<◌}
use mathlib.Core.Path.{◌≡◌, refl, sym, ap, ap₂, subst, ◌∙◌}
use mathlib.Core.Bool.{Bool, true, false, ◌&&◌, not}
use mathlib.Core.List.{List, [], map}
use native.Mathlib.Omega.{arith}
use native.Mathlib.Decide.{ℕ_discrete}
use lib.ListN.{length, get_or, set}
use lib.Dec.{eqb}
use borrow.Author.Tests.{eqb-true, eqb-false}
use Rattle.page.specs.declared.MetaHeader.{MetaHeader}
use Rattle.metalog.specs.declared.Files.{Files}
use Rattle.metalog.specs.Log.{Replay}
use Rattle.state.specs.declared.types.FileRecord.{FileRecord}
use Rattle.state.specs.declared.types.State.{State}
use Rattle.state.specs.declared.types.Refusal.{Refusal}
use Rattle.agree.specs.Good.{RecordOk, Good}
use Rattle.agree.specs.Rules.{ChainOf}
use Rattle.agree.specs.View.{view, Mapped, as_file, rec_at, now_of}
use Rattle.agree.proofs.Batches.{Eight, chosen_off, chosen_in, none_marked, table_val, dirty_mark, live_mark, EntryOk, table_typed, table_sound, none_eight, none_val}
use Rattle.agree.proofs.Keeps.{Keeps, cond_by, checked_by, shut_now}
use Rattle.agree.proofs.Maps.{alloc_free, mapped_give, mapped_release, mapped_to}
use Rattle.agree.proofs.Pages.{clash, meta_view, Reads, view_meta, stores_change}
use Rattle.agree.proofs.Records.{file_gone, file_by, file_ranges, now_is, inv_is}
use Rattle.agree.proofs.Ruling.{chain_frame}
use Rattle.agree.proofs.Staged.{last_own}
use Rattle.owners.specs.Moves.{Change, give, release, release_all, moved_to, new_base}
use Rattle.owners.specs.State.{val_in, val_of, Base, Now}
use Rattle.owners.specs.Store.{met, pick, Owner, free, meta, file}
use Rattle.owners.proofs.Commit.{commit_none, commit_append, commit_move, inv_settled}
use Rattle.page.specs.Page.{page_of, header_of, Fits}
use Rattle.page.specs.Store.{ran}
use Rattle.page.proofs.Headers.{meta_fits}
use Rattle.page.proofs.Laws.{Every, ran_length, On, others, bytes_page, bytes_ran}
use Rattle.metalog.specs.Log.{replay_of}
use Rattle.state.specs.Values.{is_empty, closed, with_cursor, with_meta}

-- what a commit leaves: known, and, where it succeeds, the files' pages are those of before
pub record Commits (D : Type 0) (N : ℕ) (w : World) (o : Outcome Done) : Type 0 where
  pub known : Keeps D N w o
  pub same : o.answer ≡ fine → known.base.cont ≡ view w.image
  pub table : o.table ≡ w.table
  pub count : o.state.page_count ≡ w.state.page_count
  pub closes : o.answer ≡ fine → o.state.transaction ≡ false
  pub idle : o.answer ≡ fine → o.state.writer.active ≡ false
  pub stays : (why : Refusal) → o.answer ≡ Err why → (ended w o).world ≡ w

closed_writer : (s : State) → (closed s).writer ≡ s.writer
unfolding closed
closed_writer s = refl

module _ {D : Type 0} {N : ℕ} {w : World} {b : Base} {own : ℕ → Owner} (g : Good D N w b own) where
  refused : (why : Refusal) → Commits D N w (refuse w why)
  refused why = record { known = known g; same = λ e. clash cc; table = refl; count = refl; closes = λ e. clash cc; idle = λ e. clash cc; stays = λ why e. refl }

  abbrev c : Now
  c = now_of w.table w.state own

  entry_ok : (i : ℕ) → EntryOk b.pc (rec_at w.table i)
  entry_ok i =
      let r = rec_at w.table i in
      let k = g.sees.recs i in
      let m = g.inv.mounted.pc_in in
      file_by r
      (λ z e. record { empty = λ y. (k.empty z).first; below = λ n. absurd (n z); last = omega arith; first = omega (arith, (k.empty z).first); flags = k.byte })
      (λ z e. let u = file_ranges r e (g.inv.files i).ok in
      record { empty = λ y. absurd (z y); below = λ n. u.inside; last = omega (arith, u.inside, g.sees.small); first = omega (arith, u.some, u.limit); flags = k.byte })

  typed : Typed (files_of w.table)
  typed = table_typed b.pc w.table g.sees.eight entry_ok

  pages_are : length w.image / 256 ≡ N
  pages_are = omega (arith, g.sees.size)

  meta_in : b.mp < length w.image / 256
  meta_in = omega (arith, pages_are, g.inv.mounted.mp_in, g.inv.mounted.pc_in)

  page : Reads w.image b.mp b.mseq b.pc g.inv.mounted.log
  page = view_meta w.image b.mp g.inv.mounted.page

  log_eight : Eight g.inv.mounted.log.files
  log_eight =
      let t = subst (λ (r : Replay). Typed r.files) page.replay (replay_typed b.pc w.image b.mp g.sees.bytes) in
      record { last = t.lasts; first = t.firsts; flags = t.marks }

  -- a page that is no file's is stored to: the records stand
  record_kept : (l : List stores.Store) (p : ℕ) → Every (On p) l → ((i : ℕ) → own p ≡ file i → ⊥) → (i : ℕ) → RecordOk (ran w.image l) (rec_at w.table i)
  record_kept l p a n i =
      let r = rec_at w.table i in
      let k = g.sees.recs i in
      record {
        empty = k.empty;
        stands = λ z. ap header_of (others w.image p l a r.last_page (λ e. n i (ap own (sym e) ∙ last_own r (g.inv.files i) z))) ∙ k.stands z;
        byte = k.byte;
      }

  -- and so do the files' chains
  chains_kept : D → (l : List stores.Store) (p : ℕ) → Every (On p) l → ((i : ℕ) → own p ≡ file i → ⊥) → (i : ℕ) → ChainOf (ran w.image l) b.pc (as_file (rec_at w.table i))
  chains_kept d l p a n i = chain_frame w.image (ran w.image l) (g.inv.files i) (λ y e. others w.image p l a y (λ z. n i (ap own (sym z) ∙ e))) ((g.rules d).now i)

  module _ (off : w.state.writer.active ≡ false) where
    -- nothing dirty
    none_keeps : length (dirty_files w.table) ≡ 0 → Commits D N w (calls.committed w [])
    unfolding closed marked
    none_keeps e =
        let s = g.sees in
        let m = map (λ (f : FileRecord). f.dirty) w.table.files in
        let z : (i : ℕ) → i < 8 → (rec_at w.table i).dirty ≡ false =
        λ i h. sym (dirty_mark w.table s.eight i h) ∙ none_marked m 0 8 (sym (length_chosen (files_of w.table) m) ∙ e) i (omega arith) (omega arith) in
        record {
          known =
              record {
                base = new_base (view w.image) b.mp b.mseq b c (release_all own);
                own = release_all own;
                good =
                    record {
                      sees =
                          sees_on s _ _ (refl, refl, refl) (refl, refl, refl, refl, refl, refl) s.bytes s.cursor s.search
                          (mapped_release s.owners) s.eight s.recs (λ e. clash cc);
                      inv = inv_is (now_is (λ i. refl) (λ x. refl) (λ i. refl) refl (sym (shut_now g off))) (inv_settled c.dirty (commit_none g.inv (shut_now g off) z));
                      rules = λ d. record { now = (g.rules d).now; base = (g.rules d).now; wr = λ e. clash cc };
                    };
              };
          same = λ e. refl;
          table = refl;
          count = refl;
          closes = λ e. refl;
          idle = λ e. off;
          stays = λ why e. clash cc;
        }

    -- the table after the log, file by file
    dirty_vals : (i : ℕ) → i < 8 → val_of (as_file (rec_at w.table i)) ≡ val_in (adds b.pc g.inv.mounted.log (dirty_files w.table)).files i
    dirty_vals i h = by (rec_at w.table i).dirty refl
      where
        t : Files
        t = files_of w.table

        mark : get_or (map (λ (f : FileRecord). f.dirty) w.table.files) i false ≡ (rec_at w.table i).dirty
        mark = dirty_mark w.table g.sees.eight i h

        by : (d : Bool) → (rec_at w.table i).dirty ≡ d → val_of (as_file (rec_at w.table i)) ≡ val_in (adds b.pc g.inv.mounted.log (dirty_files w.table)).files i
        by true e = sym (chosen_in b.pc (files_of w.table) (map (λ (f : FileRecord). f.dirty) w.table.files) g.inv.mounted.log i log_eight h (mark ∙ e) ∙ table_val w.table g.sees.eight i h)
        by false e =
            ap val_of (g.inv.undirty i e) ∙ g.inv.mounted.vals i h
            ∙ sym (chosen_off b.pc (files_of w.table) (map (λ (f : FileRecord). f.dirty) w.table.files) g.inv.mounted.log i (mark ∙ e))

    -- a batch appended
    append_keeps : (e : ℕ) → log_end w.image w.state.meta_page ≡ Some e → fits e (length (dirty_files w.table)) ≡ true → rest_erased w.image w.state.meta_page e ≡ true
        → Commits D N w (calls.committed w (batch_stores w.state.meta_page e (dirty_files w.table)))
    unfolding closed
    append_keeps e h f r =
        let s = g.sees in
        record {
          known =
              record {
                base = new_base (view w.image) b.mp b.mseq b c (release_all own);
                own = release_all own;
                good =
                    record {
                      sees =
                          sees_on s _ _ (refl, refl, refl) (ran_length w.image l, refl, refl, refl, refl, refl)
                          (bytes_ran w.image l (batch_bytes w.state.meta_page e (dirty_files w.table) fit) s.bytes) s.cursor
                          s.search (mapped_release s.owners) s.eight
                          (record_kept l w.state.meta_page (batch_on w.state.meta_page e (dirty_files w.table)) (λ i o. let u : meta ≡ file i = sym (ap own s.mp ∙ g.inv.owners.meta_at) ∙ o in clash cc))
                          (λ e. clash cc);
                      inv =
                          inv_is (now_is (λ i. refl) (λ x. refl) (λ i. refl) refl (sym (shut_now g off)))
                          (inv_settled c.dirty (commit_append g.inv (shut_now g off) (adds b.pc g.inv.mounted.log (dirty_files w.table)) change ok dirty_vals));
                      rules = λ d.
                          let k = chains_kept d l w.state.meta_page (batch_on w.state.meta_page e (dirty_files w.table)) (λ i o. let u : meta ≡ file i = sym (ap own s.mp ∙ g.inv.owners.meta_at) ∙ o in clash cc) in
                          record { now = k; base = k; wr = λ e. clash cc };
                    };
              };
          same = λ e. refl;
          table = refl;
          count = refl;
          closes = λ e. refl;
          idle = λ e. off;
          stays = λ why e. clash cc;
        }
      where
        marks : List Bool
        marks = map (λ (f : FileRecord). f.dirty) w.table.files

        l : List stores.Store
        l = batch_stores w.state.meta_page e (dirty_files w.table)

        fit : Fit (dirty_files w.table)
        fit = chosen_fit (files_of w.table) (map (λ (f : FileRecord). f.dirty) w.table.files) typed

        ok : (adds b.pc g.inv.mounted.log (dirty_files w.table)).ok ≡ true
        ok =
            adds_good b.pc g.inv.mounted.log (dirty_files w.table)
            (chosen_sounds b.pc (files_of w.table) (map (λ (f : FileRecord). f.dirty) w.table.files) (λ i h m. table_sound b.pc w.table g.sees.eight entry_ok i h))
            ∙ g.inv.mounted.log_ok

        change : Change (view w.image) (view (ran w.image (batch_stores w.state.meta_page e (dirty_files w.table)))) b.mp (met b.mseq b.pc (adds b.pc g.inv.mounted.log (dirty_files w.table)))
        change =
            subst (λ (p : ℕ). Change (view w.image) (view (ran w.image (batch_stores p e (dirty_files w.table)))) b.mp (met b.mseq b.pc (adds b.pc g.inv.mounted.log (dirty_files w.table)))) (sym g.sees.mp)
            (appended (subst (λ (p : ℕ). log_end w.image p ≡ Some e) g.sees.mp h) (subst (λ (p : ℕ). rest_erased w.image p e ≡ true) g.sees.mp r))
          where
            appended : log_end w.image b.mp ≡ Some e → rest_erased w.image b.mp e ≡ true
                → Change (view w.image) (view (ran w.image (batch_stores b.mp e (dirty_files w.table)))) b.mp (met b.mseq b.pc (adds b.pc g.inv.mounted.log (dirty_files w.table)))
            appended h r =
                let img' = ran w.image (batch_stores b.mp e (dirty_files w.table)) in
                let z = end_reads w.image b.mp e h in
                let a = append_replay b.pc w.image b.mp meta_in z.list e z.is r (dirty_files w.table) f (chosen_few (files_of w.table) (map (λ (f : FileRecord). f.dirty) w.table.files)) fit in
                stores_change w.image b.mp (batch_stores b.mp e (dirty_files w.table)) _ (batch_on b.mp e (dirty_files w.table))
                (meta_view img' b.mp page.header (batch_meta b.mp e (dirty_files w.table) w.image ∙ page.is)
                ∙ ap (λ (k : ℕ). met k page.header.page_count (replay_of page.header.page_count img' b.mp)) page.seq
                ∙ ap (λ (k : ℕ). met b.mseq k (replay_of k img' b.mp)) page.count
                ∙ ap (met b.mseq b.pc) (a ∙ ap (λ (y : Replay). adds b.pc y (dirty_files w.table)) page.replay))

    -- ---- a new metadata page

    -- the table as the new page has it, file by file
    live_vals : (i : ℕ) → i < 8 → val_of (as_file (rec_at w.table i)) ≡ val_in (adds b.pc (fresh true) (live_files w.table)).files i
    live_vals i h = by (is_empty (rec_at w.table i)) refl
      where
        mark : get_or (map (λ (f : FileRecord). not (is_empty f)) w.table.files) i false ≡ not (is_empty (rec_at w.table i))
        mark = live_mark w.table g.sees.eight i h

        by : (d : Bool) → is_empty (rec_at w.table i) ≡ d → val_of (as_file (rec_at w.table i)) ≡ val_in (adds b.pc (fresh true) (live_files w.table)).files i
        by false e = sym (chosen_in b.pc (files_of w.table) (map (λ (f : FileRecord). not (is_empty f)) w.table.files) (fresh true) i none_eight h (mark ∙ ap not e) ∙ table_val w.table g.sees.eight i h)
        by true e =
            ap val_of (file_gone (rec_at w.table i) (eqb-true (rec_at w.table i).last_page ids.none e))
            ∙ sym (chosen_off b.pc (files_of w.table) (map (λ (f : FileRecord). not (is_empty f)) w.table.files) (fresh true) i (mark ∙ ap not e) ∙ none_val i h)

    -- the map of the move
    moved_map : (p : ℕ) → own p ≡ free → p < N → Mapped (set (released (set w.map p used)) w.state.meta_page 0) N (moved_to p b.mp own)
    moved_map p f h =
        subst (λ (k : ℕ). Mapped (set (released (set w.map p used)) k 0) N (moved_to p b.mp own)) (sym g.sees.mp)
        (mapped_to turned (mapped_give (mapped_release (mapped_give g.sees.owners p 1 meta h refl)) b.mp 0 free (omega (arith, g.inv.mounted.mp_in, g.inv.mounted.pc_in)) refl))
      where
        apart : ¬ (p ≡ b.mp)
        apart z = let u : free ≡ meta = sym f ∙ ap own z ∙ g.inv.owners.meta_at in clash cc

        turned : (x : ℕ) → moved_to p b.mp own x ≡ give (release_all (give own p meta)) b.mp free x
        turned x = go (ℕ_discrete x p) (ℕ_discrete x b.mp)
          where
            go : (d : Dec (x ≡ p)) (d' : Dec (x ≡ b.mp)) → pick d meta (pick d' free (release (own x))) ≡ pick d' free (release (pick d meta (own x)))
            go (yes z) (yes y) = absurd (apart (sym z ∙ y))
            go (yes z) (no y) = refl
            go (no z) (yes y) = refl
            go (no z) (no y) = refl

    abbrev header : MetaHeader
    header = record { page_count = w.state.page_count; seq = w.state.meta_seq + 1 }

    move_keeps : (p : ℕ) → alloc_of w.map w.state.page_count w.state.cursor ≡ Some p → ¬ (w.state.meta_seq ≡ 4294967295) → Commits D N w (calls.moved_to w (Some p))
    unfolding closed with_cursor with_meta
    move_keeps p z top =
        let s = g.sees in
        record {
          known =
              record {
                base = new_base (view w.image) p (b.mseq + 1) b c (moved_to p b.mp own);
                own = moved_to p b.mp own;
                good =
                    record {
                      sees =
                          record {
                            size = ran_length w.image l ∙ s.size;
                            big = s.big;
                            small = s.small;
                            bytes = bytes_ran w.image l (new_bytes w.image p header (live_files w.table) fit) s.bytes;
                            mp = refl;
                            mseq = ap (λ (k : ℕ). k + 1) s.mseq;
                            pc = s.pc;
                            cursor = omega (arith, beyond_inside w.state.page_count p (omega (arith, found.1)), s.pc);
                            flag = s.flag;
                            pages = s.pages;
                            search = s.search;
                            owners = moved_map p found.0 found.2;
                            eight = s.eight;
                            recs = record_kept l p (new_on w.image p header (live_files w.table)) (λ i o. let u : free ≡ file i = sym found.0 ∙ o in clash cc);
                            wr = λ e. clash cc;
                          };
                      inv =
                          inv_is (now_is (λ i. refl) (λ x. refl) (λ i. refl) refl (sym (shut_now g off)))
                          (inv_settled c.dirty (commit_move g.inv (shut_now g off) p found.0 (adds b.pc (fresh true) (live_files w.table)) change ok live_vals));
                      rules = λ d.
                          let k = chains_kept d l p (new_on w.image p header (live_files w.table)) (λ i o. let u : free ≡ file i = sym found.0 ∙ o in clash cc) in
                          record { now = k; base = k; wr = λ e. clash cc };
                    };
              };
          same = λ e. refl;
          table = refl;
          count = refl;
          closes = λ e. refl;
          idle = λ e. off;
          stays = λ why e. clash cc;
        }
      where
        found : (own p ≡ free) × (p < w.state.page_count) × (p < N)
        found = alloc_free g.sees.owners w.state.page_count w.state.cursor p (omega (arith, g.sees.cursor, g.sees.pc)) z

        l : List stores.Store
        l = new_meta_stores p header (live_files w.table)

        fit : Fit (live_files w.table)
        fit = chosen_fit (files_of w.table) (map (λ (f : FileRecord). not (is_empty f)) w.table.files) typed

        few : length (live_files w.table) ≤ 8
        few = chosen_few (files_of w.table) (map (λ (f : FileRecord). not (is_empty f)) w.table.files)

        ok : (adds b.pc (fresh true) (live_files w.table)).ok ≡ true
        ok =
            adds_good b.pc (fresh true) (live_files w.table)
            (chosen_sounds b.pc (files_of w.table) (map (λ (f : FileRecord). not (is_empty f)) w.table.files) (λ i h m. table_sound b.pc w.table g.sees.eight entry_ok i h))

        p_in : p < length w.image / 256
        p_in = omega (arith, pages_are, found.2)

        fits_new : Fits (record { page_count = w.state.page_count; seq = w.state.meta_seq + 1 })
        fits_new =
            let m = meta_fits (page_of w.image b.mp) (bytes_page w.image b.mp g.sees.bytes) page.header page.is in
            record {
              count = omega (arith, g.sees.pc, g.inv.mounted.pc_in, g.sees.small);
              seq = omega (arith, m.seq, page.seq, g.sees.mseq);
            }

        change : Change (view w.image) (view (ran w.image (new_meta_stores p header (live_files w.table)))) p (met (b.mseq + 1) b.pc (adds b.pc (fresh true) (live_files w.table)))
        change =
            let img' = ran w.image (new_meta_stores p header (live_files w.table)) in
            stores_change w.image p (new_meta_stores p header (live_files w.table)) _ (new_on w.image p header (live_files w.table))
            (meta_view img' p header (new_meta w.image p header (live_files w.table) p_in few fits_new)
            ∙ ap (met (w.state.meta_seq + 1) w.state.page_count) (new_replay w.state.page_count w.image p header (live_files w.table) p_in few fit)
            ∙ ap₂ (λ (q k : ℕ). met (q + 1) k (adds k (fresh true) (live_files w.table))) g.sees.mseq g.sees.pc)

    moved_keeps : Commits D N w (moved w)
    unfolding moved
    moved_keeps =
        cond_by (Commits D N w) (eqb w.state.meta_seq 4294967295) _ _ (λ e. refused SeqEnd)
        (λ e. by (alloc_of w.map w.state.page_count w.state.cursor) refl (eqb-false w.state.meta_seq 4294967295 e))
      where
        by : (a : Option ℕ) → alloc_of w.map w.state.page_count w.state.cursor ≡ a → ¬ (w.state.meta_seq ≡ 4294967295) → Commits D N w (calls.moved_to w a)
        by None z top = refused NoRoom
        by (Some p) z top = move_keeps p z top

    batch_keeps : Commits D N w (commit_batch w (dirty_files w.table))
    unfolding commit_batch
    batch_keeps =
        cond_by (Commits D N w) (eqb (length (dirty_files w.table)) 0) _ _ (λ e. none_keeps (eqb-true (length (dirty_files w.table)) 0 e))
        (λ e. by (log_end w.image w.state.meta_page) refl)
      where
        by : (x : Option ℕ) → log_end w.image w.state.meta_page ≡ x → Commits D N w (appended_at w (dirty_files w.table) x)
        by None h = refused Damaged
        by (Some e) h =
            cond_by (Commits D N w) (fits e (length (dirty_files w.table)) && rest_erased w.image w.state.meta_page e) _ _
            (λ t. let u = (and-eq-true_iff (fits e (length (dirty_files w.table))) (rest_erased w.image w.state.meta_page e)).0 t in append_keeps e h u.0 u.1) (λ t. moved_keeps)

  -- COMMIT
  pub commit_keeps : Commits D N w (commit w)
  unfolding commit
  commit_keeps = checked_by (Commits D N w) w w.state.writer.active 0 _ _ (λ why. refused why) (λ h. batch_keeps h.idle)
