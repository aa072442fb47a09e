-- What a commit that is done leaves: the log of its metadata page replays to the table, held pages are free, and the rest stays.
-- Assumes nothing.
use Rattle.std.specs.Prelude.{Option, Some, None, Ok, Err}
use Rattle.state.specs.Refusals.{Done, fine}
use mathlib.Core.Path.{◌≡◌, refl, sym, ◌∙◌, ap, subst}
use mathlib.Core.Bool.{Bool, true, false, cond, ◌&&◌, not}
use mathlib.Core.List.{List, [], ◌∷◌, map}
use mathlib.Core.Logic.{◌⊎◌, inl, inr, ⊎_elim}
use Prim.Native.Nat.{ℕ, zero, suc, ◌/◌, ◌≤◌, ◌<◌}
use native.Mathlib.Omega.{arith}
use borrow.Author.Tests.{ne_eqb, eqb-true, eqb-false}
use lib.Dec.{eqb}
use lib.ListN.{length, get_or, set, length-map, get_or-replicate}
use lib.Seq.{set_out, get_or-set_same, get_or-set_other}
use Rattle.seq.specs.Ids.{none}
use Rattle.page.specs.Page.{Bytes}
use Rattle.page.specs.Store.{ran}
use Rattle.map.specs.Map.{alloc_of, released, unheld, free, held, used}
use Rattle.map.proofs.Laws.{split, alloc_found, released_at}
use Rattle.metalog.specs.declared.Entry.{Entry}
use Rattle.metalog.specs.declared.Files.{Files}
use Rattle.metalog.specs.Log.{Replay, log_end, rest_erased, fits, sound, adds, fresh, replay_of}
use Rattle.metalog.specs.Batch.{entry_for, batch_stores}
use Rattle.metalog.proofs.Runs.{chosen_few}
use Rattle.metalog.proofs.Table.{Typed, Agree, typed_none, replay_typed, adds_good, chosen_fit, chosen_sounds, replay_chosen, append_replay, new_replay, end_reads}
use Rattle.state.specs.declared.types.FileRecord.{FileRecord}
use Rattle.state.specs.declared.types.Refusal.{Refusal}
use Rattle.state.specs.declared.types.Refusal.TheVariants.{Damaged, NoRoom, SeqEnd}
use Rattle.state.specs.Values.{absent, is_empty, closed, with_meta, with_cursor}
use Rattle.state.specs.Checks.{checks}
use Rattle.state.specs.World.{World, Outcome, refuse}
use Rattle.state.proofs.Laws.{both, Passed, checks_pass}
use Rattle.transact.specs.Commit.{files_of, dirty_files, live_files, committed, moved_to, moved, commit}
use Rattle.std.proofs.lemmas.List.{get_or-map}
use Rattle.transact.proofs.Exits.{Checked, batch_of, commit_refused, commit_none, commit_some, batch_damaged, batch_fits, batch_moved, moved_end, moved_full, moved_page}

-- ---- the three ways of a commit that is done

pub data Way (w : World) : Outcome Done → Type 0 where
  nothing : length (dirty_files w.table) ≡ 0 → Way w (committed w [])
  appended : (e : ℕ) → log_end w.image w.state.meta_page ≡ Some e → fits e (length (dirty_files w.table)) ≡ true
      → rest_erased w.image w.state.meta_page e ≡ true → Way w (committed w (batch_stores w.state.meta_page e (dirty_files w.table)))
  renewed : (p : ℕ) → alloc_of w.map w.state.page_count w.state.cursor ≡ Some p → Way w (moved_to w (Some p))

module _ (w : World) (done : (commit w).answer ≡ fine) where
  not_refused : {X : Type 0} (why : Refusal) → commit w ≡ refuse w why → X
  not_refused why e =
      let f : Err why ≡ fine = sym (ap (λ (o : Outcome Done). o.answer) e) ∙ done in
      let z : ◌≡◌ {A = ℕ} 0 1 = cc in absurd (omega arith)

  -- checks 1 to 4 passed
  pub commit_checked : Checked w 0 fine
  commit_checked = by (checks (length w.image) (length w.map) w.state w.state.writer.active 0) refl
    where
      by : (d : Done) → Checked w 0 d → Checked w 0 fine
      by (Ok u) e = e
      by (Err why) e = not_refused why (commit_refused w why e)

  pub commit_passed : Passed (length w.image) (length w.map) w.state w.state.writer.active 0
  commit_passed = checks_pass _ _ _ _ _ commit_checked

  way_alloc : commit w ≡ moved w → (w.state.meta_seq ≡ 4294967295 → ⊥) → (a : Option ℕ) → alloc_of w.map w.state.page_count w.state.cursor ≡ a
      → Way w (commit w)
  way_alloc s n None e = not_refused NoRoom (s ∙ moved_full w n e)
  way_alloc s n (Some p) e = subst (Way w) (sym (s ∙ moved_page w p n e)) (renewed p e)

  way_moved : commit w ≡ moved w → (b : Bool) → eqb w.state.meta_seq 4294967295 ≡ b → Way w (commit w)
  way_moved s true t = not_refused SeqEnd (s ∙ moved_end w (eqb-true _ _ t))
  way_moved s false t = way_alloc s (eqb-false _ _ t) _ refl

  way_tested : commit w ≡ batch_of w → (e : ℕ) → log_end w.image w.state.meta_page ≡ Some e → (b : Bool)
      → (fits e (length (dirty_files w.table)) && rest_erased w.image w.state.meta_page e) ≡ b → Way w (commit w)
  way_tested s e h true t = let x = both _ _ t in subst (Way w) (sym (s ∙ batch_fits w e h t)) (appended e h x.0 x.1)
  way_tested s e h false t = way_moved (s ∙ batch_moved w e h t) _ refl

  way_log : commit w ≡ batch_of w → (l : Option ℕ) → log_end w.image w.state.meta_page ≡ l → Way w (commit w)
  way_log s None h = not_refused Damaged (s ∙ batch_damaged w h)
  way_log s (Some e) h = way_tested s e h _ refl

  way_some : (b : Bool) → eqb (length (dirty_files w.table)) 0 ≡ b → Way w (commit w)
  way_some true t = let n = eqb-true _ _ t in subst (Way w) (sym (commit_none w commit_checked n)) (nothing n)
  way_some false t = way_log (commit_some w commit_checked (eqb-false _ _ t)) _ refl

  pub commit_way : Way w (commit w)
  commit_way = way_some _ refl

-- ---- the log replays to the table

-- what is so before: the log replays to files that are the table's where they are not dirty; every record is one that mount takes, and an
-- empty one has first_seq and flags 0
pub record Ready (w : World) : Type 0 where
  pub bytes : Bytes w.image
  pub typed : Typed (files_of w.table)
  pub takes : (i : ℕ) → i < 8 → sound w.state.page_count (entry_for (files_of w.table) i) ≡ true
  pub empties : (i : ℕ) → i < 8 → get_or (files_of w.table).last i 0 ≡ none → (get_or (files_of w.table).first i 0 ≡ 0) × (get_or (files_of w.table).flags i 0 ≡ 0)
  pub reads : (replay_of w.state.page_count w.image w.state.meta_page).ok ≡ true
  pub agrees : Agree (replay_of w.state.page_count w.image w.state.meta_page).files (files_of w.table) (map (λ (f : FileRecord). f.dirty) w.table.files)

-- the log of the metadata page, after the stores, gives the table
abbrev pub Replays : World → Outcome Done → Type 0
Replays w o = replay_of w.state.page_count (ran w.image o.stores) o.state.meta_page ≡ record { ok = true; files = files_of o.table }

replay_is : (r : Replay) (f : Files) → r.ok ≡ true → r.files ≡ f → r ≡ record { ok = true; files = f }
replay_is r f a b = λ i. record { ok = a i; files = b i }

no_entries : (l : List Entry) → length l ≡ 0 → l ≡ []
no_entries [] h = refl
no_entries (x ∷ l) h = absurd (omega arith)

module _ (w : World) (ready : Ready w) (passed : Passed (length w.image) (length w.map) w.state w.state.writer.active 0) where
  abbrev count : ℕ
  count = w.state.page_count

  abbrev files : Files
  files = files_of w.table

  abbrev dirties : List Bool
  dirties = map (λ (f : FileRecord). f.dirty) w.table.files

  abbrev lives : List Bool
  lives = map (λ (f : FileRecord). not (is_empty f)) w.table.files

  abbrev old : Replay
  old = replay_of count w.image w.state.meta_page

  page_in : (p : ℕ) → p < length w.map → p < length w.image / 256
  page_in p h = omega (arith, passed.whole)

  after_old : adds count old (dirty_files w.table) ≡ record { ok = true; files = files }
  after_old =
      replay_is (adds count old (dirty_files w.table)) files
      (adds_good count old (dirty_files w.table) (chosen_sounds count files dirties (λ i h m. ready.takes i h)) ∙ ready.reads)
      (replay_chosen count old files dirties (replay_typed count w.image w.state.meta_page ready.bytes) ready.typed ready.agrees)

  -- files that a new page leaves out are empty
  left_out : (j : ℕ) → j < 8 → get_or lives j false ≡ false → get_or files.last j 0 ≡ none
  left_out j h m =
      let n : length w.table.files ≡ 8 = sym (length-map w.table.files (λ (f : FileRecord). f.last_page)) ∙ ready.typed.lasts in
      let f = get_or w.table.files j absent in
      let e : not (is_empty f) ≡ false = sym (get_or-map (λ (f : FileRecord). not (is_empty f)) w.table.files j absent false (omega arith)) ∙ m in
      get_or-map (λ (f : FileRecord). f.last_page) w.table.files j absent 0 (omega arith) ∙ by (is_empty f) refl e
    where
      by : (b : Bool) → is_empty (get_or w.table.files j absent) ≡ b → not b ≡ false → (get_or w.table.files j absent).last_page ≡ none
      by true t e = eqb-true _ _ t
      by false t e = let z : ◌≡◌ {A = ℕ} 0 1 = cc in absurd (omega arith)

  after_new : adds count (fresh true) (live_files w.table) ≡ record { ok = true; files = files }
  after_new =
      replay_is (adds count (fresh true) (live_files w.table)) files
      (adds_good count (fresh true) (live_files w.table) (chosen_sounds count files lives (λ i h m. ready.takes i h)))
      (replay_chosen count (fresh true) files lives typed_none ready.typed (record {
        last = λ j h m. get_or-replicate 8 j none 0 h ∙ sym (left_out j h m);
        first = λ j h m. get_or-replicate 8 j 0 0 h ∙ sym (ready.empties j h (left_out j h m)).0;
        flags = λ j h m. get_or-replicate 8 j 0 0 h ∙ sym (ready.empties j h (left_out j h m)).1;
      }))

  way_replays : (o : Outcome Done) → Way w o → Replays w o
  unfolding closed with_cursor with_meta
  way_replays _ (nothing n) = ap (adds count old) (sym (no_entries (dirty_files w.table) n)) ∙ after_old
  way_replays _ (appended e h room blank) =
      let r = end_reads w.image w.state.meta_page e h in
      append_replay count w.image w.state.meta_page (page_in _ (omega (arith, passed.pages, passed.mounted.meta, passed.mounted.inside)))
      r.list e r.is blank (dirty_files w.table) room (chosen_few files dirties) (chosen_fit files dirties ready.typed)
      ∙ after_old
  way_replays _ (renewed p h) =
      let f = alloc_found w.map count w.state.cursor (omega (arith, passed.mounted.cursor)) p h in
      new_replay count w.image p _ (live_files w.table) (page_in p f.within) (chosen_few files lives) (chosen_fit files lives ready.typed)
      ∙ after_new

-- after a commit that is done the log of the metadata page replays to the table, dirty marks aside
pub commit_replays : (w : World) → Ready w → (commit w).answer ≡ fine → Replays w (commit w)
commit_replays w ready done = way_replays w ready (commit_passed w done) (commit w) (commit_way w done)

-- ---- the map

get_d_any : (l : List ℕ) (j a b : ℕ) → j < length l → get_or l j a ≡ get_or l j b
get_d_any [] j a b h = absurd (omega arith)
get_d_any (x ∷ l) zero a b h = refl
get_d_any (x ∷ l) (suc j) a b h = get_d_any l j a b (omega arith)

set_either : (l : List ℕ) (i j v : ℕ) → (get_or (set l i v) j 0 ≡ v) ⊎ (get_or (set l i v) j 0 ≡ get_or l j 0)
set_either l i j v = by (eqb j i) refl
  where
    by : (b : Bool) → eqb j i ≡ b → (get_or (set l i v) j 0 ≡ v) ⊎ (get_or (set l i v) j 0 ≡ get_or l j 0)
    by false e = inr (get_or-set_other l i j v 0 (eqb-false j i e))
    by true e =
        let z : j ≡ i = eqb-true j i e in
        split (length l) i (λ h. inr (rw (set_out l i v h))) (λ h. inl (rw z (get_or-set_same l i v 0 h)))

-- a held page is never allocated
pub held_kept : (m : List ℕ) (count cursor p : ℕ) → cursor ≤ count → alloc_of m count cursor ≡ Some p → get_or m p 0 ≡ held → ⊥
held_kept m count cursor p h e k =
    let f = alloc_found m count cursor h p e in
    omega (arith, f.free, get_d_any m p 0 1 f.within)

released_not : (m : List ℕ) (j : ℕ) → get_or (released m) j 0 ≡ held → ⊥
released_not m j h = by (get_or m j 0) (eqb (get_or m j 0) held) refl (sym (released_at m j) ∙ h)
  where
    by : (x : ℕ) (b : Bool) → eqb x held ≡ b → cond b free x ≡ held → ⊥
    by x true e k = omega arith
    by x false e k = eqb-false x held e k

released_free : (m : List ℕ) (j : ℕ) → get_or m j 0 ≡ held → get_or (released m) j 0 ≡ free
released_free m j h = released_at m j ∙ ap unheld h

released_same : (m : List ℕ) (j : ℕ) → (get_or m j 0 ≡ held → ⊥) → get_or (released m) j 0 ≡ get_or m j 0
released_same m j n = released_at m j ∙ rw (ne_eqb (get_or m j 0) held n)

module _ (w : World) where
  way_unheld : (o : Outcome Done) → Way w o → (j : ℕ) → get_or o.map j 0 ≡ held → ⊥
  way_unheld _ (nothing n) j h = released_not w.map j h
  way_unheld _ (appended e a b c) j h = released_not w.map j h
  way_unheld _ (renewed p e) j h =
      ⊎_elim (λ x. omega arith) (λ x. released_not (set w.map p used) j (sym x ∙ h)) (set_either (released (set w.map p used)) w.state.meta_page j free)

  way_frees : w.state.cursor ≤ w.state.page_count → (o : Outcome Done) → Way w o → (j : ℕ) → get_or w.map j 0 ≡ held → get_or o.map j 0 ≡ free
  way_frees k _ (nothing n) j h = released_free w.map j h
  way_frees k _ (appended e a b c) j h = released_free w.map j h
  way_frees k _ (renewed p e) j h =
      let n : j ≡ p → ⊥ = λ z. held_kept w.map _ _ p k e (rw z at h) in
      let f = released_free (set w.map p used) j (get_or-set_other w.map p j used 0 n ∙ h) in
      ⊎_elim (λ x. x) (λ x. x ∙ f) (set_either (released (set w.map p used)) w.state.meta_page j free)

  way_same : (o : Outcome Done) → Way w o → (j : ℕ) → (get_or w.map j 0 ≡ held → ⊥) → (j ≡ w.state.meta_page → ⊥) → (j ≡ o.state.meta_page → ⊥)
      → get_or o.map j 0 ≡ get_or w.map j 0
  unfolding closed with_cursor with_meta
  way_same _ (nothing n) j h a b = released_same w.map j h
  way_same _ (appended e x y z) j h a b = released_same w.map j h
  way_same _ (renewed p e) j h a b =
      let s = get_or-set_other w.map p j used 0 b in
      get_or-set_other (released (set w.map p used)) w.state.meta_page j free 0 a
      ∙ released_same (set w.map p used) j (λ x. h (sym s ∙ x))
      ∙ s

  way_table : (o : Outcome Done) → Way w o → o.table ≡ w.table
  way_table _ (nothing n) = refl
  way_table _ (appended e a b c) = refl
  way_table _ (renewed p e) = refl

  module _ (done : (commit w).answer ≡ fine) where
    -- no page is held once a commit is done
    pub commit_unheld : (j : ℕ) → get_or (commit w).map j 0 ≡ held → ⊥
    commit_unheld = way_unheld (commit w) (commit_way w done)

    -- what was held is free
    pub commit_frees : (j : ℕ) → get_or w.map j 0 ≡ held → get_or (commit w).map j 0 ≡ free
    commit_frees = way_frees (let k = commit_passed w done in omega (arith, k.mounted.cursor)) (commit w) (commit_way w done)

    -- every other page but the old and the new metadata page is as it was
    pub commit_same : (j : ℕ) → (get_or w.map j 0 ≡ held → ⊥) → (j ≡ w.state.meta_page → ⊥) → (j ≡ (commit w).state.meta_page → ⊥)
        → get_or (commit w).map j 0 ≡ get_or w.map j 0
    commit_same = way_same (commit w) (commit_way w done)

    -- and so is the table, dirty marks too
    pub commit_table : (commit w).table ≡ w.table
    commit_table = way_table (commit w) (commit_way w done)
