-- The ledger tells the bytes after flags, rename, truncate, commit, mount and format. Assumes nothing.
use Rattle.std.specs.Prelude.{Ok, Err}
use Rattle.seq.specs.Ids.{none}
use Rattle.state.specs.World.{World, ended, after_call}
use Rattle.chain.specs.Files.{last_of}
use Rattle.owners.specs.Store as st
use Rattle.transact.specs.Rename as TransactRename
use Rattle.transact.specs.Rename.{changed_table, rename, swapped}
use Rattle.transact.specs.Truncate.{dirtied}
use Rattle.transact.specs.Commit.{commit}
use Rattle.reached.specs.Ledger.{Noted, Ledger, put_at, with_files}
use Prim.Native.Nat.{ℕ, ◌≤◌, ◌<◌}
use mathlib.Core.Path.{◌≡◌, refl, sym, ap, subst, ◌∙◌}
use mathlib.Core.Bool.{Bool, true, false, cond}
use mathlib.Core.List.{List}
use native.Mathlib.Omega.{arith}
use native.Mathlib.Decide.{ℕ_discrete}
use lib.ListN.{length}
use lib.Dec.{ltb, eqb}
use borrow.Author.Tests.{eq-eqb, ne_eqb, lt-ltb, ltb-false}
use Rattle.state.specs.declared.types.FileRecord.{FileRecord}
use Rattle.state.specs.declared.types.Table.{Table}
use Rattle.reached.proofs.Demand2.{bytes_kept, tab_is, page_same}
use Rattle.reached.proofs.Ledgers.{Notes}
use Rattle.reached.proofs.Tells.{Text, Tells, Silent, quiet_same}
use Rattle.agree.specs.Good.{Good, Known}
use Rattle.agree.specs.View.{view, as_file, rec_at}
use Rattle.agree.proofs.Commit.{Commits, commit_keeps}
use Rattle.agree.proofs.Keeps.{cond_by, checked_by, in_table}
use Rattle.agree.proofs.Pages.{clash}
use Rattle.agree.proofs.Records.{file_at_lem, with_at, with_off, with_eight}
use Rattle.agree.proofs.Walking.{walk_complete, file_walk}
use Rattle.owners.specs.State.{Base}
use Rattle.owners.specs.Store.{File, gone, live, Owner, Mem, FileAt}
use Rattle.owners.proofs.Finding.{mounted_one}
use Rattle.owners.proofs.Walks.{walk_head, shorter_sub, walk_shorter}
use Rattle.page.specs.Page.{page_of, readable, header_of}
use Rattle.state.specs.Refusals.{on_done, Done}
use Rattle.state.specs.Values.{file_at, with_file, flagged, with_flags, opened}
use Rattle.chain.specs.Steps.{read_at}

-- ---- FLAGS

flagged_text : (img : List ℕ) (count : ℕ) (f : FileRecord) (n : ℕ) (l : Noted) → Text img count (as_file f) l → Text img count (as_file (flagged f n)) l
unfolding flagged as_file
flagged_text img count f n l = by (eqb f.last_page none) refl (eqb f.flags n)
  where
    by : (a : Bool) → eqb f.last_page none ≡ a → (c : Bool)
        → Text img count (cond a gone (live f.last_page f.first_seq f.last_seq f.flags)) l
        → Text img count (as_file (cond a f (cond c f (record { dirty = true; last_page = f.last_page; header = f.header; first_seq = f.first_seq; last_seq = f.last_seq; flags = n })))) l
    by true e c t = rw e t
    by false e true t = rw e t
    by false e false t = rw e t

pub flags_quiet : {D : Type 0} {N : ℕ} {w : World} {b : Base} {own : ℕ → Owner} → Good D N w b own → (i n : ℕ) → Silent w (TransactRename.flags w i n)
unfolding TransactRename.flags with_flags opened
flags_quiet {w = w} g i n =
    checked_by (Silent w) w w.state.writer.active i _ _ (λ why. quiet_same w)
    (λ h. let i8 : i < 8 = omega (arith, h.known) in
    subst (λ (c : Bool). Silent w (changed_table w (cond c (with_file w.table i (flagged (file_at w.table i) n)) w.table))) (sym (lt-ltb i 8 i8))
    (subst (λ (f : FileRecord). Silent w (changed_table w (with_file w.table i (flagged f n)))) (sym (file_at_lem w.table i (in_table g h.known)))
    (record { image = refl; count = refl; files = λ j hj l t. each (in_table g h.known) j l t (ℕ_discrete j i); draft = λ e. clash (cc h.idle); whose = λ e. clash (cc h.idle) })))
  where
    each : i < length w.table.files → (j : ℕ) (l : Noted) → Text w.image w.state.page_count (as_file (rec_at w.table j)) l → Dec (j ≡ i)
        → Text w.image w.state.page_count (as_file (rec_at (with_file w.table i (flagged (rec_at w.table i) n)) j)) l
    each k j l t (yes z) =
        subst (λ (f : FileRecord). Text w.image w.state.page_count (as_file f) l) (sym (ap (rec_at (with_file w.table i (flagged (rec_at w.table i) n))) z ∙ with_at w.table i (flagged (rec_at w.table i) n) k))
        (flagged_text w.image w.state.page_count (rec_at w.table i) n l (subst (λ (m : ℕ). Text w.image w.state.page_count (as_file (rec_at w.table m)) l) z t))
    each k j l t (no z) = subst (λ (f : FileRecord). Text w.image w.state.page_count (as_file f) l) (sym (with_off w.table i (flagged (rec_at w.table i) n) k j z)) t

-- ---- RENAME

dirtied_is : (f : FileRecord) → as_file (dirtied f) ≡ as_file f
unfolding dirtied as_file
dirtied_is f = refl

-- one record set, and its list
pub set_text : (img : List ℕ) (count : ℕ) (t : Table) (i : ℕ) (f : FileRecord) (h : i < length t.files) (g : ℕ → Noted) (l : Noted) → Text img count (as_file f) l
    → ((j : ℕ) → j < 8 → Text img count (as_file (rec_at t j)) (g j)) → (j : ℕ) → j < 8 → Text img count (as_file (rec_at (with_file t i f) j)) (put_at g i l j)
set_text img count t i f h g l a b j k = go (ℕ_discrete j i)
  where
    go : Dec (j ≡ i) → Text img count (as_file (rec_at (with_file t i f) j)) (put_at g i l j)
    go (yes z) = rw (eq-eqb j i z) (subst (λ (r : FileRecord). Text img count (as_file r) l) (sym (ap (rec_at (with_file t i f)) z ∙ with_at t i f h)) a)
    go (no z) = rw (ne_eqb j i z) (subst (λ (r : FileRecord). Text img count (as_file r) (g j)) (sym (with_off t i f h j z)) (b j k))

pub rename_notes : {N : ℕ} {w : World} (k : Known (Unit {0}) N w) (g : Ledger) → Tells N w g → (i j : ℕ) → Notes N w g (with_files g (put_at (put_at g.files i (g.files j)) j (g.files i))) (rename w i j)
unfolding rename swapped opened
rename_notes {N} {w} k g t i j =
    checked_by (Notes N w g L) w w.state.writer.active i _ _ (λ why. t)
    (λ h. cond_by (Notes N w g L) (ltb 7 j) _ _ (λ e. t)
    (λ e. let j7 : j ≤ 7 = ltb-false 7 j e in
    let li = in_table k.good h.known in
    let lj = in_table k.good j7 in
    let T = w.table in
    let a : file_at T j ≡ rec_at T j = file_at_lem T j lj in
    let c : file_at T i ≡ rec_at T i = file_at_lem T i li in
    let t₁ = with_file T i (dirtied (file_at T j)) in
    let l₂ : j < length t₁.files = omega (arith, with_eight T i (dirtied (file_at T j)) li) in
    record {
      files = set_text w.image w.state.page_count t₁ j (dirtied (file_at T i)) l₂ (put_at g.files i (g.files j)) (g.files i)
          (subst (λ (f : File). Text w.image w.state.page_count f (g.files i)) (sym (dirtied_is (file_at T i) ∙ ap as_file c)) (t.files i (omega (arith, h.known))))
          (set_text w.image w.state.page_count T i (dirtied (file_at T j)) li g.files (g.files j)
          (subst (λ (f : File). Text w.image w.state.page_count f (g.files j)) (sym (dirtied_is (file_at T j) ∙ ap as_file a)) (t.files j (omega arith))) t.files);
      base = t.base;
      draft = λ on. clash (cc h.idle);
      whose = λ on. clash (cc h.idle);
    }))
  where
    L : Ledger
    L = with_files g (put_at (put_at g.files i (g.files j)) j (g.files i))

-- ---- COMMIT

frame_back : (img img' : List ℕ) {pc : ℕ} {f : File} {own : ℕ → Owner} {i : ℕ} (l : Noted) → FileAt (view img') pc f own i → ((x : ℕ) → own x ≡ st.file i → page_of img x ≡ page_of img' x) → Text img pc f l → Text img' pc f l
frame_back img img' {pc} {f} {own} {i} l a h t = by f refl t
  where
    by : (g : File) → f ≡ g → Text img pc g l → Text img' pc g l
    by gone e t = t
    by (live p first last k) e t =
        let u = file_walk a.ok e in
        let p_mine = a.mine p (walk_head u) in
        record {
          size = t.size;
          starts = t.starts;
          is = λ d s n low high.
              let s₀ : read_at img p ≡ readable d = ap header_of (h p p_mine) ∙ s in
              let r : FileRecord = record { dirty = false; last_page = p; header = d; first_seq = first; last_seq = last; flags = k } in
              let c = walk_shorter n u low in
              let z = walk_complete img' pc n (last_of r) s c.walk in
              sym (bytes_kept img' img pc r n z.last z.ends (λ x m. h x (a.mine x (shorter_sub c x (subst (Mem x) z.pages m))))) ∙ t.is d s₀ n low high;
        }

pub commit_notes : {N : ℕ} {w : World} (k : Known (Unit {0}) N w) (g : Ledger) → Tells N w g → Notes N w g (record { files = g.files; committed = g.files; opened = g.opened; draft = g.draft }) (commit w)
commit_notes {N} {w} k g t = by (commit w).answer refl
  where
    C : Commits (Unit {0}) N w (commit w)
    C = commit_keeps k.good

    by : (a : Done) → (commit w).answer ≡ a → Tells N (ended w (commit w)).world (on_done a (λ why. g) (record { files = g.files; committed = g.files; opened = g.opened; draft = g.draft }))
    by (Err why) e = subst (λ (v : World). Tells N v g) (sym ((commit_keeps k.good).stays why e)) t
    by (Ok u) e =
        record {
          files = λ i h.
              subst (λ (T : Table). Text img' (ended w (commit w)).world.state.page_count (as_file (rec_at T i)) (g.files i)) (sym (commit_keeps k.good).table)
              (subst (λ (c : ℕ). Text img' c (as_file (rec_at w.table i)) (g.files i)) (sym (commit_keeps k.good).known.good.sees.pc) (text i h));
          base = λ b₂ M i h.
              let s = mounted_one (commit_keeps k.good).known.good.inv.mounted M in
              subst (λ (c : ℕ). Text img' c (b₂.tab i) (g.files i)) s.pc (subst (λ (f : File). Text img' (commit_keeps k.good).known.base.pc f (g.files i)) (tab_is k.good e i ∙ s.tab i) (text i h));
          draft = λ on. clash (cc ((commit_keeps k.good).idle e));
          whose = λ on. clash (cc ((commit_keeps k.good).idle e));
        }
      where
        img' : List ℕ
        img' = (after_call commit w).world.image

        text : (i : ℕ) → i < 8 → Text (after_call commit w).world.image (commit_keeps k.good).known.base.pc (as_file (rec_at w.table i)) (g.files i)
        text i h =
            subst (λ (f : File). Text img' (commit_keeps k.good).known.base.pc f (g.files i)) (sym (tab_is k.good e i))
            (frame_back w.image img' (g.files i) ((commit_keeps k.good).known.good.inv.mounted.files i) (λ x o. page_same k.good e x i o)
            (subst (λ (f : File). Text w.image (commit_keeps k.good).known.base.pc f (g.files i)) (tab_is k.good e i)
            (subst (λ (c : ℕ). Text w.image c (as_file (rec_at w.table i)) (g.files i)) (sym (commit_keeps k.good).count ∙ (commit_keeps k.good).known.good.sees.pc) (t.files i h))))
