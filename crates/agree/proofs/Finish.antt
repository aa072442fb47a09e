-- Finish and discard keep the invariant. Assumes nothing.
use Rattle.seq.specs.Ids.{none}
use Rattle.owners.proofs.Writing.{inside}
use borrow.Author.Tests.{not-true, not-false}
use Rattle.state.specs.declared.types.Writer as StateWriter
use Rattle.state.specs.World.{World, ended}
use Rattle.chain.specs.Steps.{reaches, step}
use Rattle.chain.specs.Steps as steps
use Rattle.writer.specs.Staging.{is_staged, staged_header, flush_stores, previous_of}
use Rattle.writer.specs.Finish.{marked, grown, finished, shut, finish, pages, beside, back_by, back_from, freed, discarded_by, discard}
use Rattle.writer.specs.Finish as calls
use Rattle.owners.specs.State as st
use Rattle.owners.specs.State.{on, done}
use Prim.Native.Nat.{ℕ, suc, ◌+◌, ◌≤◌, ◌<◌}
use mathlib.Core.Path.{◌≡◌, refl, sym, ap, ap₂, subst, ◌∙◌}
use mathlib.Core.Bool.{true, false}
use mathlib.Core.List.{List, [], ◌∷◌, ◌++◌}
use native.Mathlib.Omega.{arith}
use native.Mathlib.Decide.{ℕ_discrete}
use lib.ListN.{length, get_or, set}
use lib.Dec.{eqb}
use borrow.Author.Tests.{eq-eqb, ne_eqb, eqb-true, eqb-false}
use Rattle.page.specs.declared.DataHeader.{DataHeader}
use Rattle.state.specs.declared.types.FileRecord.{FileRecord}
use Rattle.state.specs.declared.types.Table.{Table}
use Rattle.chain.specs.declared.PagePointer.{PagePointer}
use Rattle.agree.specs.Good.{RecordOk, Good, Known}
use Rattle.agree.specs.Rules.{Reaches, ChainOf, staged_page, Rules}
use Rattle.agree.specs.View.{view, code, Mapped, as_file, rec_at, as_writer, now_of}
use Rattle.agree.proofs.Seen.{sees_on}
use Rattle.agree.proofs.Hunts.{no_search_ok}
use Rattle.agree.proofs.Keeps.{Keeps, cond_by, checked_by, writer_shut, writer_ready, writer_staged, known}
use Rattle.agree.proofs.Maps.{mapped_same, mapped_finish, set_all, mapped_all}
use Rattle.agree.proofs.Pages.{clash, view_data}
use Rattle.agree.proofs.Records.{link_none, link_some, file_live, file_by, file_at_lem, with_eight, with_files, with_marks, with_each, now_is, inv_is}
use Rattle.agree.proofs.Ruling.{chain_record}
use Rattle.agree.proofs.Staged.{Midst, page_some, flush_bytes, flush_header, flush_change, flush_record, chain_flushed, files_flushed, base_flushed, last_own, staged_ok, ready_ok}
use Rattle.agree.proofs.Walking.{to_page}
use Rattle.owners.specs.Moves.{dropped, mem_nil, mem_tail, set_f, with_own}
use Rattle.owners.specs.State.{link_of, Owners, Base, Writer, first_of, last_of, end_of, flags_of, Back, CopiedOk, Run, Inv}
use Rattle.owners.specs.Store.{Link, live, Owner, free, held, meta, writer, outside, file, Mem, here, there}
use Rattle.owners.proofs.Frames.{loose_writer}
use Rattle.owners.proofs.Walks.{mem_left, mem_right}
use Rattle.owners.proofs.Writing.{inv_finish, inv_finish_none, inv_discard}
use Rattle.page.specs.Page.{Read, readable}
use Rattle.page.specs.Store.{ran}
use Rattle.page.proofs.Laws.{ran_length}
use Rattle.state.specs.Values.{file_at, with_file, no_writer, opened, with_writer}
use Rattle.chain.specs.Steps.{read_at, towards, falls, back_rule, Stepped}
use Rattle.chain.proofs.Rules.{page_via, back_meets, back_on}
use Rattle.chain.proofs.Traces.{goes_step}

-- a record's numbers are its file's, an empty one's too
pub numbers : (img : List ℕ) (r : FileRecord) → RecordOk img r → (first_of (as_file r) ≡ r.first_seq) × (flags_of (as_file r) ≡ r.flags) × (end_of (as_file r) ≡ r.last_seq) × (last_of (as_file r) ≡ link_of r.last_page)
numbers img r k =
    file_by r
    (λ z e. (ap first_of e ∙ sym (k.empty z).first, ap flags_of e ∙ sym (k.empty z).flags, ap end_of e ∙ sym (k.empty z).last, ap last_of e ∙ sym (link_none r.last_page z)))
    (λ z e. (ap first_of e, ap flags_of e, ap end_of e, ap last_of e ∙ sym (link_some r.last_page z)))

pub none_shut : as_writer no_writer ≡ st.shut
unfolding no_writer
none_shut = writer_shut no_writer refl

pub copied_in : {pc mp : ℕ} {own : ℕ → Owner} (i c : ℕ) → Owners pc mp own → CopiedOk i own (link_of c) → (c ≡ none → ⊥) → c < pc
copied_in {pc} {mp} {own} i c o k n = let z = subst (CopiedOk i own) (link_some c n) k in inside o (λ y. clash (cc z))

-- the grown record
grown_dirty : (f : FileRecord) (x : StateWriter.Writer) → (grown f x).dirty ≡ true
unfolding grown
grown_dirty f x = refl

grown_ok : (img : List ℕ) (f : FileRecord) (x : StateWriter.Writer) → (x.page ≡ none → ⊥) → read_at img x.page ≡ readable (staged_header x) → f.flags < 256 → RecordOk img (grown f x)
unfolding grown
grown_ok img f x n s k = record { empty = λ z. absurd (n z); stands = λ z. s; byte = k }

pub grown_file : (f : FileRecord) (x : StateWriter.Writer) → (x.page ≡ none → ⊥) → as_file (grown f x) ≡ live x.page f.first_seq (x.seq + x.length) f.flags
unfolding grown
grown_file f x n = file_live (grown f x) n

grown_chain : (img : List ℕ) (pc : ℕ) (f : FileRecord) (x : StateWriter.Writer) → (x.page ≡ none → ⊥) → read_at img x.page ≡ readable (staged_header x) → Reaches img pc f.first_seq (staged_page x) → ChainOf img pc (as_file (grown f x))
unfolding grown
grown_chain img pc f x n s r = chain_record (grown f x) n s r

-- the writer ends and nothing else changes but who has which page
module _ {D : Type 0} {N : ℕ} {w : World} {b : Base} {own : ℕ → Owner} (g : Good D N w b own) where
  closed_keeps : (m : List ℕ) (own' : ℕ → Owner) → Mapped m N own' → Inv N (view w.image) b (with_own (now_of w.table w.state own) own' st.shut)
      → Known D N (record { image = w.image; map = m; table = w.table; state = with_writer w.state no_writer })
  unfolding with_writer no_writer
  closed_keeps m own' mapped v =
      let s = g.sees in
      record {
        base = b;
        own = own';
        good =
            record {
              sees =
                  sees_on s _ _ (refl, refl, refl) (refl, refl, refl, refl, refl, refl) s.bytes s.cursor s.search mapped s.eight
                  s.recs (λ e. clash cc);
              inv = inv_is (now_is (λ i. refl) (λ x. refl) (λ i. refl) refl (sym none_shut)) v;
              rules = λ d. record { now = (g.rules d).now; base = (g.rules d).base; wr = λ e. clash cc };
            };
      }

  -- ---- FINISH

  abbrev x : StateWriter.Writer
  x = w.state.writer

  shut_keeps : w.state.writer.active ≡ true → w.state.writer.page ≡ none → Keeps D N w (shut w)
  shut_keeps e n = closed_keeps w.map own g.sees.owners (inv_finish_none g.inv (writer_ready w.state.writer e n))

  finished_keeps : (e : w.state.writer.active ≡ true) (n : w.state.writer.page ≡ none → ⊥) → Keeps D N w (finished w w.state.writer)
  unfolding finished with_writer opened no_writer
  finished_keeps e n =
      let s = g.sees in
      record {
        base = b;
        own = st.finished x.file (link_of x.copied) own;
        good =
            record {
              sees =
                  sees_on s _ _ (refl, refl, refl) (ran_length w.image (flush_stores x), refl, refl, refl, refl, refl) (flush_bytes m) s.cursor
                  no_search_ok
                  (mapped_finish x.file x.copied s.owners (λ k. omega (arith, copied_in x.file x.copied g.inv.owners m.staged.copy k, m.inside)))
                  (with_eight w.table x.file f' l ∙ s.eight) recs (λ e. clash cc);
              inv =
                  inv_is (now_is tabs (λ y. refl) (with_marks w.table x.file f' l marked_dirty) refl (sym none_shut))
                  (inv_finish g.inv (writer_staged w.state.writer e n) (flush_change m));
              rules = rules;
            };
      }
    where
      m : Midst N w.image b own w.table w.state.writer
      m = staged_ok g e n

      f' : FileRecord
      f' = grown (file_at w.table w.state.writer.file) w.state.writer

      l : w.state.writer.file < length w.table.files
      l = omega (arith, m.staged.below, g.sees.eight)

      old : file_at w.table w.state.writer.file ≡ rec_at w.table w.state.writer.file
      old = file_at_lem w.table w.state.writer.file l

      marked_dirty : (grown (file_at w.table w.state.writer.file) w.state.writer).dirty ≡ true
      marked_dirty = grown_dirty (file_at w.table w.state.writer.file) w.state.writer

      recs : (j : ℕ) → RecordOk (ran w.image (flush_stores w.state.writer)) (rec_at (with_file w.table w.state.writer.file (grown (file_at w.table w.state.writer.file) w.state.writer)) j)
      recs =
          with_each w.table w.state.writer.file (grown (file_at w.table w.state.writer.file) w.state.writer) l (RecordOk (ran w.image (flush_stores w.state.writer)))
          (grown_ok (ran w.image (flush_stores w.state.writer)) (file_at w.table w.state.writer.file) w.state.writer (page_some m) (flush_header m) (subst (λ (r : FileRecord). r.flags < 256) (sym old) (g.sees.recs w.state.writer.file).byte))
          (λ j k. flush_record m (rec_at w.table j) j (last_own (rec_at w.table j) (g.inv.files j)) (g.sees.recs j))

      chain : D → Reaches (ran w.image (flush_stores w.state.writer)) b.pc (file_at w.table w.state.writer.file).first_seq (staged_page w.state.writer)
      chain d =
          let r = rec_at w.table w.state.writer.file in
          let z = (numbers w.image r (g.sees.recs w.state.writer.file)).0 in
          subst (λ (k : ℕ). Reaches (ran w.image (flush_stores w.state.writer)) b.pc k (staged_page w.state.writer)) (z ∙ ap (λ (f : FileRecord). f.first_seq) (sym old))
          (chain_flushed m (subst (λ (k : ℕ). Reaches w.image b.pc k (staged_page w.state.writer)) (sym z) (((g.rules d).wr e).chain n)))

      rules : D → Rules (ended w (finished w w.state.writer)).world b
      rules d =
          record {
            now = with_each w.table w.state.writer.file (grown (file_at w.table w.state.writer.file) w.state.writer) l (λ (r : FileRecord). ChainOf (ran w.image (flush_stores w.state.writer)) b.pc (as_file r))
                (grown_chain (ran w.image (flush_stores w.state.writer)) b.pc (file_at w.table w.state.writer.file) w.state.writer (page_some m) (flush_header m) (chain d))
                (λ j k. files_flushed m (g.inv.files j) ((g.rules d).now j));
            base = λ i. base_flushed m b.own ((loose_writer g.inv m.staged.staged).no_file i) (g.inv.mounted.files i) ((g.rules d).base i);
            wr = λ e. clash cc;
          }

      tabs : (j : ℕ)
          → set_f (λ i. as_file (rec_at w.table i)) w.state.writer.file
          (live w.state.writer.page (first_of (as_file (rec_at w.table w.state.writer.file))) (w.state.writer.seq + w.state.writer.length) (flags_of (as_file (rec_at w.table w.state.writer.file)))) j
          ≡ as_file (rec_at (with_file w.table w.state.writer.file (grown (file_at w.table w.state.writer.file) w.state.writer)) j)
      tabs =
          let k = numbers w.image (rec_at w.table w.state.writer.file) (g.sees.recs w.state.writer.file) in
          with_files w.table w.state.writer.file (grown (file_at w.table w.state.writer.file) w.state.writer) l _
          (grown_file (file_at w.table w.state.writer.file) w.state.writer (page_some m)
          ∙ ap₂ (λ (a c : ℕ). live w.state.writer.page a (w.state.writer.seq + w.state.writer.length) c)
          (ap (λ (r : FileRecord). r.first_seq) old ∙ sym k.0) (ap (λ (r : FileRecord). r.flags) old ∙ sym k.1))

  -- FINISH
  pub finish_keeps : Keeps D N w (finish w)
  unfolding finish
  finish_keeps =
      checked_by (Keeps D N w) w false 0 _ _ (λ why. known g)
      (λ h. cond_by (Keeps D N w) w.state.writer.active _ _
      (λ e. cond_by (Keeps D N w) (is_staged w.state.writer) _ _
      (λ s. finished_keeps e (eqb-false x.page none (not-true (eqb x.page none) s)))
      (λ s. shut_keeps e (eqb-true x.page none (not-false (eqb x.page none) s))))
      (λ e. known g))

-- ---- DISCARD

freed_is : (m l : List ℕ) → freed m l ≡ set_all 0 m l
freed_is m [] = refl
freed_is m (p ∷ l) = freed_is (set m p 0) l

-- the walk back over the writer's pages gives them
module _ (img : List ℕ) (pc : ℕ) (small : pc ≤ 1024) where
  back_run : (l : List ℕ) (j : ℕ) (h : DataHeader) (k : Link) (q : ℕ) → read_at img j ≡ readable h → link_of (get_or h.skiplist 0 0) ≡ k → h.seq ≡ q → Run (view img) pc k q l
      → back_from pc (read_at img) (suc (length l)) (record { page_id = j; header = h }) ≡ pages (j ∷ l)
  unfolding back_from
  back_run [] j h k q e a z done = refl
  back_run (j' ∷ l) j h k q e a z (on {r = r} {k = k'} b v c run) =
      let s = view_data img j' v in
      let p : PagePointer = record { page_id = j; header = h } in
      let p' : PagePointer = record { page_id = j'; header = s.header } in
      let t = to_page (get_or h.skiplist 0 0) j' a in
      let above : 0 < h.seq = omega arith in
      let falls : s.header.seq < h.seq = omega (arith, s.seq) in
      let goes : step (back_rule pc 0) (read_at img) p ≡ reaches p' =
      goes_step (back_rule pc 0) (read_at img) p p' (record {
        way = back_on pc 0 p above t.1 ∙ ap (towards pc) t.0 ∙ page_via pc j' (λ y. t.1 (t.0 ∙ y)) b;
        stands = s.reads;
        meets = back_meets pc 0 p s.header falls;
      }) in
      ap (λ (y : steps.Stepped). beside j (back_by y (λ q. back_from pc (read_at img) (suc (length l)) q))) goes
      ∙ ap (beside j) (back_run l j' s.header k' r s.reads s.link s.seq run)

pub zero_back : (pc : ℕ) (read : ℕ → Read) (p : PagePointer) → back_from pc read 0 p ≡ pages []
unfolding back_from
zero_back pc read p = refl

-- those that the writer stored
pub back_new : {N : ℕ} {img : List ℕ} {b : Base} {own : ℕ → Owner} {t : Table} {x : StateWriter.Writer} (m : Midst N img b own t x)
    → back_from b.pc (read_at img) x.stored (previous_of x) ≡ pages m.staged.new
unfolding back_from
back_new {N} {img} {b} {own} {t} {x} m =
    subst (λ (n : ℕ). back_from b.pc (read_at img) n (previous_of x) ≡ pages m.staged.new) m.staged.many (by m.staged.new (link_of x.previous) refl m.staged.run)
  where
    by : (l : List ℕ) (k : Link) → link_of x.previous ≡ k → Run (view img) b.pc k x.seq l → back_from b.pc (read_at img) (length l) (previous_of x) ≡ pages l
    by [] k e done = refl
    by (j ∷ l) k e (on {r = r} {k = k'} c v d run) =
        let z = to_page x.previous j e in
        let s = view_data img j v in
        let h : read_at img j ≡ readable x.previous_header = ap (read_at img) (sym z.0) ∙ m.is.stands z.1 in
        let y : s.header ≡ x.previous_header = cc s.reads in
        subst (λ (i : ℕ). back_from b.pc (read_at img) (suc (length l)) (record { page_id = i; header = x.previous_header }) ≡ pages (j ∷ l)) (sym z.0)
        (back_run img b.pc (omega (arith, m.inside, m.small)) l j x.previous_header k' r h
        (ap (λ (u : DataHeader). link_of (get_or u.skiplist 0 0)) (sym y) ∙ s.link) (ap (λ (u : DataHeader). u.seq) (sym y) ∙ s.seq) run)

module _ {D : Type 0} {N : ℕ} {w : World} {b : Base} {own : ℕ → Owner} (g : Good D N w b own) where
  abbrev y : StateWriter.Writer
  y = w.state.writer

  dropped_code : (o : Owner) → (o ≡ writer → ⊥) → code (dropped o) ≡ code o
  dropped_code free n = refl
  dropped_code held n = refl
  dropped_code meta n = refl
  dropped_code writer n = absurd (n refl)
  dropped_code outside n = refl
  dropped_code (file i) n = refl

  staged_dropped : (e : w.state.writer.active ≡ true) (n : w.state.writer.page ≡ none → ⊥) → Keeps D N w (discarded_by w w.state.writer (pages (staged_ok g e n).staged.new))
  staged_dropped e n =
      closed_keeps g _ (λ z. dropped (own z))
      (subst (λ (u : List ℕ). Mapped u N (λ z. dropped (own z))) (sym is)
      (mapped_all 0 (m.staged.new ++ (y.page ∷ [])) (λ z. dropped (own z)) g.sees.owners
      (λ z k. ap (λ (o : Owner). code (dropped o)) (m.staged.written z (turn m.staged.new z k)))
      (λ z k. dropped_code (own z) (λ o. k (turned m.staged.new z (m.staged.all_written z o))))))
      (inv_discard g.inv)
    where
      m : Midst N w.image b own w.table w.state.writer
      m = staged_ok g e n

      turn : (l : List ℕ) (z : ℕ) → Mem z (l ++ (y.page ∷ [])) → Mem z (y.page ∷ l)
      turn l z k = go (ℕ_discrete z y.page)
        where
          go : Dec (z ≡ y.page) → Mem z (y.page ∷ l)
          go (yes e) = rw e here
          go (no n) = there (before l k)
            where
              before : (l : List ℕ) → Mem z (l ++ (y.page ∷ [])) → Mem z l
              before [] k = absurd (mem_nil (mem_tail k n) refl)
              before (a ∷ l) k = by (ℕ_discrete z a) (λ j. before l j)
                where
                  by : Dec (z ≡ a) → (Mem z (l ++ (y.page ∷ [])) → Mem z l) → Mem z (a ∷ l)
                  by (yes e) f = rw e here
                  by (no n) f = there (f (mem_tail k n))

      turned : (l : List ℕ) (z : ℕ) → Mem z (y.page ∷ l) → Mem z (l ++ (y.page ∷ []))
      turned l z k = go (ℕ_discrete z y.page)
        where
          go : Dec (z ≡ y.page) → Mem z (l ++ (y.page ∷ []))
          go (yes e) = mem_right l (rw e here)
          go (no n) = mem_left (y.page ∷ []) (mem_tail k n)

      all_end : (v : ℕ) (l m : List ℕ) (p : ℕ) → set_all v m (l ++ (p ∷ [])) ≡ set (set_all v m l) p v
      all_end v [] m p = refl
      all_end v (a ∷ l) m p = all_end v l (set m a v) p

      is : marked (freed w.map m.staged.new) y.page 0 ≡ set_all 0 w.map (m.staged.new ++ (y.page ∷ []))
      is = rw (ne_eqb y.page none n) (ap (λ (u : List ℕ). set u y.page 0) (freed_is w.map m.staged.new) ∙ sym (all_end 0 m.staged.new w.map y.page))

  -- DISCARD
  pub discard_keeps : Keeps D N w (discard w)
  unfolding discard
  discard_keeps =
      checked_by (Keeps D N w) w false 0 _ _ (λ why. known g)
      (λ h. cond_by (Keeps D N w) w.state.writer.active _ _ (λ e. by e (ℕ_discrete y.page none)) (λ e. known g))
    where
      by : w.state.writer.active ≡ true → Dec (w.state.writer.page ≡ none)
          → Keeps D N w (discarded_by w w.state.writer (back_from w.state.page_count (read_at w.image) w.state.writer.stored (previous_of w.state.writer)))
      by e (no n) =
          let m = staged_ok g e n in
          subst (λ (u : calls.Back). Keeps D N w (discarded_by w w.state.writer u))
          (sym (ap (λ (c : ℕ). back_from c (read_at w.image) w.state.writer.stored (previous_of w.state.writer)) g.sees.pc ∙ back_new m)) (staged_dropped e n)
      by e (yes n) =
          let r = ready_ok g e n in
          subst (λ (u : calls.Back). Keeps D N w (discarded_by w w.state.writer u)) (sym (nothing w.state.writer.stored ((g.sees.wr e).waits n).stored))
          (closed_keeps g _ (λ z. dropped (own z))
          (rw (eq-eqb y.page none n) (mapped_same g.sees.owners (λ z. dropped (own z)) (λ z k. dropped_code (own z) (r.1 z)))) (inv_discard g.inv))
        where
          nothing : (c : ℕ) → c ≡ 0 → back_from w.state.page_count (read_at w.image) c (previous_of w.state.writer) ≡ pages []
          nothing c z = ap (λ (c : ℕ). back_from w.state.page_count (read_at w.image) c (previous_of w.state.writer)) z ∙ zero_back _ _ _
