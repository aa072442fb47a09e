-- The ledger tells the bytes after a write and after a finish. Assumes nothing.
use Rattle.seq.specs.Ids.{none}
use Rattle.seq.specs.Seq as SeqSpecs
use borrow.Author.Tests.{not-true, not-false}
use Rattle.state.specs.World.{World, Outcome, ended}
use Rattle.state.specs.declared.types.Writer as StateWriter
use Rattle.owners.specs.Store as st
use Rattle.owners.specs.Store.{writer}
use Rattle.writer.specs.Staging.{is_staged, staged_header, flush_stores, filled_by, on_page, flushed, space, pages_for, too_few}
use Rattle.writer.specs.Write.{Writing, begun, written_as, write_from, write_in, write, put}
use Rattle.writer.specs.Write as turns
use Rattle.writer.specs.Finish as FinishCalls
use Rattle.writer.specs.Finish.{grown}
use Prim.Native.Nat.{ℕ, zero, suc, ◌+◌, ◌≤◌, ◌<◌}
use mathlib.Core.Path.{◌≡◌, refl, sym, ap, ap₂, subst, ◌∙◌}
use mathlib.Core.Bool.{true, false, cond, not}
use mathlib.Core.List.{List, [], ◌∷◌, ◌++◌, append-nil}
use native.Mathlib.Omega.{arith}
use native.Mathlib.Decide.{ℕ_discrete}
use lib.ListN.{length, take, drop}
use lib.Dec.{ltb, eqb}
use borrow.Author.Tests.{eq-eqb, ne_eqb, eqb-true, eqb-false, ltb-false}
use Rattle.page.specs.declared.DataHeader.{DataHeader}
use Rattle.state.specs.declared.types.FileRecord.{FileRecord}
use Rattle.reached.specs.Ledger.{Noted, Ledger, put_at, with_files, with_draft}
use Rattle.reached.proofs.Drafts.{draft_behind, flush_byte, Drafted}
use Rattle.reached.proofs.Sessions.{write_spelt}
use Rattle.reached.proofs.Tells.{byte_from, Text, Tells, Tale, tale_of, text_frame}
use Rattle.agree.specs.Good.{Waits, Good, Known}
use Rattle.agree.specs.Rules.{Reaches, staged_page}
use Rattle.agree.specs.View.{view, as_file, rec_at}
use Rattle.state.proofs.Laws.{mounted_says, writer_says}
use Rattle.agree.proofs.Counts.{good_mounted}
use Rattle.agree.proofs.Finish.{numbers, grown_file}
use Rattle.agree.proofs.Keeps.{cond_by, checked_by}
use Rattle.agree.proofs.Pages.{clash}
use Rattle.agree.proofs.Records.{file_by, file_at_lem, with_at, with_off}
use Rattle.agree.proofs.Staged.{Midst, flush_header, flush_change, flush_off, staged_ok}
use Rattle.agree.proofs.Writes.{space_none, few_room, ready_first, ready_next, ready_more, Going, page_found, turn}
use Rattle.owners.specs.State.{Base, Mounted, first_of}
use Rattle.owners.specs.Store.{File, live, limit, Owner}
use Rattle.owners.proofs.Finding.{mounted_one}
use Rattle.owners.proofs.Frames.{mounted_change, loose_writer}
use Rattle.page.specs.Page.{readable, Bytes}
use Rattle.page.specs.Store.{ran}
use Rattle.page.proofs.Laws.{ran_append, bytes_drop}
use Rattle.state.specs.Refusals.{on_done, Done}
use Rattle.state.specs.Values.{file_at, with_file, no_writer, opened, with_cursor, with_writer}
use Rattle.chain.specs.Steps.{read_at}
use Rattle.seq.specs.Seq.{below}

-- what the ledger says of the files' pages of an image
pub record Pages (N : ℕ) (img : List ℕ) (count : ℕ) (tab : ℕ → File) (g : Ledger) : Type 0 where
  pub files : (i : ℕ) → i < 8 → Text img count (tab i) (g.files i)
  pub base : (b : Base) → Mounted N (view img) b → (i : ℕ) → i < 8 → Text img b.pc (b.tab i) (g.committed i)

-- the staged page is stored
pub flush_pages : {D : Type 0} {N : ℕ} {v : World} {b : Base} {own : ℕ → Owner} (k : Good D N v b own) (e : v.state.writer.active ≡ true) (n : v.state.writer.page ≡ none → ⊥) (g : Ledger)
    → Pages N v.image b.pc (λ i. as_file (rec_at v.table i)) g → Pages N (ran v.image (flush_stores v.state.writer)) b.pc (λ i. as_file (rec_at v.table i)) g
flush_pages {N = N} {v = v} {b = b} {own = own} k e n g p =
    record {
      files = λ i h. text_frame v.image img' (g.files i) (k.inv.files i) (λ x o. flush_off m x (λ z. let u : writer ≡ st.file i = sym m.staged.staged ∙ ap own (sym z) ∙ o in clash cc)) (p.files i h);
      base = λ b₂ M i h.
          let M₁ = mounted_change (flush_change m) tt (loose_writer k.inv m.staged.staged) k.inv.mounted in
          let s = mounted_one M₁ M in
          subst (λ (c : ℕ). Text img' c (b₂.tab i) (g.committed i)) s.pc (subst (λ (f : File). Text img' b.pc f (g.committed i)) (s.tab i)
          (text_frame v.image img' (g.committed i) (k.inv.mounted.files i) (λ x o. flush_off m x (λ z. (loose_writer k.inv m.staged.staged).no_file i (ap b.own (sym z) ∙ o))) (p.base b k.inv.mounted i h)));
    }
  where
    m : Midst N v.image b own v.table v.state.writer
    m = staged_ok k e n

    img' : List ℕ
    img' = ran v.image (flush_stores v.state.writer)

-- ---- WRITE

abbrev Paged : ℕ → World → Writing → Ledger → Type 0
Paged N w x g = Pages N (ran w.image x.stores) w.state.page_count (λ i. as_file (rec_at w.table i)) g

turn_paged : {N : ℕ} {w : World} {x : Writing} (c : ℕ) (l : List ℕ) (bs : Bytes (c ∷ l)) (k : Going (Unit {0}) N w (suc (length l)) x) (g : Ledger) → Paged N w x g → Paged N w (turns.ready w.state.page_count x) g
unfolding with_writer with_cursor
turn_paged {N} {w} {x} c l bs k g p = by (ℕ_discrete x.writer.page none) (ℕ_discrete (space x.writer) 0)
  where
    by : Dec (x.writer.page ≡ none) → Dec (space x.writer ≡ 0) → Paged N w (turns.ready w.state.page_count x) g
    by (yes n) e = let s = page_found c l bs k (space_none x.writer n) in subst (λ (v : Writing). Paged N w v g) (sym (ready_first w.state.page_count x n s.page s.is)) p
    by (no n) (yes e) =
        let s = page_found c l bs k e in
        let G = k.known.good in
        let pc_is : w.state.page_count ≡ k.known.base.pc = G.sees.pc in
        let q = flush_pages G k.active n g (subst (λ (j : ℕ). Pages N (ran w.image x.stores) j (λ i. as_file (rec_at w.table i)) g) pc_is p) in
        subst (λ (v : Writing). Paged N w v g) (sym (ready_next w.state.page_count x n e s.page s.is))
        (subst (λ (i : List ℕ). Pages N i w.state.page_count (λ i. as_file (rec_at w.table i)) g) (sym (ran_append w.image x.stores (flush_stores x.writer)))
        (subst (λ (j : ℕ). Pages N (ran (ran w.image x.stores) (flush_stores x.writer)) j (λ i. as_file (rec_at w.table i)) g) (sym pc_is) q))
    by (no n) (no e) = subst (λ (v : Writing). Paged N w v g) (sym (ready_more w.state.page_count x e)) p

write_paged : {N : ℕ} {w : World} (k : ℕ) (l : List ℕ) (x : Writing) (g : Ledger) → Bytes l → Going (Unit {0}) N w (length l) x → Paged N w x g → Paged N w (write_from w.state.page_count k l x) g
unfolding write_from
write_paged zero l x g bs j p = p
write_paged (suc k) [] x g bs j p = p
write_paged {N} {w} (suc k) (c ∷ l) x g bs j p =
    let y = turns.ready w.state.page_count x in
    write_paged k (drop (space y.writer) (c ∷ l)) (put y (take (space y.writer) (c ∷ l))) g (bytes_drop (space y.writer) (c ∷ l) bs) (turn c l bs j) (turn_paged c l bs j g p)

file_stays : {N : ℕ} {w : World} (k : ℕ) (l : List ℕ) (x : Writing) → Bytes l → Going (Unit {0}) N w (length l) x → (write_from w.state.page_count k l x).writer.file ≡ x.writer.file
unfolding write_from filled_by on_page flushed
file_stays zero l x bs j = refl
file_stays (suc k) [] x bs j = refl
file_stays {N} {w} (suc k) (c ∷ l) x bs j =
    let y = turns.ready w.state.page_count x in
    file_stays k (drop (space y.writer) (c ∷ l)) (put y (take (space y.writer) (c ∷ l))) (bytes_drop (space y.writer) (c ∷ l) bs) (turn c l bs j) ∙ by (ℕ_discrete x.writer.page none) (ℕ_discrete (space x.writer) 0)
  where
    by : Dec (x.writer.page ≡ none) → Dec (space x.writer ≡ 0) → (turns.ready w.state.page_count x).writer.file ≡ x.writer.file
    by (yes n) e = let s = page_found c l bs j (space_none x.writer n) in ap (λ (v : Writing). v.writer.file) (ready_first w.state.page_count x n s.page s.is)
    by (no n) (yes e) = let s = page_found c l bs j e in ap (λ (v : Writing). v.writer.file) (ready_next w.state.page_count x n e s.page s.is)
    by (no n) (no e) = ap (λ (v : Writing). v.writer.file) (ready_more w.state.page_count x e)

-- a call that succeeds notes g', one that is refused g
abbrev pub Notes : ℕ → World → Ledger → Ledger → Outcome Done → Type 0
Notes N w g g' o = Tells N (ended w o).world (on_done o.answer (λ why. g) g')

pub write_notes : {N : ℕ} {w : World} (k : Known (Unit {0}) N w) (g : Ledger) (l : List ℕ) → Bytes l → Tells N w g → Notes N w g (with_draft g g.opened (g.draft ++ l)) (write w l)
unfolding write write_in with_writer with_cursor
write_notes {N} {w} k g l bs t =
    checked_by (Notes N w g (with_draft g g.opened (g.draft ++ l))) w false 0 _ _ (λ why. t)
    (λ h. cond_by (Notes N w g (with_draft g g.opened (g.draft ++ l))) (eqb (length l) 0) _ _ (λ e. nothing_more (eqb-true (length l) 0 e))
    (λ z. cond_by (Notes N w g (with_draft g g.opened (g.draft ++ l))) (not w.state.writer.active) _ _ (λ e. t)
    (λ e. cond_by (Notes N w g (with_draft g g.opened (g.draft ++ l))) (ltb SeqSpecs.limit (w.state.writer.seq + w.state.writer.length + length l)) _ _ (λ h. t)
    (λ h. cond_by (Notes N w g (with_draft g g.opened (g.draft ++ l))) (too_few w.map w.state.page_count (pages_for (space w.state.writer) (length l))) _ _ (λ h. t)
    (λ u. added (not-false w.state.writer.active e)
    (record {
      known = k;
      active = not-false w.state.writer.active e;
      room = few_room w.map w.state.page_count (pages_for (space w.state.writer) (length l)) u;
      fits = ltb-false SeqSpecs.limit (w.state.writer.seq + w.state.writer.length + length l) h;
    }))))))
  where
    none_left : (l : List ℕ) → length l ≡ 0 → l ≡ []
    none_left [] e = refl
    none_left (y ∷ l) e = absurd (omega arith)

    nothing_more : length l ≡ 0 → Tells N w (with_draft g g.opened (g.draft ++ l))
    nothing_more e = subst (λ (y : List ℕ). Tells N w (with_draft g g.opened y)) (sym (ap (λ (y : List ℕ). g.draft ++ y) (none_left l e) ∙ append-nil g.draft)) t

    added : w.state.writer.active ≡ true → Going (Unit {0}) N w (length l) (begun w) → Tells N (ended w (written_as w (write_from w.state.page_count (length l) l (begun w)))).world (with_draft g g.opened (g.draft ++ l))
    added e j =
        let x = write_from w.state.page_count (length l) l (begun w) in
        let p = write_paged (length l) l (begun w) g bs j (record { files = t.files; base = t.base }) in
        record {
          files = p.files;
          base = p.base;
          draft = λ on. write_spelt {w = w} (length l) l (begun w) g.draft bs (omega arith) j (t.draft e);
          whose = λ on. t.whose e ∙ sym (file_stays {w = w} (length l) l (begun w) bs j);
        }

-- ---- FINISH

-- what a finish makes of the file that the writer was opened on
abbrev drafted : Ledger → ℕ → Noted
drafted g i = record { first = (g.files i).first; bytes = g.draft }

abbrev finished_as : Ledger → ℕ → Ledger
finished_as g i = with_files g (put_at g.files i (drafted g i))

pub finish_notes : {N : ℕ} {w : World} (k : Known (Unit {0}) N w) (g : Ledger) → Tells N w g → Notes N w g (with_files g (put_at g.files g.opened (record { first = (g.files g.opened).first; bytes = g.draft }))) (FinishCalls.finish w)
unfolding FinishCalls.finish FinishCalls.finished with_writer opened no_writer
finish_notes {N} {w} k g t =
    checked_by (Notes N w g (finished_as g g.opened)) w false 0 _ _ (λ why. t)
    (λ h. cond_by (Notes N w g (finished_as g g.opened)) w.state.writer.active _ _
    (λ e. subst (λ (i : ℕ). Notes N w g (finished_as g i) (cond (is_staged w.state.writer) (FinishCalls.finished w w.state.writer) (FinishCalls.shut w))) (sym (t.whose e))
    (cond_by (Notes N w g (finished_as g w.state.writer.file)) (is_staged w.state.writer) _ _
    (λ s. stored e (eqb-false w.state.writer.page none (not-true (eqb w.state.writer.page none) s)))
    (λ s. closed_same e (eqb-true w.state.writer.page none (not-false (eqb w.state.writer.page none) s)))))
    (λ e. t))
  where
    x : StateWriter.Writer
    x = w.state.writer

    pc_is : w.state.page_count ≡ k.base.pc
    pc_is = k.good.sees.pc

    f : FileRecord
    f = rec_at w.table w.state.writer.file

    first_is : first_of (as_file (rec_at w.table w.state.writer.file)) ≡ (rec_at w.table w.state.writer.file).first_seq
    first_is = (numbers w.image (rec_at w.table w.state.writer.file) (k.good.sees.recs w.state.writer.file)).0

    tale : w.state.writer.active ≡ true → Tale w.image w.state.page_count (rec_at w.table w.state.writer.file) (g.files w.state.writer.file)
    tale e =
        let o = writer_says w.state.page_count w.state.writer (mounted_says w.state (good_mounted k.good)).writer e in
        tale_of w.image w.state.page_count f (g.files w.state.writer.file) (k.good.sees.recs w.state.writer.file) (t.files w.state.writer.file (omega (arith, o.file)))

    stored : w.state.writer.active ≡ true → (w.state.writer.page ≡ none → ⊥) → Tells N (ended w (FinishCalls.finished w w.state.writer)).world (finished_as g w.state.writer.file)
    stored e n =
        record {
          files = λ i h. subst (λ (j : ℕ). Text img' j (as_file (rec_at (with_file w.table w.state.writer.file f') i)) (put_at g.files w.state.writer.file (drafted g w.state.writer.file) i)) (sym pc_is) (each i h (ℕ_discrete i w.state.writer.file));
          base = p.base;
          draft = λ on. clash cc;
          whose = λ on. clash cc;
        }
      where
        img' : List ℕ
        img' = ran w.image (flush_stores w.state.writer)

        m : Midst N w.image k.base k.own w.table w.state.writer
        m = staged_ok k.good e n

        f' : FileRecord
        f' = grown (file_at w.table w.state.writer.file) w.state.writer

        l : w.state.writer.file < length w.table.files
        l = omega (arith, m.staged.below, k.good.sees.eight)

        p : Pages N (ran w.image (flush_stores w.state.writer)) k.base.pc (λ i. as_file (rec_at w.table i)) g
        p = flush_pages k.good e n g (record { files = λ i h. subst (λ (j : ℕ). Text w.image j (as_file (rec_at w.table i)) (g.files i)) pc_is (t.files i h); base = t.base })

        d : Drafted w.image k.base.pc (first_of (as_file (rec_at w.table w.state.writer.file))) w.state.writer g.draft
        d = subst (λ (j : ℕ). Drafted w.image j (first_of (as_file (rec_at w.table w.state.writer.file))) w.state.writer g.draft) pc_is (t.draft e)

        r : Reaches w.image k.base.pc (first_of (as_file (rec_at w.table w.state.writer.file))) (staged_page w.state.writer)
        r = subst (λ (j : ℕ). Reaches w.image k.base.pc j (staged_page w.state.writer)) (sym first_is) (((k.good.rules tt).wr e).chain n)

        new : Text (ran w.image (flush_stores w.state.writer)) k.base.pc (live w.state.writer.page (file_at w.table w.state.writer.file).first_seq (w.state.writer.seq + w.state.writer.length) (file_at w.table w.state.writer.file).flags) (drafted g w.state.writer.file)
        new =
            record {
              size = d.size;
              starts = (tale e).starts ∙ ap (λ (q : FileRecord). q.first_seq) (sym (file_at_lem w.table w.state.writer.file l));
              is = λ h s n low high.
                  let z : readable h ≡ readable (staged_header w.state.writer) = sym s ∙ flush_header m in
                  let y : h ≡ staged_header w.state.writer = cc in
                  let low' : first_of (as_file (rec_at w.table w.state.writer.file)) ≤ n = subst (λ (j : ℕ). j ≤ n) (ap (λ (q : FileRecord). q.first_seq) (file_at_lem w.table w.state.writer.file l) ∙ sym first_is) low in
                  ap (λ (q : DataHeader). byte_from img' k.base.pc (record { page_id = w.state.writer.page; header = q }) n) y ∙ flush_byte m r n low' high ∙ d.is n low' high;
            }

        each : (i : ℕ) → i < 8 → Dec (i ≡ w.state.writer.file)
            → Text (ran w.image (flush_stores w.state.writer)) k.base.pc (as_file (rec_at (with_file w.table w.state.writer.file (grown (file_at w.table w.state.writer.file) w.state.writer)) i)) (put_at g.files w.state.writer.file (drafted g w.state.writer.file) i)
        each i h (yes z) =
            rw (eq-eqb i w.state.writer.file z)
            (subst (λ (q : File). Text img' k.base.pc q (drafted g w.state.writer.file))
            (sym (ap as_file (ap (rec_at (with_file w.table w.state.writer.file f')) z ∙ with_at w.table w.state.writer.file f' l) ∙ grown_file (file_at w.table w.state.writer.file) w.state.writer n)) new)
        each i h (no z) =
            rw (ne_eqb i w.state.writer.file z)
            (subst (λ (q : FileRecord). Text img' k.base.pc (as_file q) (g.files i)) (sym (with_off w.table w.state.writer.file f' l i z)) (p.files i h))

    closed_same : w.state.writer.active ≡ true → w.state.writer.page ≡ none → Tells N (ended w (FinishCalls.shut w)).world (finished_as g w.state.writer.file)
    closed_same e n =
        record {
          files = λ i h. each i h (ℕ_discrete i w.state.writer.file);
          base = t.base;
          draft = λ on. clash cc;
          whose = λ on. clash cc;
        }
      where
        q : Waits (rec_at w.table w.state.writer.file) w.state.writer
        q = (k.good.sees.wr e).waits n

        d : Drafted w.image w.state.page_count (first_of (as_file (rec_at w.table w.state.writer.file))) w.state.writer g.draft
        d = t.draft e

        new : Text w.image w.state.page_count (as_file (rec_at w.table w.state.writer.file)) (drafted g w.state.writer.file)
        new =
            let ok = k.good.sees.recs w.state.writer.file in
            file_by (rec_at w.table w.state.writer.file)
            (λ z y. subst (λ (a : File). Text w.image w.state.page_count a (drafted g w.state.writer.file)) (sym y)
            (record { size = omega (arith, d.size, q.seq, q.length, (ok.empty z).last); starts = (tale e).starts ∙ (ok.empty z).first }))
            (λ z y. subst (λ (a : File). Text w.image w.state.page_count a (drafted g w.state.writer.file)) (sym y)
            (record {
              size = omega (arith, d.size, q.seq, q.length);
              starts = (tale e).starts;
              is = λ h s n low high.
                  let some : w.state.writer.previous ≡ none → ⊥ = λ j. z (sym q.previous ∙ j) in
                  let v : readable w.state.writer.previous_header ≡ readable h = sym ((k.good.sees.wr e).stands some) ∙ ap (read_at w.image) q.previous ∙ s in
                  let u : w.state.writer.previous_header ≡ h = cc in
                  let low' = subst (λ (j : ℕ). j ≤ n) (sym first_is) low in
                  let before : n < w.state.writer.seq = omega (arith, q.seq) in
                  ap₂ (λ (a : ℕ) (c : DataHeader). byte_from w.image w.state.page_count (record { page_id = a; header = c }) n) (sym q.previous) (sym u)
                  ∙ sym (draft_behind w.image w.state.page_count w.state.writer n before) ∙ d.is n low' (omega (arith, q.length));
            }))

        each : (i : ℕ) → i < 8 → Dec (i ≡ w.state.writer.file) → Text w.image w.state.page_count (as_file (rec_at w.table i)) (put_at g.files w.state.writer.file (drafted g w.state.writer.file) i)
        each i h (yes z) = rw (eq-eqb i w.state.writer.file z) (subst (λ (j : ℕ). Text w.image w.state.page_count (as_file (rec_at w.table j)) (drafted g w.state.writer.file)) (sym z) new)
        each i h (no z) = rw (ne_eqb i w.state.writer.file z) (t.files i h)
