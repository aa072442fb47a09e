-- Writing keeps the invariant: each turn stages a page, stores a full one and stages the next, or goes on with the staged one.
-- Assumes nothing.
use Rattle.std.specs.Prelude.{Some}
use Rattle.seq.specs.Ids.{none}
use Rattle.state.specs.declared.types.Writer as StateWriter
use Rattle.state.specs.World.{World}
use Rattle.map.specs.Map.{alloc_of, beyond}
use Rattle.map.proofs.Laws.{beyond_inside}
use Rattle.writer.specs.Staging.{staged_header, staged_links, previous_of, flush_stores, flushed, on_page, filled_by}
use Rattle.owners.specs.Store as st
use Rattle.chain.specs.Links.{links_after}
use native.Mathlib.Numerals.{add-one}
use Prim.Native.Nat.{ℕ, ◌+◌, ◌≤◌, ◌<◌}
use mathlib.Core.Path.{◌≡◌, refl, sym, ap, ap₂, subst, ◌∙◌}
use mathlib.Core.Bool.{Bool, true, false, cond}
use mathlib.Core.List.{List}
use native.Mathlib.Omega.{arith}
use native.Mathlib.Nat.{zero-add}
use lib.ListN.{length, set}
use borrow.Author.Tests.{ne_eqb}
use Rattle.page.specs.declared.DataHeader.{DataHeader}
use Rattle.state.specs.declared.types.FileRecord.{FileRecord}
use Rattle.agree.specs.Good.{WriterIs, Good, Known}
use Rattle.agree.specs.Rules.{Reaches, staged_page, WriterRuled}
use Rattle.agree.specs.View.{as_file, rec_at, as_writer}
use Rattle.agree.proofs.Seen.{sees_on}
use Rattle.agree.proofs.Finish.{numbers}
use Rattle.agree.proofs.Keeps.{writer_ready, writer_staged}
use Rattle.agree.proofs.Maps.{alloc_free, mapped_give}
use Rattle.agree.proofs.Open.{placed_length, placed_bytes, writer_keeps}
use Rattle.agree.proofs.Records.{link_none, link_some, file_by, file_ranges, file_end, now_is, inv_is}
use Rattle.agree.proofs.Ruling.{reaches_copy, record_chain, reaches_next, reaches_alone}
use Rattle.agree.proofs.Staged.{flush_bytes, flush_header, flush_change, flush_record, files_flushed, base_flushed, chain_next, last_own, staged_ok}
use Rattle.owners.specs.Moves.{give}
use Rattle.owners.specs.State.{link_of, Base, staging, last_of, end_of}
use Rattle.owners.specs.Store.{Link, to, limit, Owner, free, writer, file}
use Rattle.owners.proofs.Frames.{loose_writer}
use Rattle.owners.proofs.Writing.{inv_stage, inv_grow, inv_next}
use Rattle.page.specs.Page.{page_of, readable, Bytes}
use Rattle.page.specs.Store.{ran}
use Rattle.page.proofs.Headers.{header_written}
use Rattle.page.proofs.Laws.{ran_length, bytes_page}
use Rattle.state.specs.Values.{with_cursor, with_writer}
use Rattle.chain.specs.Steps.{read_at}

-- ---- the writers of a turn

next_is : (x : StateWriter.Writer) (p : ℕ) (l : List ℕ) → x.active ≡ true → (p ≡ none → ⊥)
    → as_writer (filled_by (on_page x p) l) ≡ staging x.file (link_of x.previous) x.seq p (0 + length l) (link_of x.copied) x.stored
unfolding filled_by on_page
next_is x p l e n = writer_staged (filled_by (on_page x p) l) e n

grown_is : (x : StateWriter.Writer) (l : List ℕ) → x.active ≡ true → (x.page ≡ none → ⊥)
    → as_writer (filled_by x l) ≡ staging x.file (link_of x.previous) x.seq x.page (x.length + length l) (link_of x.copied) x.stored
unfolding filled_by
grown_is x l e n = writer_staged (filled_by x l) e n

flushed_is : (x : StateWriter.Writer) (p : ℕ) (l : List ℕ) → x.active ≡ true → (p ≡ none → ⊥)
    → as_writer (filled_by (on_page (flushed x) p) l) ≡ staging x.file (link_of x.page) (x.seq + x.length) p (0 + length l) (link_of x.copied) (x.stored + 1)
unfolding filled_by on_page flushed
flushed_is x p l e n = writer_staged (filled_by (on_page (flushed x) p) l) e n

module _ (img img' : List ℕ) (f f' : FileRecord) (x : StateWriter.Writer) (l : List ℕ) (bs : Bytes l) (k : WriterIs img f x) where
  grown_sound : (x.page ≡ none → ⊥) → WriterIs img f' (filled_by x l)
  unfolding filled_by
  grown_sound n =
      record {
        boundary = k.boundary;
        size = placed_length x.staged x.length l ∙ k.size;
        bytes = placed_bytes x.staged x.length l k.bytes bs;
        stands = k.stands;
        waits = λ z. absurd (n z);
      }

  next_sound : (p : ℕ) → (p ≡ none → ⊥) → WriterIs img f' (filled_by (on_page x p) l)
  unfolding filled_by on_page
  next_sound p n =
      record {
        boundary = k.boundary;
        size = placed_length x.staged 0 l ∙ k.size;
        bytes = placed_bytes x.staged 0 l k.bytes bs;
        stands = k.stands;
        waits = λ z. absurd (n z);
      }

  flushed_sound : (p : ℕ) → (p ≡ none → ⊥) → read_at img' x.page ≡ readable (staged_header x) → WriterIs img' f' (filled_by (on_page (flushed x) p) l)
  unfolding filled_by on_page flushed
  flushed_sound p n h =
      record {
        boundary = by x.ended;
        size = placed_length x.staged 0 l ∙ k.size;
        bytes = placed_bytes x.staged 0 l k.bytes bs;
        stands = λ z. h;
        waits = λ z. absurd (n z);
      }
    where
      by : (c : Bool) → cond c 0 none < 65536
      by true = omega arith
      by false = omega arith

module _ (x : StateWriter.Writer) (l : List ℕ) where
  grown_file : (filled_by x l).file ≡ x.file
  unfolding filled_by
  grown_file = refl

  next_file : (p : ℕ) → (filled_by (on_page x p) l).file ≡ x.file
  unfolding filled_by on_page
  next_file p = refl

  flushed_file : (p : ℕ) → (filled_by (on_page (flushed x) p) l).file ≡ x.file
  unfolding filled_by on_page flushed
  flushed_file p = refl

-- ---- the link rule over the staged pages of a turn

grown_seq : (x : StateWriter.Writer) (l : List ℕ) → (staged_header (filled_by x l)).seq ≡ (staged_header x).seq
unfolding staged_header filled_by
grown_seq x l = refl

grown_links : (x : StateWriter.Writer) (l : List ℕ) → (staged_header (filled_by x l)).skiplist ≡ (staged_header x).skiplist
unfolding staged_header staged_links filled_by
grown_links x l = refl

grown_ruled : (img : List ℕ) (pc : ℕ) (f : FileRecord) (x : StateWriter.Writer) (l : List ℕ) → (x.page ≡ none → ⊥) → WriterRuled img pc f x → WriterRuled img pc f (filled_by x l)
unfolding filled_by
grown_ruled img pc f x l n r = record { full = λ z. absurd (n z); chain = λ z. reaches_copy (staged_page (filled_by x l)) (grown_seq x l) (grown_links x l) (r.chain n) }

next_seq : (x : StateWriter.Writer) (p : ℕ) (l : List ℕ) → (staged_header (filled_by (on_page x p) l)).seq ≡ x.seq
unfolding staged_header filled_by on_page
next_seq x p l = refl

next_links : (x : StateWriter.Writer) (p : ℕ) (l : List ℕ) → (x.previous ≡ none → ⊥) → (staged_header (filled_by (on_page x p) l)).skiplist ≡ links_after (previous_of x) x.seq
unfolding staged_header staged_links filled_by on_page
next_links x p l n = rw (ne_eqb x.previous none n)

next_ruled : (img : List ℕ) (pc : ℕ) (f : FileRecord) (x : StateWriter.Writer) (p : ℕ) (l : List ℕ) → (p ≡ none → ⊥) → Reaches img pc f.first_seq (staged_page (filled_by (on_page x p) l)) → WriterRuled img pc f (filled_by (on_page x p) l)
unfolding filled_by on_page
next_ruled img pc f x p l n r = record { full = λ z. absurd (n z); chain = λ z. r }

flushed_seq : (x : StateWriter.Writer) (p : ℕ) (l : List ℕ) → (staged_header (filled_by (on_page (flushed x) p) l)).seq ≡ x.seq + x.length
unfolding staged_header filled_by on_page flushed
flushed_seq x p l = refl

flushed_links : (x : StateWriter.Writer) (p : ℕ) (l : List ℕ) → (x.page ≡ none → ⊥) → (staged_header (filled_by (on_page (flushed x) p) l)).skiplist ≡ links_after (staged_page x) (staged_header (filled_by (on_page (flushed x) p) l)).seq
unfolding staged_header staged_links filled_by on_page flushed
flushed_links x p l n = rw (ne_eqb x.page none n)

flushed_ruled : (img : List ℕ) (pc : ℕ) (f : FileRecord) (x : StateWriter.Writer) (p : ℕ) (l : List ℕ) → (p ≡ none → ⊥) → Reaches img pc f.first_seq (staged_page (filled_by (on_page (flushed x) p) l)) → WriterRuled img pc f (filled_by (on_page (flushed x) p) l)
unfolding filled_by on_page flushed
flushed_ruled img pc f x p l n r = record { full = λ z. absurd (n z); chain = λ z. r }

-- ---- one turn

module _ {D : Type 0} {N : ℕ} {w : World} {b : Base} {own : ℕ → Owner} (g : Good D N w b own) (e : w.state.writer.active ≡ true) (l : List ℕ) (bs : Bytes l) (low : 1 ≤ length l) where
  abbrev x : StateWriter.Writer
  x = w.state.writer

  abbrev rec : ℕ → FileRecord
  rec i = rec_at w.table i

  -- bytes more on the staged page
  pub grow_keeps : (n : w.state.writer.page ≡ none → ⊥) → w.state.writer.length + length l ≤ 224 → w.state.writer.seq + (w.state.writer.length + length l) ≤ st.limit
      → Known D N (record { image = w.image; map = w.map; table = w.table; state = with_writer (with_cursor w.state w.state.cursor) (filled_by w.state.writer l) })
  grow_keeps n h lim =
      writer_keeps g w.map own w.state.cursor (filled_by x l) g.sees.owners g.sees.cursor
      (λ y. subst (λ (j : ℕ). WriterIs w.image (rec j) (filled_by x l)) (sym (grown_file x l)) (grown_sound w.image w.image (rec x.file) (rec x.file) x l bs (g.sees.wr e) n))
      (inv_is (now_is (λ j. refl) (λ z. refl) (λ j. refl) refl (sym (grown_is x l e n)))
      (inv_grow (x.length + length l) g.inv (writer_staged x e n) (omega arith) h lim))
      (λ d y. subst (λ (j : ℕ). WriterRuled w.image b.pc (rec j) (filled_by x l)) (sym (grown_file x l)) (grown_ruled w.image b.pc (rec x.file) x l n ((g.rules d).wr e)))

  -- the first page
  module _ (p : ℕ) (z : alloc_of w.map w.state.page_count w.state.cursor ≡ Some p) (short : length l ≤ 224) where
    found : (own p ≡ free) × (p < w.state.page_count) × (p < N)
    found = alloc_free g.sees.owners w.state.page_count w.state.cursor p (omega (arith, g.sees.cursor, g.sees.pc)) z

    some : p ≡ none → ⊥
    some y = omega (arith, found.2, g.sees.small)

    beyond_in : beyond w.state.page_count p < b.pc
    beyond_in = omega (arith, beyond_inside w.state.page_count p (omega (arith, found.1)), g.sees.pc)

    pub stage_keeps : w.state.writer.page ≡ none → w.state.writer.seq + length l ≤ st.limit
        → Known D N (record { image = w.image; map = set w.map p 1; table = w.table; state = with_writer (with_cursor w.state (beyond w.state.page_count p)) (filled_by (on_page w.state.writer p) l) })
    stage_keeps n lim =
        let k = g.sees.wr e in
        let q = k.waits n in
        let u = numbers w.image (rec x.file) (g.sees.recs x.file) in
        let seq_is : end_of (as_file (rec x.file)) ≡ x.seq = u.2 ∙ sym q.seq in
        writer_keeps g (set w.map p 1) (give own p writer) (beyond w.state.page_count p) (filled_by (on_page x p) l) (mapped_give g.sees.owners p 1 writer found.2 refl) beyond_in
        (λ y. subst (λ (j : ℕ). WriterIs w.image (rec j) (filled_by (on_page x p) l)) (sym (next_file x l p)) (next_sound w.image w.image (rec x.file) (rec x.file) x l bs k p some))
        (inv_is (now_is (λ j. refl) (λ z. refl) (λ j. refl) refl
        (sym (next_is x p l e some
        ∙ ap (λ (k : Link). staging x.file k x.seq p (0 + length l) (link_of x.copied) x.stored) (ap link_of q.previous ∙ sym u.3)
        ∙ ap (λ (k : ℕ). staging x.file (last_of (as_file (rec x.file))) k p (0 + length l) (link_of x.copied) x.stored) (sym seq_is)
        ∙ ap (λ (k : ℕ). staging x.file (last_of (as_file (rec x.file))) (end_of (as_file (rec x.file))) p k (link_of x.copied) x.stored) (zero-add (length l))
        ∙ ap₂ (λ (k : Link) (c : ℕ). staging x.file (last_of (as_file (rec x.file))) (end_of (as_file (rec x.file))) p (length l) k c) (link_none x.copied q.copied) q.stored)))
        (inv_stage x.file p (length l) g.inv (writer_ready x e n) found.0 (low, short) (omega arith)))
        (λ d y. subst (λ (j : ℕ). WriterRuled w.image b.pc (rec j) (filled_by (on_page x p) l)) (sym (next_file x l p)) (next_ruled w.image b.pc (rec x.file) x p l some (first_chain d)))
      where
        r : FileRecord
        r = rec x.file

        first_chain : D → Reaches w.image b.pc (rec x.file).first_seq (staged_page (filled_by (on_page x p) l))
        first_chain d =
            let q = (g.sees.wr e).waits n in
            file_by (rec x.file)
            (λ z y. let k = (g.sees.recs x.file).empty z in
            reaches_alone (staged_page (filled_by (on_page x p) l)) (subst (λ (j : ℕ). j ≤ (rec x.file).first_seq) (sym (next_seq x p l ∙ q.seq ∙ k.last)) (omega arith)))
            (λ z y.
            let u = file_ranges (rec x.file) y (g.inv.files x.file).ok in
            let s = (g.sees.recs x.file).stands z in
            let v = header_written (page_of w.image (rec x.file).last_page) (bytes_page w.image (rec x.file).last_page g.sees.bytes) (rec x.file).header s in
            let k : x.previous ≡ none → ⊥ = λ j. z (sym q.previous ∙ j) in
            let h : readable x.previous_header ≡ readable (rec x.file).header = sym ((g.sees.wr e).stands k) ∙ ap (read_at w.image) q.previous ∙ s in
            let h' : x.previous_header ≡ (rec x.file).header = cc in
            reaches_next (staged_page (filled_by (on_page x p) l)) (record_chain (rec x.file) (g.sees.recs x.file) z ((g.rules d).now x.file)) s u.inside (omega (arith, g.inv.mounted.pc_in, g.sees.small))
            (((g.rules d).wr e).full n z) (file_end w.image (rec x.file) y (g.inv.files x.file).ok s ∙ sym (next_seq x p l ∙ q.seq)) v.nine
            (next_links x p l k ∙ ap₂ (λ (j : ℕ) (a : DataHeader). links_after (record { page_id = j; header = a }) x.seq) q.previous h'
            ∙ ap (links_after (record { page_id = (rec x.file).last_page; header = (rec x.file).header })) (sym (next_seq x p l))))

    -- the full page stored, and the next one
    pub next_keeps : (n : w.state.writer.page ≡ none → ⊥) → w.state.writer.length ≡ 224 → w.state.writer.seq + w.state.writer.length + length l ≤ st.limit
        → Known D N (record { image = ran w.image (flush_stores w.state.writer); map = set w.map p 1; table = w.table; state = with_writer (with_cursor w.state (beyond w.state.page_count p)) (filled_by (on_page (flushed w.state.writer) p) l) })
    unfolding with_writer with_cursor
    next_keeps n full lim =
        let s = g.sees in
        let m = staged_ok g e n in
        let img' = ran w.image (flush_stores x) in
        record {
          base = b;
          own = give own p writer;
          good =
              record {
                sees =
                    sees_on s _ _ (refl, refl, refl) (ran_length w.image (flush_stores x), refl, refl, refl, refl, refl) (flush_bytes m) beyond_in
                    s.search (mapped_give s.owners p 1 writer found.2 refl) s.eight
                    (λ j. flush_record m (rec j) j (last_own (rec j) (g.inv.files j)) (s.recs j))
                    (λ y. subst (λ (j : ℕ). WriterIs img' (rec j) (filled_by (on_page (flushed x) p) l)) (sym (flushed_file x l p))
                    (flushed_sound w.image img' (rec x.file) (rec x.file) x l bs (s.wr e) p some (flush_header m)));
                inv =
                    inv_is (now_is (λ j. refl) (λ z. refl) (λ j. refl) refl
                    (sym (flushed_is x p l e some
                    ∙ ap (λ (k : Link). staging x.file k (x.seq + x.length) p (0 + length l) (link_of x.copied) (x.stored + 1)) (link_some x.page n)
                    ∙ ap₂ (λ (a c : ℕ). staging x.file (to x.page) (x.seq + x.length) p a (link_of x.copied) c) (zero-add (length l)) (add-one x.stored))))
                    (inv_next p (length l) g.inv (writer_staged x e n) (flush_change m) found.0 (low, short) lim);
                rules = λ d. record {
                  now = λ j. files_flushed m (g.inv.files j) ((g.rules d).now j);
                  base = λ j. base_flushed m b.own ((loose_writer g.inv m.staged.staged).no_file j) (g.inv.mounted.files j) ((g.rules d).base j);
                  wr = λ y. subst (λ (j : ℕ). WriterRuled img' b.pc (rec j) (filled_by (on_page (flushed x) p) l)) (sym (flushed_file x l p))
                      (flushed_ruled img' b.pc (rec x.file) x p l some
                      (let z = (numbers w.image (rec x.file) (s.recs x.file)).0 in
                      subst (λ (k : ℕ). Reaches img' b.pc k (staged_page (filled_by (on_page (flushed x) p) l))) z
                      (chain_next m (staged_page (filled_by (on_page (flushed x) p) l)) full (flushed_seq x p l) (flushed_links x p l n)
                      (subst (λ (k : ℕ). Reaches w.image b.pc k (staged_page x)) (sym z) (((g.rules d).wr e).chain n)))));
                };
              };
        }
