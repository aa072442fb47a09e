-- Opening a writer keeps the invariant. Assumes nothing.
use Rattle.std.specs.Prelude.{Option, Some, None}
use Rattle.seq.specs.Ids.{none}
use Rattle.seq.specs.Seq as SeqSpecs
use Rattle.state.specs.declared.types.Writer as StateWriter
use Rattle.state.specs.World.{World}
use Rattle.runs.specs.Runs.{part, placed, splice}
use Rattle.runs.proofs.Laws.{length_splice}
use Rattle.map.specs.Map.{alloc_of, beyond}
use Rattle.map.proofs.Laws.{beyond_inside}
use Rattle.chain.specs.Files as files
use Rattle.chain.specs.Links.{start, link, links_after}
use Rattle.chain.specs.Steps.{stays, reaches, breaks, step}
use Rattle.chain.specs.Steps as steps
use Rattle.writer.specs.Staging.{too_few, staged_header, staged_links}
use Rattle.writer.specs.Open.{ready_writer, no_page, copy_writer, readied, copied_to, copied, step_from, open_last, open_in, open_writer}
use Prim.Native.Nat.{ℕ, ◌+◌, ◌≤◌, ◌<◌}
use mathlib.Core.Path.{◌≡◌, refl, sym, ap, ap₂, subst, ◌∙◌}
use mathlib.Core.Bool.{Bool, true, false, cond}
use mathlib.Core.Logic.{◌⊎◌, inl, inr}
use mathlib.Core.List.{List}
use native.Mathlib.Omega.{arith}
use native.Mathlib.Decide.{dec_le}
use lib.ListN.{length, drop, get_or, set, replicate, length-replicate}
use lib.Dec.{leb, ltb, eqb}
use borrow.Author.Tests.{ne_eqb, eqb-true, eqb-false, leb-true}
use Rattle.state.specs.declared.types.FileRecord.{FileRecord}
use Rattle.chain.specs.declared.PagePointer.{PagePointer}
use Rattle.agree.specs.Good.{RecordOk, WriterIs, Good, Known}
use Rattle.agree.specs.Rules.{Reaches, staged_page, WriterRuled}
use Rattle.agree.specs.View.{view, Mapped, as_file, rec_at, as_writer, now_of}
use Rattle.agree.proofs.Seen.{sees_on}
use Rattle.agree.proofs.Finish.{numbers}
use Rattle.agree.proofs.Keeps.{Keeps, cond_by, checked_by, writer_ready, writer_staged, known, in_table, shut_now}
use Rattle.agree.proofs.Maps.{alloc_free, mapped_give}
use Rattle.agree.proofs.Pages.{data_view}
use Rattle.agree.proofs.Records.{link_none, link_some, file_live, file_at_lem, now_is, inv_is}
use Rattle.agree.proofs.Ruling.{record_chain, reaches_again, reaches_alone, stays_far}
use Rattle.owners.specs.Moves.{give, with_own}
use Rattle.owners.specs.State.{link_of, Base, ready, staging, first_of, last_of, next_step, Inv}
use Rattle.owners.specs.Store.{Link, nil, to, pick, Owner, writer}
use Rattle.owners.proofs.Tables.{pick_no}
use Rattle.owners.proofs.Writing.{inv_open, inv_copy}
use Rattle.page.specs.Page.{page_of, readable, Bytes}
use Rattle.page.proofs.Headers.{header_written}
use Rattle.page.proofs.Laws.{bytes_take, bytes_drop, bytes_replicate, bytes_splice, bytes_page}
use Rattle.metalog.specs.Log.{sound}
use Rattle.state.specs.Values.{is_empty, in_shape, with_cursor, with_writer}
use Rattle.chain.specs.Steps.{read_at, back_rule, Stepped}
use Rattle.chain.proofs.Rules.{back_falling, back_halts, back_via}
use Rattle.chain.proofs.Traces.{Began, began}
use Rattle.seq.specs.Seq.{below}

-- ---- bytes placed

pub placed_length : (l : List ℕ) (o : ℕ) (r : List ℕ) → length (placed l o r) ≡ length l
unfolding placed
placed_length l o r = go (leb (o + length r) (length l)) refl
  where
    go : (t : Bool) → leb (o + length r) (length l) ≡ t → length (cond t (splice l o r) l) ≡ length l
    go true e = length_splice l o r (leb-true (o + length r) (length l) e)
    go false e = refl

pub placed_bytes : (l : List ℕ) (o : ℕ) (r : List ℕ) → Bytes l → Bytes r → Bytes (placed l o r)
unfolding placed
placed_bytes l o r a c = cond_by Bytes (leb (o + length r) (length l)) (splice l o r) l (λ e. bytes_splice l o r a c) (λ e. a)

part_bytes : (l : List ℕ) (o n : ℕ) → Bytes l → Bytes (part l o n)
unfolding part
part_bytes l o n h = bytes_take n (drop o l) (bytes_drop o l h)

-- ---- the writers

ready_is : (i : ℕ) (f : FileRecord) → as_writer (ready_writer i f) ≡ ready i
unfolding ready_writer
ready_is i f = writer_ready (ready_writer i f) refl refl

copy_is : (img : List ℕ) (i : ℕ) (f : FileRecord) (q : PagePointer) (p : ℕ) → (p ≡ none → ⊥)
    → as_writer (copy_writer img i f q p) ≡ staging i (link_of q.page_id) f.header.seq p f.header.length (link_of f.last_page) 0
unfolding copy_writer
copy_is img i f q p n = writer_staged (copy_writer img i f q p) refl n

ready_sound : (img : List ℕ) (i : ℕ) (f : FileRecord) → RecordOk img f → WriterIs img f (ready_writer i f)
unfolding ready_writer
ready_sound img i f k =
    record {
      boundary = omega arith;
      size = length-replicate {A = ℕ} 224 0;
      bytes = bytes_replicate 224 0 (omega arith);
      stands = k.stands;
      waits = λ z. record { seq = refl; previous = refl; copied = refl; stored = refl; length = refl };
    }

copy_sound : (img : List ℕ) (i : ℕ) (f f' : FileRecord) (q : PagePointer) (p : ℕ) → Bytes img → (p ≡ none → ⊥) → read_at img f.last_page ≡ readable f.header
    → ((q.page_id ≡ none → ⊥) → read_at img q.page_id ≡ readable q.header) → WriterIs img f' (copy_writer img i f q p)
unfolding copy_writer
copy_sound img i f f' q p bs n s h =
    let pg = page_of img f.last_page in
    let b = bytes_page img f.last_page bs in
    record {
      boundary = (header_written pg b f.header s).boundary;
      size = placed_length (replicate 224 0) 0 (part pg 32 f.header.length) ∙ length-replicate {A = ℕ} 224 0;
      bytes = placed_bytes (replicate 224 0) 0 (part pg 32 f.header.length) (bytes_replicate 224 0 (omega arith)) (part_bytes pg 32 f.header.length b);
      stands = h;
      waits = λ z. absurd (n z);
    }

pub ready_file : (i : ℕ) (f : FileRecord) → (ready_writer i f).file ≡ i
unfolding ready_writer
ready_file i f = refl

pub copy_file : (img : List ℕ) (i : ℕ) (f : FileRecord) (q : PagePointer) (p : ℕ) → (copy_writer img i f q p).file ≡ i
unfolding copy_writer
copy_file img i f q p = refl

ready_ruled : (img : List ℕ) (pc i : ℕ) (f : FileRecord) → ((f.last_page ≡ none → ⊥) → f.header.length ≡ 224) → WriterRuled img pc f (ready_writer i f)
unfolding ready_writer
ready_ruled img pc i f h = record { full = λ z. h; chain = λ n. absurd (n refl) }

copy_ruled : (img : List ℕ) (pc i : ℕ) (f : FileRecord) (q : PagePointer) (p : ℕ) → (p ≡ none → ⊥) → Reaches img pc f.first_seq (staged_page (copy_writer img i f q p)) → WriterRuled img pc f (copy_writer img i f q p)
unfolding copy_writer
copy_ruled img pc i f q p n r = record { full = λ z. absurd (n z); chain = λ z. r }

copy_seq : (img : List ℕ) (i : ℕ) (f : FileRecord) (q : PagePointer) (p : ℕ) → (staged_header (copy_writer img i f q p)).seq ≡ f.header.seq
unfolding staged_header copy_writer
copy_seq img i f q p = refl

copy_links : (img : List ℕ) (i : ℕ) (f : FileRecord) (q : PagePointer) (p : ℕ) → (q.page_id ≡ none → ⊥) → (staged_header (copy_writer img i f q p)).skiplist ≡ links_after q (staged_header (copy_writer img i f q p)).seq
unfolding staged_header staged_links copy_writer
copy_links img i f q p n = rw (ne_eqb q.page_id none n)

-- ---- a writer put into the world: map, owners and cursor may change with it

module _ {D : Type 0} {N : ℕ} {w : World} {b : Base} {own : ℕ → Owner} (g : Good D N w b own) where
  pub writer_keeps : (m : List ℕ) (own' : ℕ → Owner) (c : ℕ) (x : StateWriter.Writer) → Mapped m N own' → c < b.pc → (x.active ≡ true → WriterIs w.image (rec_at w.table x.file) x)
      → Inv N (view w.image) b (with_own (now_of w.table w.state own) own' (as_writer x)) → (D → x.active ≡ true → WriterRuled w.image b.pc (rec_at w.table x.file) x)
      → Known D N (record { image = w.image; map = m; table = w.table; state = with_writer (with_cursor w.state c) x })
  unfolding with_writer with_cursor
  writer_keeps m own' c x mapped below sound v ruled =
      let s = g.sees in
      record {
        base = b;
        own = own';
        good =
            record {
              sees =
                  sees_on s _ _ (refl, refl, refl) (refl, refl, refl, refl, refl, refl) s.bytes below s.search mapped s.eight s.recs
                  sound;
              inv = v;
              rules = λ d. record { now = (g.rules d).now; base = (g.rules d).base; wr = ruled d };
            };
      }

  abbrev rec : ℕ → FileRecord
  rec i = rec_at w.table i

  -- nothing staged
  readied_keeps : (i : ℕ) → w.state.writer.active ≡ false → i ≤ 7 → (((rec_at w.table i).last_page ≡ none → ⊥) → (rec_at w.table i).header.length ≡ 224) → Keeps D N w (readied w i (rec i))
  unfolding with_writer with_cursor
  readied_keeps i off i7 full =
      writer_keeps w.map own w.state.cursor (ready_writer i (rec i)) g.sees.owners g.sees.cursor
      (λ e. subst (λ (j : ℕ). WriterIs w.image (rec j) (ready_writer i (rec i))) (sym (ready_file i (rec i))) (ready_sound w.image i (rec i) (g.sees.recs i)))
      (inv_is (now_is (λ j. refl) (λ x. refl) (λ j. refl) refl (sym (ready_is i (rec i)))) (inv_open i g.inv (shut_now g off) (omega arith)))
      (λ d e. subst (λ (j : ℕ). WriterRuled w.image b.pc (rec j) (ready_writer i (rec i))) (sym (ready_file i (rec i))) (ready_ruled w.image b.pc i (rec i) full))

  -- the last page copied
  module _ (i : ℕ) (off : w.state.writer.active ≡ false) (i7 : i ≤ 7) (some : (rec_at w.table i).last_page ≡ none → ⊥) where
    stands : read_at w.image (rec i).last_page ≡ readable (rec i).header
    stands = (g.sees.recs i).stands some

    first_is : first_of (as_file (rec i)) ≡ (rec i).first_seq
    first_is = (numbers w.image (rec i) (g.sees.recs i)).0

    to_keeps : (q : PagePointer) → link_of q.page_id ≡ next_step (rec i).first_seq (rec i).header.seq (link_of (get_or (rec i).header.skiplist 0 0))
        → ((q.page_id ≡ none → ⊥) → read_at w.image q.page_id ≡ readable q.header)
        → (D → (p : ℕ) → Reaches w.image b.pc (rec i).first_seq (staged_page (copy_writer w.image i (rec i) q p))) → (a : Option ℕ) → alloc_of w.map w.state.page_count w.state.cursor ≡ a
        → Keeps D N w (copied_to w i (rec i) q a)
    to_keeps q e h chain None z = known g
    to_keeps q e h chain (Some p) z =
        let r = alloc_free g.sees.owners w.state.page_count w.state.cursor p (omega (arith, g.sees.cursor, g.sees.pc)) z in
        let n : p ≡ none → ⊥ = λ y. omega (arith, r.2, g.sees.small) in
        let pc_is = g.sees.pc in
        writer_keeps (set w.map p 1) (give own p writer) (beyond w.state.page_count p) (copy_writer w.image i (rec i) q p) (mapped_give g.sees.owners p 1 writer r.2 refl)
        (omega (arith, beyond_inside w.state.page_count p (omega (arith, r.1)), g.sees.pc))
        (λ y. subst (λ (j : ℕ). WriterIs w.image (rec j) (copy_writer w.image i (rec i) q p)) (sym (copy_file w.image i (rec i) q p))
        (copy_sound w.image i (rec i) (rec i) q p g.sees.bytes n stands h))
        (inv_is (now_is (λ j. refl) (λ x. refl) (λ j. refl) refl (sym (copy_is w.image i (rec i) q p n ∙ written)))
        (inv_copy i p (rec i).last_page (rec i).header.seq (rec i).header.length (page_of w.image (rec i).last_page) (link_of (get_or (rec i).header.skiplist 0 0)) g.inv (shut_now g off) (omega arith)
        (ap last_of (file_live (rec i) some)) (data_view w.image (rec i).last_page (rec i).header stands) r.0))
        (λ d y. subst (λ (j : ℕ). WriterRuled w.image b.pc (rec j) (copy_writer w.image i (rec i) q p)) (sym (copy_file w.image i (rec i) q p)) (copy_ruled w.image b.pc i (rec i) q p n (chain d p)))
      where
        written : staging i (link_of q.page_id) (rec i).header.seq p (rec i).header.length (link_of (rec i).last_page) 0
            ≡ staging i (next_step (first_of (as_file (rec i))) (rec i).header.seq (link_of (get_or (rec i).header.skiplist 0 0))) (rec i).header.seq p (rec i).header.length (to (rec i).last_page) 0
        written =
            ap₂ (λ (k j : Link). staging i k (rec i).header.seq p (rec i).header.length j 0)
            (e ∙ ap (λ (y : ℕ). next_step y (rec i).header.seq (link_of (get_or (rec i).header.skiplist 0 0))) (sym first_is)) (link_some (rec i).last_page some)

    copied_keeps : (s : steps.Stepped) → step_from w (rec i) ≡ s → Keeps D N w (copied w i (rec i) s)
    copied_keeps breaks e = known g
    copied_keeps stays e =
        let r = back_rule w.state.page_count (rec i).first_seq in
        let d = back_falling w.state.page_count (rec i).first_seq in
        let z = subst (Began r d (read_at w.image) (files.last_of (rec i))) e (began r d (read_at w.image) (files.last_of (rec i))) in
        to_keeps no_page (ends (back_halts w.state.page_count (rec i).first_seq (files.last_of (rec i)) z.0) (dec_le (rec i).header.seq (rec i).first_seq))
        (λ n. absurd (n refl))
        (λ d p. reaches_alone (staged_page (copy_writer w.image i (rec i) no_page p))
        (subst (λ (k : ℕ). k ≤ (rec i).first_seq) (sym (copy_seq w.image i (rec i) no_page p))
        (stays_far (record_chain (rec i) (g.sees.recs i) some ((g.rules d).now i)) (back_halts w.state.page_count (rec i).first_seq (files.last_of (rec i)) z.0))))
        (alloc_of w.map w.state.page_count w.state.cursor) refl
      where
        ends : (start (files.last_of (rec i)) ≤ (rec i).first_seq) ⊎ (link (files.last_of (rec i)) 0 ≡ none) → (d : Dec ((rec i).header.seq ≤ (rec i).first_seq))
            → link_of none ≡ pick d nil (link_of (get_or (rec i).header.skiplist 0 0))
        ends o (yes h) = link_none none refl
        ends (inl h) (no n) = absurd (n h)
        ends (inr z) (no n) = ap link_of (sym z)
    copied_keeps (reaches q) e =
        let r = back_rule w.state.page_count (rec i).first_seq in
        let d = back_falling w.state.page_count (rec i).first_seq in
        let z = subst (Began r d (read_at w.image) (files.last_of (rec i))) e (began r d (read_at w.image) (files.last_of (rec i))) in
        let u = back_via w.state.page_count (rec i).first_seq (files.last_of (rec i)) q.page_id z.0.way in
        to_keeps q (ap link_of u.1 ∙ sym (pick_no (dec_le (rec i).header.seq (rec i).first_seq) (λ h. omega (arith, u.0)) nil (link_of (get_or (rec i).header.skiplist 0 0))))
        (λ n. z.0.stands)
        (λ d p. reaches_again (staged_page (copy_writer w.image i (rec i) q p)) q (record_chain (rec i) (g.sees.recs i) some ((g.rules d).now i))
        (copy_seq w.image i (rec i) q p) u.0 (ap (λ (k : ℕ). step (back_rule k (rec i).first_seq) (read_at w.image) (files.last_of (rec i))) (sym g.sees.pc) ∙ e) (omega (arith, g.inv.mounted.pc_in, g.sees.small))
        (header_written (page_of w.image q.page_id) (bytes_page w.image q.page_id g.sees.bytes) q.header z.0.stands).nine
        (copy_links w.image i (rec i) q p u.3))
        (alloc_of w.map w.state.page_count w.state.cursor) refl

  in_keeps : (i : ℕ) → w.state.writer.active ≡ false → i ≤ 7 → Keeps D N w (open_in w i (rec i))
  unfolding open_in open_last
  in_keeps i off i7 =
      cond_by (Keeps D N w) (ltb SeqSpecs.limit (rec i).last_seq) _ _ (λ e. known g)
      (λ e. cond_by (Keeps D N w) (is_empty (rec i)) _ _ (λ e. readied_keeps i off i7 (λ n. absurd (n (eqb-true (rec i).last_page none e))))
      (λ e. cond_by (Keeps D N w) (eqb (rec i).header.length 224) _ _
      (λ l. cond_by (Keeps D N w) (in_shape w.state.page_count (rec i)) _ _ (λ s. readied_keeps i off i7 (λ n. eqb-true (rec i).header.length 224 l)) (λ s. known g))
      (λ l. cond_by (Keeps D N w) (too_few w.map w.state.page_count 1) _ _ (λ s. known g)
      (λ s. cond_by (Keeps D N w) (in_shape w.state.page_count (rec i)) _ _ (λ s. copied_keeps i off i7 (eqb-false (rec i).last_page none e) (step_from w (rec i)) refl) (λ s. known g)))))

  -- OPEN
  pub open_keeps : (i : ℕ) → Keeps D N w (open_writer w i)
  unfolding open_writer
  open_keeps i =
      checked_by (Keeps D N w) w w.state.writer.active i _ _ (λ why. known g)
      (λ h. subst (λ (f : FileRecord). Keeps D N w (open_in w i f)) (sym (file_at_lem w.table i (in_table g h.known))) (in_keeps i h.idle h.known))
