-- The ledger tells the bytes after a writer is opened. Assumes nothing.
use Rattle.std.specs.Prelude.{Option, Some, None}
use Rattle.state.specs.Refusals.{Done}
use Rattle.seq.specs.Ids.{none}
use Rattle.seq.specs.Seq as SeqSpecs
use Rattle.state.specs.World.{World, Outcome}
use Rattle.chain.specs.Files as files
use Rattle.chain.specs.Links.{start}
use Rattle.chain.specs.Steps.{at, stays, reaches, breaks, step}
use Rattle.chain.specs.Steps as steps
use Rattle.runs.specs.Runs.{part, placed}
use Rattle.map.specs.Map.{alloc_of}
use Rattle.writer.specs.Staging.{too_few}
use Rattle.writer.specs.Open.{ready_writer, no_page, copy_writer, readied, copied_to, copied, step_from, open_last, open_in, open_writer}
use Prim.Native.Nat.{ℕ, ◌+◌, ◌-◌, ◌≤◌, ◌<◌}
use mathlib.Core.Path.{◌≡◌, refl, sym, ap, subst, ◌∙◌}
use mathlib.Core.Bool.{true}
use mathlib.Core.List.{List, [], ◌∷◌}
use native.Mathlib.Omega.{arith}
use native.Mathlib.Nat.{zero-add}
use native.Mathlib.Decide.{dec_le}
use lib.ListN.{length, get_or, replicate, length-replicate}
use lib.Dec.{ltb, eqb}
use borrow.Author.Tests.{eqb-false}
use Rattle.state.specs.declared.types.FileRecord.{FileRecord}
use Rattle.chain.specs.declared.PagePointer.{PagePointer}
use Rattle.reached.specs.Asked.{byte, byte_by}
use Rattle.reached.specs.Ledger.{Noted, Ledger, with_draft, draft_at}
use Rattle.reached.proofs.Demand3.{part_at}
use Rattle.reached.proofs.Drafts.{walk_here, draft_staged, draft_behind, Drafted, placed_within}
use Rattle.reached.proofs.Ledgers.{Notes}
use Rattle.reached.proofs.Tells.{byte_from, Tells, Tale, tale_of}
use Rattle.agree.specs.Good.{RecordOk, Known}
use Rattle.agree.specs.Rules.{Reaches}
use Rattle.agree.specs.View.{as_file, rec_at}
use Rattle.agree.proofs.Finish.{numbers}
use Rattle.agree.proofs.Keeps.{cond_by, checked_by, in_table}
use Rattle.agree.proofs.Open.{ready_file, copy_file}
use Rattle.agree.proofs.Records.{file_live, file_at_lem, file_end}
use Rattle.agree.proofs.Ruling.{record_chain, stays_far}
use Rattle.owners.specs.State.{first_of}
use Rattle.page.specs.Page.{page_of, readable, holds}
use Rattle.page.proofs.Headers.{header_bounds, header_there, holds_in}
use Rattle.page.proofs.Laws.{page_length}
use Rattle.state.specs.Values.{is_empty, in_shape, with_cursor, with_writer}
use Rattle.chain.specs.Links.{Chain, oldest}
use Rattle.chain.specs.Steps.{read_at, back_rule, Stepped}
use Rattle.chain.proofs.Chains.{holder_on, step_chain, walk_chain}
use Rattle.chain.proofs.Rules.{back_falling, back_halts, back_via}
use Rattle.chain.proofs.Traces.{Began, began}
use Rattle.runs.proofs.Laws.{length_part}

ready_drafted : (img : List ℕ) (count i first : ℕ) (f : FileRecord) (l : Noted) → Tale img count f l → f.first_seq ≤ first → (f.last_page ≡ none → f.last_seq ≡ 0) → Drafted img count first (ready_writer i f) l.bytes
unfolding ready_writer
ready_drafted img count i first f l t h none_end =
    record {
      size = omega (arith, t.size);
      is = λ n low high. draft_behind img count (ready_writer i f) n (omega arith) ∙ t.is (λ z. omega (arith, none_end z)) n (omega arith) (omega arith);
    }

module _ (img : List ℕ) (count i first : ℕ) (f : FileRecord) (q : PagePointer) (p : ℕ) (l : Noted) (t : Tale img count f l) (n_first : first ≡ f.first_seq) (some : f.last_page ≡ none → ⊥)
    (stands : read_at img f.last_page ≡ readable f.header) (end_is : f.header.seq + f.header.length ≡ f.last_seq)
    (behind : (n : ℕ) → f.first_seq ≤ n → n < f.header.seq → byte_from img count (files.last_of f) n ≡ byte_from img count q n) where
  copy_drafted : Drafted img count first (copy_writer img i f q p) l.bytes
  unfolding copy_writer
  copy_drafted =
      record {
        size = t.size ∙ sym end_is;
        is = λ n low high. by n (omega arith) high (dec_le f.header.seq n) ∙ t.is some n (omega arith) (omega arith);
      }
    where
      by : (n : ℕ) → f.first_seq ≤ n → n < f.header.seq + f.header.length → Dec (f.header.seq ≤ n) → draft_at img count (copy_writer img i f q p) n ≡ byte_from img count (files.last_of f) n
      by n low high (no h) = draft_behind img count (copy_writer img i f q p) n (omega arith) ∙ sym (behind n low (omega arith))
      by n low high (yes h) =
          let b = header_bounds (page_of img f.last_page) f.header stands in
          let w = page_length img f.last_page (header_there img f.last_page f.header stands) in
          let s : length (part (page_of img f.last_page) 32 f.header.length) ≡ f.header.length = length_part (page_of img f.last_page) 32 f.header.length (omega arith) in
          let r : length (replicate {A = ℕ} 224 0) ≡ 224 = length-replicate {A = ℕ} 224 0 in
          let e : holds f.header n ≡ true = holds_in f.header n h high in
          draft_staged img count (copy_writer img i f q p) n h
          ∙ ap byte (ap (λ (j : ℕ). get_or (placed (replicate 224 0) 0 (part (page_of img f.last_page) 32 f.header.length)) j 0) (sym (zero-add (n - f.header.seq)))
          ∙ placed_within (replicate 224 0) 0 (part (page_of img f.last_page) 32 f.header.length) (n - f.header.seq) (omega arith) (omega arith)
          ∙ part_at (page_of img f.last_page) 32 f.header.length (n - f.header.seq) (omega arith))
          ∙ sym (ap (byte_by img n) (walk_here count (read_at img) n (files.last_of f) h) ∙ rw e)

module _ {N : ℕ} {w : World} (k : Known (Unit {0}) N w) (g : Ledger) (t : Tells N w g) (i : ℕ) (i7 : i ≤ 7) where
  abbrev f : FileRecord
  f = rec_at w.table i

  abbrev pc : ℕ
  pc = w.state.page_count

  abbrev P : Outcome Done → Type 0
  P o = Notes N w g (with_draft g i (g.files i).bytes) o

  ok : RecordOk w.image (rec_at w.table i)
  ok = k.good.sees.recs i

  tale : Tale w.image w.state.page_count (rec_at w.table i) (g.files i)
  tale = tale_of w.image pc f (g.files i) ok (t.files i (omega arith))

  first_is : first_of (as_file (rec_at w.table i)) ≡ (rec_at w.table i).first_seq
  first_is = (numbers w.image f ok).0

  readied_notes : Notes N w g (with_draft g i (g.files i).bytes) (readied w i (rec_at w.table i))
  unfolding with_writer
  readied_notes =
      record {
        files = t.files;
        base = t.base;
        draft = λ on. subst (λ (j : ℕ). Drafted w.image pc (first_of (as_file (rec_at w.table j))) (ready_writer i f) (g.files i).bytes) (sym (ready_file i f))
            (ready_drafted w.image pc i (first_of (as_file f)) f (g.files i) tale (omega (arith, first_is)) (λ z. (ok.empty z).last));
        whose = λ on. sym (ready_file i f);
      }

  module _ (some : (rec_at w.table i).last_page ≡ none → ⊥) where
    stands : read_at w.image (rec_at w.table i).last_page ≡ readable (rec_at w.table i).header
    stands = ok.stands some

    R : Reaches w.image k.base.pc (rec_at w.table i).first_seq (files.last_of (rec_at w.table i))
    R = record_chain f ok some ((k.good.rules tt).now i)

    end_is : (rec_at w.table i).header.seq + (rec_at w.table i).header.length ≡ (rec_at w.table i).last_seq
    end_is = file_end w.image f (file_live f some) (k.good.inv.files i).ok stands

    to_notes : (q : PagePointer) → ((n : ℕ) → (rec_at w.table i).first_seq ≤ n → n < (rec_at w.table i).header.seq → byte_from w.image w.state.page_count (files.last_of (rec_at w.table i)) n ≡ byte_from w.image w.state.page_count q n)
        → (a : Option ℕ) → Notes N w g (with_draft g i (g.files i).bytes) (copied_to w i (rec_at w.table i) q a)
    unfolding with_writer with_cursor
    to_notes q h None = t
    to_notes q h (Some p) =
        record {
          files = t.files;
          base = t.base;
          draft = λ on. subst (λ (j : ℕ). Drafted w.image pc (first_of (as_file (rec_at w.table j))) (copy_writer w.image i f q p) (g.files i).bytes) (sym (copy_file w.image i f q p))
              (copy_drafted w.image pc i (first_of (as_file f)) f q p (g.files i) tale first_is some stands end_is h);
          whose = λ on. sym (copy_file w.image i f q p);
        }

    behind_q : (q : PagePointer) → step (back_rule k.base.pc (rec_at w.table i).first_seq) (read_at w.image) (files.last_of (rec_at w.table i)) ≡ reaches q → (rec_at w.table i).first_seq < (rec_at w.table i).header.seq
        → (n : ℕ) → (rec_at w.table i).first_seq ≤ n → n < (rec_at w.table i).header.seq → byte_from w.image k.base.pc (files.last_of (rec_at w.table i)) n ≡ byte_from w.image k.base.pc q n
    behind_q q e above n low high = by R.older R.chain R.far
      where
        by : (l : List PagePointer) → Chain k.base.pc 224 (read_at w.image) (files.last_of (rec_at w.table i)) l → start (oldest (files.last_of (rec_at w.table i)) l) ≤ (rec_at w.table i).first_seq
            → byte_from w.image k.base.pc (files.last_of (rec_at w.table i)) n ≡ byte_from w.image k.base.pc q n
        by [] c far = absurd (omega arith)
        by (q' ∷ l) c far =
            let z : reaches q' ≡ reaches q = sym (step_chain k.base.pc 224 (omega arith) (read_at w.image) f.first_seq (files.last_of f) q' l c above) ∙ e in
            let y : q' ≡ q = cc in
            let a = (walk_chain k.base.pc 224 (omega arith) (read_at w.image) n (files.last_of f) (q' ∷ l) c (omega arith)).0 ∙ ap at (holder_on n (files.last_of f) q' l high) in
            let b = (walk_chain k.base.pc 224 (omega arith) (read_at w.image) n q' l (record { linked = c.linked.1; stand = c.stand.1 }) (omega arith)).0 in
            ap (byte_by w.image n) (a ∙ sym b) ∙ ap (λ (x : PagePointer). byte_from w.image k.base.pc x n) y

    copied_notes : (s : steps.Stepped) → step_from w (rec_at w.table i) ≡ s → Notes N w g (with_draft g i (g.files i).bytes) (copied w i (rec_at w.table i) s)
    copied_notes breaks e = t
    copied_notes stays e =
        let r = back_rule pc f.first_seq in
        let d = back_falling pc f.first_seq in
        let z = subst (Began r d (read_at w.image) (files.last_of f)) e (began r d (read_at w.image) (files.last_of f)) in
        let low = stays_far R (back_halts pc f.first_seq (files.last_of f) z.0) in
        to_notes no_page (λ n a b. absurd (omega arith)) (alloc_of w.map pc w.state.cursor)
    copied_notes (reaches q) e =
        let r = back_rule pc f.first_seq in
        let d = back_falling pc f.first_seq in
        let z = subst (Began r d (read_at w.image) (files.last_of f)) e (began r d (read_at w.image) (files.last_of f)) in
        let u = back_via pc f.first_seq (files.last_of f) q.page_id z.0.way in
        let pc_is = k.good.sees.pc in
        to_notes q (λ n a b. subst (λ (c : ℕ). byte_from w.image c (files.last_of f) n ≡ byte_from w.image c q n) (sym pc_is)
        (behind_q q (ap (λ (c : ℕ). step (back_rule c f.first_seq) (read_at w.image) (files.last_of f)) (sym pc_is) ∙ e) u.0 n a b)) (alloc_of w.map pc w.state.cursor)

  in_notes : Notes N w g (with_draft g i (g.files i).bytes) (open_in w i (rec_at w.table i))
  unfolding open_in open_last
  in_notes =
      cond_by P (ltb SeqSpecs.limit f.last_seq) _ _ (λ e. t)
      (λ e. cond_by P (is_empty f) _ _ (λ e. readied_notes)
      (λ e. cond_by P (eqb f.header.length 224) _ _
      (λ l. cond_by P (in_shape pc f) _ _ (λ s. readied_notes) (λ s. t))
      (λ l. cond_by P (too_few w.map pc 1) _ _ (λ s. t)
      (λ s. cond_by P (in_shape pc f) _ _ (λ s. copied_notes (eqb-false f.last_page none e) (step_from w f) refl) (λ s. t)))))

pub open_notes : {N : ℕ} {w : World} (k : Known (Unit {0}) N w) (g : Ledger) → Tells N w g → (i : ℕ) → Notes N w g (with_draft g i (g.files i).bytes) (open_writer w i)
unfolding open_writer
open_notes {N} {w} k g t i =
    checked_by (Notes N w g (with_draft g i (g.files i).bytes)) w w.state.writer.active i _ _ (λ why. t)
    (λ h. subst (λ (f : FileRecord). Notes N w g (with_draft g i (g.files i).bytes) (open_in w i f)) (sym (file_at_lem w.table i (in_table k.good h.known))) (in_notes k g t i h.known))
