-- Truncate keeps the invariant. Assumes nothing.
use Rattle.seq.specs.Ids.{none}
use Rattle.chain.specs.Files.{last_of}
use Rattle.chain.specs.Steps.{at, damaged}
use Rattle.transact.specs.Truncate.{advanced, emptied, new_first, cut, others, unreached, held_all, changed_file, truncated_by, truncate_in, truncate}
use Rattle.owners.specs.State.{first_of, end_of}
use Rattle.state.specs.World.{World}
use Prim.Native.Nat.{ℕ, ◌+◌, ◌≤◌, ◌<◌}
use mathlib.Core.Path.{◌≡◌, refl, sym, ap, ap₂, subst, ◌∙◌}
use mathlib.Core.Bool.{true, false, cond}
use mathlib.Core.List.{List, [], ◌∷◌, ◌++◌}
use native.Mathlib.Omega.{arith}
use native.Mathlib.Decide.{ℕ_discrete, dec_le}
use lib.ListN.{length, drop, set}
use lib.Dec.{eqb}
use borrow.Author.Tests.{eq-eqb, ne_eqb, eqb-true, eqb-false}
use Rattle.state.specs.declared.types.FileRecord.{FileRecord}
use Rattle.agree.specs.Good.{RecordOk, Good}
use Rattle.agree.specs.Rules.{ChainOf}
use Rattle.agree.specs.View.{view, code, Mapped, as_file, rec_at}
use Rattle.agree.proofs.Keeps.{Keeps, cond_by, checked_by, known, table_keeps, shut_now, in_table}
use Rattle.agree.proofs.Maps.{set_all, mapped_all}
use Rattle.agree.proofs.Pages.{clash}
use Rattle.agree.proofs.Records.{file_gone, file_live, file_at_lem, with_eight, with_files, with_marks, with_each, Ranges, file_ranges, now_is, inv_is}
use Rattle.agree.proofs.Ruling.{reaches_later}
use Rattle.agree.proofs.Walking.{walk_complete, file_walk}
use Rattle.owners.specs.Moves.{hold_f, mem?, keep_only, set_first, cut_file, set_flags, Cut}
use Rattle.owners.specs.State.{Base}
use Rattle.owners.specs.Store.{Store, pick, File, gone, live, Owner, free, held, meta, writer, outside, file, Mem, here, there, FileOk, FileAt}
use Rattle.owners.proofs.Tables.{pick_yes, pick_no, cut_of, inv_truncate, truncate_holds, inv_flags}
use Rattle.owners.proofs.Walks.{walk_head, mem_off}
use Rattle.page.specs.Page.{readable}
use Rattle.state.specs.Values.{with_file, is_empty, in_shape}
use Rattle.chain.specs.Steps.{read_at, Sought, walk, visited}

-- ---- the pages held

held_is : (m l : List ℕ) → held_all m l ≡ set_all 2 m l
held_is m [] = refl
held_is m (p ∷ l) = held_is (set m p 2) l

others_all : (p : ℕ) (l : List ℕ) → (Mem p l → ⊥) → others p l ≡ l
others_all p [] n = refl
others_all p (q ∷ l) n =
    let k : q ≡ p → ⊥ = λ z. n (subst (λ (y : ℕ). Mem p (y ∷ l)) (sym z) here) in
    rw (ne_eqb q p k) (ap (λ (x : List ℕ). q ∷ x) (others_all p l (λ j. n (there j))))

drop_front : (a b : List ℕ) → drop (length a) (a ++ b) ≡ b
drop_front [] b = refl
drop_front (x ∷ a) b = drop_front a b

hold_other : (i : ℕ) (o : Owner) → (o ≡ file i → ⊥) → hold_f i o ≡ o
hold_other i free n = refl
hold_other i held n = refl
hold_other i meta n = refl
hold_other i writer n = refl
hold_other i outside n = refl
hold_other i (file j) n = pick_no (ℕ_discrete j i) (λ z. n (ap file z)) held (file j)

-- what is not reached any more is held, on the map as among the owners
mapped_cut : {m : List ℕ} {N : ℕ} {own : ℕ → Owner} {s : Store} {pc i : ℕ} {f f' : File} → Mapped m N own → (a : FileAt s pc f own i) (r : Cut s pc f' a.pages) → Mapped (held_all m r.rest) N (keep_only i r.part own)
mapped_cut {m} {N} {own} {i = i} mp a r =
    subst (λ (y : List ℕ). Mapped y N (keep_only i r.part own)) (sym (held_is m r.rest))
    (mapped_all 2 r.rest (keep_only i r.part own) mp (λ x k. ap code ((truncate_holds a r x).0 k)) (λ x k. ap code (kept x k (mem? x r.part))))
  where
    kept : (x : ℕ) → ¬ Mem x r.rest → (d : Dec (Mem x r.part)) → pick d (own x) (hold_f i (own x)) ≡ own x
    kept x k (yes j) = refl
    kept x k (no j) = hold_other i (own x) (λ e. k (mem_off r.part (rw r.is at (a.all x e)) j))

cut_live : (p f e g n : ℕ) → f + n < e → cut_file (live p f e g) n ≡ live p (f + n) e g
cut_live p f e g n h = pick_no (dec_le e (f + n)) (omega arith) gone (live p (f + n) e g)

cut_gone : (p f e g n : ℕ) → e ≤ f + n → cut_file (live p f e g) n ≡ gone
cut_gone p f e g n h = pick_yes (dec_le e (f + n)) h gone (live p (f + n) e g)

-- the chain of what remains
cut_chain : (img : List ℕ) (pc : ℕ) (f : File) (n : ℕ) → ChainOf img pc f → ChainOf img pc (cut_file f n)
cut_chain img pc f n r = by (dec_le (end_of f) (first_of f + n)) f r
  where
    by : {X : Type 0} (d : Dec X) (g : File) → ChainOf img pc g → ChainOf img pc (pick d gone (set_first g (first_of g + n)))
    by (yes h) g r = tt
    by (no h) gone r = tt
    by (no h) (live p a e k) r = record { header = r.header; stands = r.stands; reaches = reaches_later (a + n) (omega arith) r.reaches }

gone_none : {s : Store} {pc : ℕ} {f : File} {l : List ℕ} → FileOk s pc f l → f ≡ gone → l ≡ []
gone_none (Rattle.owners.specs.Store.empty) e = refl
gone_none (Rattle.owners.specs.Store.full a h b c d w) e = clash cc

emptied_ok : (img : List ℕ) → RecordOk img emptied
unfolding emptied
emptied_ok img = record { empty = λ z. record { header = refl; first = refl; last = refl; flags = refl }; stands = λ n. absurd (n refl); byte = omega arith }

module _ {D : Type 0} {N : ℕ} {w : World} {b : Base} {own : ℕ → Owner} (g : Good D N w b own) where
  abbrev rec : ℕ → FileRecord
  rec i = rec_at w.table i

  -- an empty file
  nothing_keeps : (i : ℕ) → w.state.writer.active ≡ false → i ≤ 7 → (rec i).last_page ≡ none → Keeps D N w (changed_file w i w.map emptied)
  unfolding emptied
  nothing_keeps i off i7 e =
      let t = w.table in
      let l = in_table g i7 in
      let z : as_file (rec i) ≡ gone = file_gone (rec i) e in
      table_keeps g off (with_file t i emptied) w.map own (with_eight t i emptied l ∙ g.sees.eight)
      (with_each t i emptied l (RecordOk w.image) (emptied_ok w.image) (λ j n. g.sees.recs j))
      g.sees.owners
      (inv_is (now_is (with_files t i emptied l (set_flags (as_file (rec i)) 0) (file_gone emptied refl ∙ sym (ap (λ (y : File). set_flags y 0) z))) (λ x. refl) (with_marks t i emptied l refl) refl refl)
      (inv_flags i 0 g.inv (shut_now g off) (omega arith)))
      (λ d. with_each t i emptied l (λ (r : FileRecord). ChainOf w.image b.pc (as_file r)) (subst (ChainOf w.image b.pc) (sym (file_gone emptied refl)) tt) (λ j n. (g.rules d).now j))

  -- a file with bytes
  module _ (i : ℕ) (off : w.state.writer.active ≡ false) (i7 : i ≤ 7) (some : (rec i).last_page ≡ none → ⊥) (bytes : ℕ) where
    abbrev a : FileAt (view w.image) b.pc (as_file (rec i)) own i
    a = g.inv.files i

    abbrev r : Cut (view w.image) b.pc (cut_file (as_file (rec i)) bytes) (g.inv.files i).pages
    r = cut_of (g.inv.files i).ok bytes

    is_live : as_file (rec i) ≡ live (rec i).last_page (rec i).first_seq (rec i).last_seq (rec i).flags
    is_live = file_live (rec i) some

    stands : read_at w.image (rec i).last_page ≡ readable (rec i).header
    stands = (g.sees.recs i).stands some

    whole : visited (last_of (rec i)) (walk b.pc (read_at w.image) (rec i).first_seq (last_of (rec i))) ≡ (g.inv.files i).pages
    whole = (walk_complete w.image b.pc (rec i).first_seq (last_of (rec i)) stands (file_walk a.ok is_live)).pages

    ranges : Ranges b.pc (rec i)
    ranges = file_ranges (rec i) is_live a.ok

    -- the pages that are held are those that the walk to the new first_seq does not reach
    rest_is : unreached w.image b.pc (rec i) (new_first (rec i) bytes) ≡ r.rest
    unfolding unreached
    rest_is = by (dec_le (rec i).last_seq ((rec i).first_seq + bytes))
      where
        all : List ℕ
        all = visited (last_of (rec i)) (walk b.pc (read_at w.image) (rec i).first_seq (last_of (rec i)))

        by : Dec ((rec i).last_seq ≤ (rec i).first_seq + bytes)
            → cond (eqb (new_first (rec i) bytes) (rec i).last_seq) all (others (rec i).last_page (drop (length (visited (last_of (rec i)) (walk b.pc (read_at w.image) (new_first (rec i) bytes) (last_of (rec i))))) all)) ≡ r.rest
        by (yes h) =
            let e : new_first (rec i) bytes ≡ (rec i).last_seq = omega (arith, ranges.some) in
            let z : cut_file (as_file (rec i)) bytes ≡ gone = ap (λ (y : File). cut_file y bytes) is_live ∙ cut_gone (rec i).last_page (rec i).first_seq (rec i).last_seq (rec i).flags bytes h in
            rw (eq-eqb (new_first (rec i) bytes) (rec i).last_seq e) (whole ∙ r.is ∙ ap (λ (y : List ℕ). y ++ r.rest) (gone_none r.ok z))
        by (no h) =
            let lt : (rec i).first_seq + bytes < (rec i).last_seq = omega arith in
            let k : new_first (rec i) bytes ≡ (rec i).last_seq → ⊥ = λ z. omega arith in
            let n : new_first (rec i) bytes ≡ (rec i).first_seq + bytes = omega arith in
            let z : cut_file (as_file (rec i)) bytes ≡ live (rec i).last_page ((rec i).first_seq + bytes) (rec i).last_seq (rec i).flags =
            ap (λ (y : File). cut_file y bytes) is_live ∙ cut_live (rec i).last_page (rec i).first_seq (rec i).last_seq (rec i).flags bytes lt in
            let v = file_walk r.ok z in
            let front : visited (last_of (rec i)) (walk b.pc (read_at w.image) (new_first (rec i) bytes) (last_of (rec i))) ≡ r.part =
            ap (λ (y : ℕ). visited (last_of (rec i)) (walk b.pc (read_at w.image) y (last_of (rec i)))) n
            ∙ (walk_complete w.image b.pc ((rec i).first_seq + bytes) (last_of (rec i)) stands v).pages in
            rw (ne_eqb (new_first (rec i) bytes) (rec i).last_seq k)
            (ap₂ (λ (x y : List ℕ). others (rec i).last_page (drop (length x) y)) front (whole ∙ r.is) ∙ ap (others (rec i).last_page) (drop_front r.part r.rest)
            ∙ others_all (rec i).last_page r.rest (λ j. r.apart (rec i).last_page (walk_head v) j))

    -- the record
    cut_file_lem : as_file (cut (rec i) (new_first (rec i) bytes)) ≡ cut_file (as_file (rec i)) bytes
    unfolding cut advanced emptied
    cut_file_lem = by (dec_le (rec i).last_seq ((rec i).first_seq + bytes))
      where
        by : Dec ((rec i).last_seq ≤ (rec i).first_seq + bytes) → as_file (cond (eqb (new_first (rec i) bytes) (rec i).last_seq) emptied (advanced (rec i) (new_first (rec i) bytes))) ≡ cut_file (as_file (rec i)) bytes
        by (yes h) =
            let e : new_first (rec i) bytes ≡ (rec i).last_seq = omega (arith, ranges.some) in
            rw (eq-eqb (new_first (rec i) bytes) (rec i).last_seq e)
            (file_gone emptied refl ∙ sym (ap (λ (y : File). cut_file y bytes) is_live ∙ cut_gone (rec i).last_page (rec i).first_seq (rec i).last_seq (rec i).flags bytes h))
        by (no h) =
            let lt : (rec i).first_seq + bytes < (rec i).last_seq = omega arith in
            let k : new_first (rec i) bytes ≡ (rec i).last_seq → ⊥ = λ z. omega arith in
            let n : new_first (rec i) bytes ≡ (rec i).first_seq + bytes = omega arith in
            rw (ne_eqb (new_first (rec i) bytes) (rec i).last_seq k)
            (file_live (advanced (rec i) (new_first (rec i) bytes)) some ∙ ap (λ (y : ℕ). live (rec i).last_page y (rec i).last_seq (rec i).flags) n
            ∙ sym (ap (λ (y : File). cut_file y bytes) is_live ∙ cut_live (rec i).last_page (rec i).first_seq (rec i).last_seq (rec i).flags bytes lt))

    cut_mark : (cut (rec i) (new_first (rec i) bytes)).dirty ≡ true
    unfolding cut advanced emptied
    cut_mark = cond_by (λ (y : FileRecord). y.dirty ≡ true) (eqb (new_first (rec i) bytes) (rec i).last_seq) _ _ (λ e. refl) (λ e. refl)

    cut_ok : RecordOk w.image (cut (rec i) (new_first (rec i) bytes))
    unfolding cut advanced emptied
    cut_ok =
        cond_by (RecordOk w.image) (eqb (new_first (rec i) bytes) (rec i).last_seq) _ _
        (λ e. emptied_ok w.image)
        (λ e. record { empty = λ z. absurd (some z); stands = λ n. stands; byte = (g.sees.recs i).byte })

    cut_keeps : Keeps D N w (changed_file w i (held_all w.map (unreached w.image w.state.page_count (rec i) (new_first (rec i) bytes))) (cut (rec i) (new_first (rec i) bytes)))
    cut_keeps =
        let t = w.table in
        let c = cut (rec i) (new_first (rec i) bytes) in
        let l = in_table g i7 in
        table_keeps g off (with_file t i c) _ (keep_only i r.part own) (with_eight t i c l ∙ g.sees.eight)
        (with_each t i c l (RecordOk w.image) cut_ok (λ j n. g.sees.recs j))
        (subst (λ (y : List ℕ). Mapped (held_all w.map y) N (keep_only i r.part own)) (sym (ap (λ (y : ℕ). unreached w.image y (rec i) (new_first (rec i) bytes)) g.sees.pc ∙ rest_is)) (mapped_cut g.sees.owners a r))
        (inv_is (now_is (with_files t i c l (cut_file (as_file (rec i)) bytes) cut_file_lem) (λ x. refl) (with_marks t i c l cut_mark) refl refl)
        (inv_truncate i bytes g.inv (shut_now g off) (omega arith)))
        (λ d. with_each t i c l (λ (r : FileRecord). ChainOf w.image b.pc (as_file r)) (subst (ChainOf w.image b.pc) (sym cut_file_lem) (cut_chain w.image b.pc (as_file (rec i)) bytes ((g.rules d).now i))) (λ j n. (g.rules d).now j))

  in_keeps : (i bytes : ℕ) → w.state.writer.active ≡ false → i ≤ 7 → Keeps D N w (truncate_in w i (rec i) bytes)
  unfolding truncate_in
  in_keeps i bytes off i7 =
      cond_by (Keeps D N w) (is_empty (rec i)) _ _ (λ e. nothing_keeps i off i7 (eqb-true (rec i).last_page none e))
      (λ e. cond_by (Keeps D N w) (in_shape w.state.page_count (rec i)) _ _ (λ s. by (eqb-false (rec i).last_page none e) (walk w.state.page_count (read_at w.image) (rec i).first_seq (last_of (rec i))).ends) (λ s. known g))
    where
      by : ((rec i).last_page ≡ none → ⊥) → (y : Sought) → Keeps D N w (truncated_by w i (rec i) (new_first (rec i) bytes) y)
      by some damaged = known g
      by some (at q) = cut_keeps i off i7 some bytes

  -- TRUNCATE
  pub truncate_keeps : (i bytes : ℕ) → Keeps D N w (truncate w i bytes)
  unfolding truncate
  truncate_keeps i bytes =
      checked_by (Keeps D N w) w w.state.writer.active i _ _ (λ why. known g)
      (λ h. cond_by (Keeps D N w) (eqb bytes 0) _ _ (λ e. known g)
      (λ e. subst (λ (f : FileRecord). Keeps D N w (truncate_in w i f bytes)) (sym (file_at_lem w.table i (in_table g h.known))) (in_keeps i bytes h.idle h.known)))
