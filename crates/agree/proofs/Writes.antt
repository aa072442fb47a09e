-- Writing keeps the invariant: all turns. Assumes nothing.
use Rattle.std.specs.Prelude.{Some}
use Rattle.agree.proofs.Keeps.{known}
use Rattle.seq.specs.Ids.{none}
use Rattle.seq.specs.Seq as SeqSpecs
use borrow.Author.Tests.{not-false}
use Rattle.state.specs.declared.types.Writer as StateWriter
use Rattle.state.specs.World.{World}
use Rattle.map.specs.Map.{alloc_of, beyond, free_count, used}
use Rattle.map.proofs.Laws.{alloc_some, alloc_count}
use Rattle.map.proofs.Laws as MapLaws
use Rattle.writer.specs.Staging.{flush_stores, flushed, on_page, filled_by, space, pages_for, too_few}
use Rattle.writer.specs.Write.{Writing, begun, written_as, write_in, write, write_from, next_page, flush, put, staged}
use Rattle.writer.specs.Write as turns
use Prim.Native.Nat.{ℕ, zero, suc, ◌+◌, ◌-◌, ◌/◌, ◌≤◌, ◌<◌, min}
use mathlib.Core.Path.{◌≡◌, sym, ap, subst, ◌∙◌}
use mathlib.Core.Bool.{Bool, true, false, ◌&&◌, not}
use mathlib.Core.List.{List, [], ◌∷◌, ◌++◌}
use native.Mathlib.Omega.{arith}
use native.Mathlib.Nat.{zero-add}
use native.Mathlib.Decide.{ℕ_discrete, dec_le}
use lib.ListN.{length, take, drop, set, length-take, length-drop}
use lib.Dec.{ltb, eqb}
use borrow.Author.Tests.{eq-eqb, ne_eqb, le-leb, lt-leb, ltb-false}
use Rattle.agree.specs.Good.{Good, Known}
use Rattle.agree.proofs.Keeps.{Keeps, cond_by, checked_by}
use Rattle.agree.proofs.Maps.{alloc_free}
use Rattle.agree.proofs.Staged.{staged_ok}
use Rattle.agree.proofs.Write.{grow_keeps, stage_keeps, next_keeps}
use Rattle.owners.specs.State.{Base}
use Rattle.owners.specs.Store.{Owner}
use Rattle.page.specs.Page.{Bytes}
use Rattle.page.proofs.Laws.{ran_append, bytes_take, bytes_drop}
use Rattle.state.specs.Values.{with_cursor, with_writer}
use Rattle.map.proofs.Laws.{Finds}

-- ---- room

pub space_none : (x : StateWriter.Writer) → x.page ≡ none → space x ≡ 0
unfolding space
space_none x e = rw (eq-eqb x.page none e)

pub space_some : (x : StateWriter.Writer) → (x.page ≡ none → ⊥) → space x ≡ 224 - x.length
unfolding space
space_some x n = rw (ne_eqb x.page none n)

pages_none : (left len : ℕ) → len ≤ left → pages_for left len ≡ 0
unfolding pages_for
pages_none left len h = rw (le-leb len left h)

pages_some : (left len : ℕ) → left < len → pages_for left len ≡ (len - left + 223) / 224
unfolding pages_for
pages_some left len h = rw (lt-leb len left h)

pub few_room : (m : List ℕ) (count k : ℕ) → too_few m count k ≡ false → 0 < k → k < free_count (take count m)
unfolding too_few
few_room m count k e h =
    let n : k ≡ 0 → ⊥ = λ z. omega arith in
    let f = free_count (take count m) in
    let t : ltb f (k + 1) ≡ false = sym (ap (λ (c : Bool). not c && ltb f (k + 1)) (ne_eqb k 0 n)) ∙ e in
    let u : k + 1 ≤ f = ltb-false f (k + 1) t in
    omega arith

-- a turn on a fresh page, and one on the staged page: room is left for the rest
room_next : (len f f' : ℕ) → 1 ≤ len → (0 < pages_for 0 len → pages_for 0 len < f) → f ≡ 1 + f' →
    0 < pages_for (224 - min 224 len) (len - 224) → pages_for (224 - min 224 len) (len - 224) < f'
room_next len f f' h r e k = by (dec_le len 224)
  where
    a : pages_for 0 len ≡ (len - 0 + 223) / 224
    a = pages_some 0 len (omega arith)

    by : Dec (len ≤ 224) → pages_for (224 - min 224 len) (len - 224) < f'
    by (yes l) = let z = pages_none (224 - min 224 len) (len - 224) (omega arith) in absurd (omega arith)
    by (no l) =
        let b = pages_some (224 - min 224 len) (len - 224) (omega arith) in
        let m : 224 - min 224 len ≡ 0 = omega arith in
        let c : pages_for (224 - min 224 len) (len - 224) ≡ (len - 224 - 0 + 223) / 224 = b ∙ ap (λ (y : ℕ). (len - 224 - y + 223) / 224) m in
        let d = r (omega (arith, a)) in
        omega (arith, a)

room_more : (s len f : ℕ) → (0 < pages_for s len → pages_for s len < f) → 0 < pages_for (s - min s len) (len - s) → pages_for (s - min s len) (len - s) < f
room_more s len f r k = by (dec_le len s)
  where
    by : Dec (len ≤ s) → pages_for (s - min s len) (len - s) < f
    by (yes l) = let z = pages_none (s - min s len) (len - s) (omega arith) in absurd (omega arith)
    by (no l) =
        let a = pages_some s len (omega arith) in
        let b = pages_some (s - min s len) (len - s) (omega arith) in
        let m : s - min s len ≡ 0 = omega arith in
        let c : pages_for (s - min s len) (len - s) ≡ (len - s - 0 + 223) / 224 = b ∙ ap (λ (y : ℕ). (len - s - y + 223) / 224) m in
        let d = r (omega arith) in
        omega arith

pub fresh_space : (x : StateWriter.Writer) (p : ℕ) → (p ≡ none → ⊥) → space (on_page x p) ≡ 224
unfolding on_page
fresh_space x p n = space_some (on_page x p) n

-- which turn is made
pub ready_first : (count : ℕ) (x : Writing) → x.writer.page ≡ none → (p : ℕ) → alloc_of x.map count x.cursor ≡ Some p
    → turns.ready count x ≡ record { stores = x.stores; map = set x.map p used; cursor = beyond count p; writer = on_page x.writer p }
unfolding turns.ready next_page flush
ready_first count x n p z =
    let e : x.writer.page ≡ none = n in
    rw (space_none x.writer n, eq-eqb x.writer.page none e, z)

pub ready_next : (count : ℕ) (x : Writing) → (x.writer.page ≡ none → ⊥) → space x.writer ≡ 0 → (p : ℕ) → alloc_of x.map count x.cursor ≡ Some p
    → turns.ready count x ≡ record { stores = x.stores ++ flush_stores x.writer; map = set x.map p used; cursor = beyond count p; writer = on_page (flushed x.writer) p }
unfolding turns.ready next_page flush
ready_next count x n e p z = rw (e, ne_eqb x.writer.page none n, z)

pub ready_more : (count : ℕ) (x : Writing) → ¬ (space x.writer ≡ 0) → turns.ready count x ≡ x
unfolding turns.ready
ready_more count x n = rw (ne_eqb (space x.writer) 0 n)

-- between two turns, with len bytes to go
pub record Going (D : Type 0) (N : ℕ) (w : World) (len : ℕ) (x : Writing) : Type 0 where
  pub known : Keeps D N w (written_as w x)
  pub active : x.writer.active ≡ true
  pub room : 0 < pages_for (space x.writer) len → pages_for (space x.writer) len < free_count (take w.state.page_count x.map)
  pub fits : x.writer.seq + x.writer.length + len ≤ SeqSpecs.limit

-- a turn that takes n bytes of c ∷ l
abbrev pub Then : Type 0 → ℕ → World → ℕ → List ℕ → ℕ → Writing → Type 0
Then D N w c l n y = Going D N w (length (drop n (c ∷ l))) (put y (take n (c ∷ l)))

module _ {D : Type 0} {N : ℕ} {w : World} {x : Writing} (c : ℕ) (l : List ℕ) (bs : Bytes (c ∷ l)) (g : Going D N w (suc (length l)) x) where
  took : (n : ℕ) → length (take n (c ∷ l)) ≡ min n (suc (length l))
  took n = length-take n (c ∷ l)

  left : (n : ℕ) → length (drop n (c ∷ l)) ≡ suc (length l) - n
  left n = length-drop n (c ∷ l)

  -- a page is found for the next turn
  pub page_found : space x.writer ≡ 0 → MapLaws.Finds (alloc_of x.map w.state.page_count x.cursor)
  page_found e =
      let a = pages_some 0 (suc (length l)) (omega arith) in
      let r = subst (λ (y : ℕ). 0 < pages_for y (suc (length l)) → pages_for y (suc (length l)) < free_count (take w.state.page_count x.map)) e g.room in
      alloc_some x.map w.state.page_count x.cursor (omega (arith, r (omega arith)))

  cursor_in : x.cursor ≤ w.state.page_count
  unfolding with_writer with_cursor
  cursor_in = let s = g.known.good.sees in omega (arith, s.cursor, s.pc)

  free_less : (p : ℕ) → alloc_of x.map w.state.page_count x.cursor ≡ Some p → free_count (take w.state.page_count x.map) ≡ 1 + free_count (take w.state.page_count (set x.map p 1))
  free_less p z = alloc_count x.map w.state.page_count x.cursor cursor_in p z

  pub some : (p : ℕ) → alloc_of x.map w.state.page_count x.cursor ≡ Some p → p ≡ none → ⊥
  unfolding with_writer with_cursor
  some p z y = let s = g.known.good.sees in omega (arith, (alloc_free s.owners w.state.page_count x.cursor p cursor_in z).2, s.small)

  next_room : space x.writer ≡ 0 → (p : ℕ) → alloc_of x.map w.state.page_count x.cursor ≡ Some p → 0 < pages_for (224 - (0 + length (take 224 (c ∷ l)))) (length (drop 224 (c ∷ l)))
      → pages_for (224 - (0 + length (take 224 (c ∷ l)))) (length (drop 224 (c ∷ l))) < free_count (take w.state.page_count (set x.map p 1))
  next_room e p z h =
      let a : 224 - (0 + length (take 224 (c ∷ l))) ≡ 224 - min 224 (suc (length l)) = ap (λ (y : ℕ). 224 - y) (zero-add (length (take 224 (c ∷ l))) ∙ took 224) in
      let d = left 224 in
      let r = subst (λ (y : ℕ). 0 < pages_for y (suc (length l)) → pages_for y (suc (length l)) < free_count (take w.state.page_count x.map)) e g.room in
      rw (a, d) (room_next (suc (length l)) (free_count (take w.state.page_count x.map)) (free_count (take w.state.page_count (set x.map p 1))) (omega arith) r (free_less p z) (rw (a, d) at h))

  -- the first page
  first_turn : x.writer.page ≡ none → (p : ℕ) → alloc_of x.map w.state.page_count x.cursor ≡ Some p
      → Then D N w c l 224 (record { stores = x.stores; map = set x.map p 1; cursor = beyond w.state.page_count p; writer = on_page x.writer p })
  unfolding with_writer with_cursor on_page filled_by
  first_turn n p z =
      let k = g.known.good in
      let q = (k.sees.wr g.active).waits n in
      let a = took 224 in
      let d = left 224 in
      let low : 1 ≤ length (take 224 (c ∷ l)) = omega arith in
      let short : length (take 224 (c ∷ l)) ≤ 224 = omega arith in
      record {
        known = stage_keeps k g.active (take 224 (c ∷ l)) (bytes_take 224 (c ∷ l) bs) low p z short n (omega (arith, g.fits));
        active = g.active;
        room = λ h. subst (λ (y : ℕ). pages_for y (length (drop 224 (c ∷ l))) < free_count (take w.state.page_count (set x.map p 1))) (sym (space' p (some p z)))
            (next_room (space_none x.writer n) p z (subst (λ (y : ℕ). 0 < pages_for y (length (drop 224 (c ∷ l)))) (space' p (some p z)) h));
        fits = omega (arith, g.fits, q.length);
      }
    where
      space' : (p : ℕ) → (p ≡ none → ⊥) → space (filled_by (on_page x.writer p) (take 224 (c ∷ l))) ≡ 224 - (0 + length (take 224 (c ∷ l)))
      space' p n = space_some (filled_by (on_page x.writer p) (take 224 (c ∷ l))) n

  -- a full page stored, and the next one
  next_turn : (x.writer.page ≡ none → ⊥) → space x.writer ≡ 0 → (p : ℕ) → alloc_of x.map w.state.page_count x.cursor ≡ Some p
      → Then D N w c l 224 (record { stores = x.stores ++ flush_stores x.writer; map = set x.map p 1; cursor = beyond w.state.page_count p; writer = on_page (flushed x.writer) p })
  unfolding with_writer with_cursor on_page filled_by flushed
  next_turn n full p z =
      let k = g.known.good in
      let a = took 224 in
      let d = left 224 in
      let low : 1 ≤ length (take 224 (c ∷ l)) = omega arith in
      let short : length (take 224 (c ∷ l)) ≤ 224 = omega arith in
      record {
        known = subst (λ (i : List ℕ). Known D N (record { image = i; map = set x.map p 1; table = w.table; state = with_writer (with_cursor w.state (beyond w.state.page_count p)) (filled_by (on_page (flushed x.writer) p) (take 224 (c ∷ l))) }))
            (sym (ran_append w.image x.stores (flush_stores x.writer)))
            (next_keeps k g.active (take 224 (c ∷ l)) (bytes_take 224 (c ∷ l) bs) low p z short n full_length (omega (arith, g.fits)));
        active = g.active;
        room = λ h. subst (λ (y : ℕ). pages_for y (length (drop 224 (c ∷ l))) < free_count (take w.state.page_count (set x.map p 1))) (sym (space' (some p z)))
            (next_room full p z (subst (λ (y : ℕ). 0 < pages_for y (length (drop 224 (c ∷ l)))) (space' (some p z)) h));
        fits = omega (arith, g.fits);
      }
    where
      full_length : x.writer.length ≡ 224
      full_length =
          let k = g.known.good in
          let s = (staged_ok k g.active n).staged in
          omega (arith, s.long, space_some x.writer n)

      space' : (p ≡ none → ⊥) → space (filled_by (on_page (flushed x.writer) p) (take 224 (c ∷ l))) ≡ 224 - (0 + length (take 224 (c ∷ l)))
      space' n = space_some (filled_by (on_page (flushed x.writer) p) (take 224 (c ∷ l))) n

  -- more on the staged page
  more_turn : (x.writer.page ≡ none → ⊥) → 0 < space x.writer → Then D N w c l (space x.writer) x
  unfolding with_writer with_cursor filled_by
  more_turn n some =
      let k = g.known.good in
      let s = space x.writer in
      let a = took s in
      let d = left s in
      let e = space_some x.writer n in
      let low : 1 ≤ length (take s (c ∷ l)) = omega arith in
      record {
        known = grow_keeps k g.active (take s (c ∷ l)) (bytes_take s (c ∷ l) bs) low n (omega arith) (omega (arith, g.fits));
        active = g.active;
        room = λ h. subst (λ (y : ℕ). pages_for y (length (drop (space x.writer) (c ∷ l))) < free_count (take w.state.page_count x.map)) (sym space')
            (rest (subst (λ (y : ℕ). 0 < pages_for y (length (drop (space x.writer) (c ∷ l)))) space' h));
        fits = omega (arith, g.fits);
      }
    where
      sp : ℕ
      sp = space x.writer

      space' : space (filled_by x.writer (take (space x.writer) (c ∷ l))) ≡ space x.writer - min (space x.writer) (suc (length l))
      space' =
          let e = space_some x.writer n in
          let a = took (space x.writer) in
          let f = space_some (filled_by x.writer (take (space x.writer) (c ∷ l))) n in
          omega arith

      rest : 0 < pages_for (space x.writer - min (space x.writer) (suc (length l))) (length (drop (space x.writer) (c ∷ l)))
          → pages_for (space x.writer - min (space x.writer) (suc (length l))) (length (drop (space x.writer) (c ∷ l))) < free_count (take w.state.page_count x.map)
      rest h =
          let d = left (space x.writer) in
          rw d (room_more (space x.writer) (suc (length l)) (free_count (take w.state.page_count x.map)) g.room (rw d at h))

  -- which of them it is
  pub turn : Then D N w c l (space (turns.ready w.state.page_count x).writer) (turns.ready w.state.page_count x)
  turn = by (ℕ_discrete x.writer.page none) (ℕ_discrete (space x.writer) 0)
    where
      by : Dec (x.writer.page ≡ none) → Dec (space x.writer ≡ 0) → Then D N w c l (space (turns.ready w.state.page_count x).writer) (turns.ready w.state.page_count x)
      by (yes n) d =
          let s = page_found (space_none x.writer n) in
          let y = on_page x.writer s.page in
          subst (λ (v : Writing). Then D N w c l (space v.writer) v) (sym (ready_first w.state.page_count x n s.page s.is))
          (subst (λ (k : ℕ). Then D N w c l k (record { stores = x.stores; map = set x.map s.page 1; cursor = beyond w.state.page_count s.page; writer = y }))
          (sym (fresh_space x.writer s.page (some s.page s.is))) (first_turn n s.page s.is))
      by (no n) (yes z) =
          let s = page_found z in
          subst (λ (v : Writing). Then D N w c l (space v.writer) v) (sym (ready_next w.state.page_count x n z s.page s.is))
          (subst (λ (k : ℕ). Then D N w c l k (record { stores = x.stores ++ flush_stores x.writer; map = set x.map s.page 1; cursor = beyond w.state.page_count s.page; writer = on_page (flushed x.writer) s.page }))
          (sym (fresh_space (flushed x.writer) s.page (some s.page s.is))) (next_turn n z s.page s.is))
      by (no n) (no z) = subst (λ (v : Writing). Then D N w c l (space v.writer) v) (sym (ready_more w.state.page_count x z)) (more_turn n (omega arith))

-- all turns
write_from_lem : {D : Type 0} {N : ℕ} {w : World} (k : ℕ) (l : List ℕ) (x : Writing) → Bytes l → Going D N w (length l) x → Keeps D N w (written_as w (write_from w.state.page_count k l x))
unfolding write_from
write_from_lem zero l x bs g = g.known
write_from_lem (suc k) [] x bs g = g.known
write_from_lem {D} {N} {w} (suc k) (c ∷ l) x bs g =
    let y = turns.ready w.state.page_count x in
    write_from_lem k (drop (space y.writer) (c ∷ l)) (put y (take (space y.writer) (c ∷ l))) (bytes_drop (space y.writer) (c ∷ l) bs) (turn c l bs g)

module _ {D : Type 0} {N : ℕ} {w : World} {b : Base} {own : ℕ → Owner} (g : Good D N w b own) where
  in_keeps : (l : List ℕ) → Bytes l → Keeps D N w (write_in w l)
  unfolding write_in with_writer with_cursor
  in_keeps l bs =
      cond_by (Keeps D N w) (not w.state.writer.active) _ _ (λ e. known g)
      (λ e. cond_by (Keeps D N w) (ltb SeqSpecs.limit (w.state.writer.seq + w.state.writer.length + length l)) _ _ (λ h. known g)
      (λ h. cond_by (Keeps D N w) (too_few w.map w.state.page_count (pages_for (space w.state.writer) (length l))) _ _ (λ t. known g)
      (λ t. write_from_lem {w = w} (length l) l (begun w) bs
      (record {
        known = known g;
        active = not-false w.state.writer.active e;
        room = few_room w.map w.state.page_count (pages_for (space w.state.writer) (length l)) t;
        fits = ltb-false SeqSpecs.limit (w.state.writer.seq + w.state.writer.length + length l) h;
      }))))

  -- WRITE
  pub write_keeps : (l : List ℕ) → Bytes l → Keeps D N w (write w l)
  unfolding write
  write_keeps l bs =
      checked_by (Keeps D N w) w false 0 _ _ (λ why. known g)
      (λ h. cond_by (Keeps D N w) (eqb (length l) 0) _ _ (λ e. known g) (λ e. in_keeps l bs))
