-- A writer's session: a write adds its bytes to the writer's, and a finish makes them the file's. Assumes nothing.
use Rattle.seq.specs.Ids.{none}
use Rattle.state.specs.World.{World}
use Rattle.map.specs.Map.{beyond}
use Rattle.writer.specs.Staging.{flush_stores, filled_by, on_page, flushed, space}
use Rattle.writer.specs.Write.{Writing, write_from, put}
use Rattle.writer.specs.Write as turns
use Prim.Native.Nat.{ℕ, zero, suc, ◌≤◌}
use mathlib.Core.Path.{◌≡◌, refl, sym, ap, subst, ◌∙◌}
use mathlib.Core.List.{List, [], ◌∷◌, ◌++◌, append_assoc, append-nil}
use native.Mathlib.Omega.{arith}
use native.Mathlib.Decide.{ℕ_discrete}
use lib.ListN.{length, take, drop, set, length-take, length-drop, take-append-drop}
use Rattle.reached.proofs.Drafts.{Drafted, drafted_grown, drafted_staged, drafted_next}
use Rattle.agree.specs.Rules.{Reaches, staged_page}
use Rattle.agree.specs.View.{as_file, rec_at}
use Rattle.agree.proofs.Finish.{numbers}
use Rattle.agree.proofs.Staged.{staged_ok}
use Rattle.agree.proofs.Writes.{space_none, space_some, fresh_space, ready_first, ready_next, ready_more, Going, page_found, some, turn}
use Rattle.owners.specs.State.{first_of}
use Rattle.page.specs.Page.{Bytes}
use Rattle.page.specs.Store.{ran}
use Rattle.page.proofs.Laws.{ran_append, bytes_drop}
use Rattle.state.specs.Values.{with_cursor, with_writer}

-- the writer's bytes in the midst of a write, with g so far
abbrev pub Spelt : World → Writing → List ℕ → Type 0
Spelt w x g = Drafted (ran w.image x.stores) w.state.page_count (first_of (as_file (rec_at w.table x.writer.file))) x.writer g

module _ {N : ℕ} {w : World} {x : Writing} (c : ℕ) (l : List ℕ) (bs : Bytes (c ∷ l)) (k : Going (Unit {0}) N w (suc (length l)) x) (g : List ℕ) (d : Spelt w x g) where
  abbrev Next : Writing → ℕ → Type 0
  Next y n = Spelt w (put y (take n (c ∷ l))) (g ++ take n (c ∷ l))

  whole : length x.writer.staged ≡ 224
  unfolding with_writer with_cursor
  whole = (k.known.good.sees.wr k.active).size

  pc_is : w.state.page_count ≡ k.known.base.pc
  unfolding with_writer with_cursor
  pc_is = k.known.good.sees.pc

  first_spelt : x.writer.page ≡ none → (p : ℕ) → Next (record { stores = x.stores; map = set x.map p 1; cursor = beyond w.state.page_count p; writer = on_page x.writer p }) 224
  unfolding with_writer with_cursor on_page filled_by
  first_spelt n p =
      let q = (k.known.good.sees.wr k.active).waits n in
      drafted_staged (ran w.image x.stores) w.state.page_count _ x.writer g (take 224 (c ∷ l)) whole d p q.length (omega (arith, length-take 224 (c ∷ l)))

  next_spelt : (n : x.writer.page ≡ none → ⊥) (p : ℕ)
      → Next (record { stores = x.stores ++ flush_stores x.writer; map = set x.map p 1; cursor = beyond w.state.page_count p; writer = on_page (flushed x.writer) p }) 224
  unfolding with_writer with_cursor on_page filled_by flushed
  next_spelt n p =
      let G = k.known.good in
      let m = staged_ok G k.active n in
      let f = rec_at w.table x.writer.file in
      let z = (numbers (ran w.image x.stores) f (G.sees.recs x.writer.file)).0 in
      let r = subst (λ (j : ℕ). Reaches (ran w.image x.stores) k.known.base.pc j (staged_page x.writer)) (sym z) (((G.rules tt).wr k.active).chain n) in
      let d' = subst (λ (j : ℕ). Drafted (ran w.image x.stores) j (first_of (as_file f)) x.writer g) pc_is d in
      let e = drafted_next m r p g (take 224 (c ∷ l)) (omega (arith, length-take 224 (c ∷ l))) d' in
      subst (λ (j : ℕ). Drafted (ran w.image (x.stores ++ flush_stores x.writer)) j (first_of (as_file f)) (filled_by (on_page (flushed x.writer) p) (take 224 (c ∷ l))) (g ++ take 224 (c ∷ l))) (sym pc_is)
      (subst (λ (i : List ℕ). Drafted i k.known.base.pc (first_of (as_file f)) (filled_by (on_page (flushed x.writer) p) (take 224 (c ∷ l))) (g ++ take 224 (c ∷ l))) (sym (ran_append w.image x.stores (flush_stores x.writer))) e)

  more_spelt : (x.writer.page ≡ none → ⊥) → Next x (space x.writer)
  unfolding with_writer with_cursor filled_by
  more_spelt n =
      let s = space_some x.writer n in
      let m = staged_ok k.known.good k.active n in
      drafted_grown (ran w.image x.stores) w.state.page_count _ x.writer g (take (space x.writer) (c ∷ l)) whole d (omega (arith, length-take (space x.writer) (c ∷ l), m.staged.long))

  turn_spelt : Next (turns.ready w.state.page_count x) (space (turns.ready w.state.page_count x).writer)
  turn_spelt = by (ℕ_discrete x.writer.page none) (ℕ_discrete (space x.writer) 0)
    where
      by : Dec (x.writer.page ≡ none) → Dec (space x.writer ≡ 0) → Next (turns.ready w.state.page_count x) (space (turns.ready w.state.page_count x).writer)
      by (yes n) e =
          let s = page_found c l bs k (space_none x.writer n) in
          subst (λ (v : Writing). Next v (space v.writer)) (sym (ready_first w.state.page_count x n s.page s.is))
          (subst (Next (record { stores = x.stores; map = set x.map s.page 1; cursor = beyond w.state.page_count s.page; writer = on_page x.writer s.page })) (sym (fresh_space x.writer s.page (some c l bs k s.page s.is))) (first_spelt n s.page))
      by (no n) (yes e) =
          let s = page_found c l bs k e in
          subst (λ (v : Writing). Next v (space v.writer)) (sym (ready_next w.state.page_count x n e s.page s.is))
          (subst (Next (record { stores = x.stores ++ flush_stores x.writer; map = set x.map s.page 1; cursor = beyond w.state.page_count s.page; writer = on_page (flushed x.writer) s.page }))
          (sym (fresh_space (flushed x.writer) s.page (some c l bs k s.page s.is))) (next_spelt n s.page))
      by (no n) (no e) = subst (λ (v : Writing). Next v (space v.writer)) (sym (ready_more w.state.page_count x e)) (more_spelt n)

-- a turn takes a byte at least
ready_space : {N : ℕ} {w : World} {x : Writing} (c : ℕ) (l : List ℕ) → Bytes (c ∷ l) → Going (Unit {0}) N w (suc (length l)) x → 1 ≤ space (turns.ready w.state.page_count x).writer
ready_space {N} {w} {x} c l bs k = by (ℕ_discrete x.writer.page none) (ℕ_discrete (space x.writer) 0)
  where
    by : Dec (x.writer.page ≡ none) → Dec (space x.writer ≡ 0) → 1 ≤ space (turns.ready w.state.page_count x).writer
    by (yes n) e =
        let s = page_found c l bs k (space_none x.writer n) in
        subst (λ (v : Writing). 1 ≤ space v.writer) (sym (ready_first w.state.page_count x n s.page s.is)) (omega (arith, fresh_space x.writer s.page (some c l bs k s.page s.is)))
    by (no n) (yes e) =
        let s = page_found c l bs k e in
        subst (λ (v : Writing). 1 ≤ space v.writer) (sym (ready_next w.state.page_count x n e s.page s.is)) (omega (arith, fresh_space (flushed x.writer) s.page (some c l bs k s.page s.is)))
    by (no n) (no e) = subst (λ (v : Writing). 1 ≤ space v.writer) (sym (ready_more w.state.page_count x e)) (omega arith)

-- all turns: as much fuel as bytes takes them all
pub write_spelt : {N : ℕ} {w : World} (k : ℕ) (l : List ℕ) (x : Writing) (g : List ℕ) → Bytes l → length l ≤ k → Going (Unit {0}) N w (length l) x → Spelt w x g → Spelt w (write_from w.state.page_count k l x) (g ++ l)
unfolding write_from
write_spelt {N} {w} zero l x g bs h j d = subst (Spelt w x) (sym (ap (λ (y : List ℕ). g ++ y) (none_left l (omega arith)) ∙ append-nil g)) d
  where
    none_left : (l : List ℕ) → length l ≡ 0 → l ≡ []
    none_left [] e = refl
    none_left (y ∷ l) e = absurd (omega arith)
write_spelt {N} {w} (suc k) [] x g bs h j d = subst (Spelt w x) (sym (append-nil g)) d
write_spelt {N} {w} (suc k) (c ∷ l) x g bs h j d =
    let y = turns.ready w.state.page_count x in
    let n = space y.writer in
    let some_taken : 1 ≤ space (turns.ready w.state.page_count x).writer = ready_space c l bs j in
    subst (Spelt w (write_from w.state.page_count k (drop n (c ∷ l)) (put y (take n (c ∷ l)))))
    (append_assoc g (take n (c ∷ l)) (drop n (c ∷ l)) ∙ ap (λ (z : List ℕ). g ++ z) (take-append-drop n (c ∷ l)))
    (write_spelt k (drop n (c ∷ l)) (put y (take n (c ∷ l))) (g ++ take n (c ∷ l)) (bytes_drop n (c ∷ l) bs) (omega (arith, length-drop n (c ∷ l))) (turn c l bs j) (turn_spelt c l bs j g d))
