-- What a discard takes back: the pages that the writer stored and the one it stages, and no other. Assumes nothing.
use Prim.Native.Nat.{ℕ, zero, suc}
use mathlib.Core.Path.{◌≡◌, refl, sym, ap, ◌∙◌}
use mathlib.Core.List.{List, [], ◌∷◌}
use native.Mathlib.Numerals.{add-one}
use native.Mathlib.Omega.{arith}
use borrow.Author.Tests.{eq-eqb, ne_eqb}
use lib.ListN.{take, get_or, set}
use lib.Seq.{set-set}
use Rattle.seq.specs.Ids.{none}
use Rattle.map.specs.Map.{free, used}
use Rattle.chain.specs.declared.PagePointer.{PagePointer}
use Rattle.chain.specs.Links.{ids}
use Rattle.state.specs.declared.types.Writer.{Writer}
use Rattle.writer.specs.Staging.{staged_header, flushed, on_page, filled_by}
use Rattle.writer.specs.Finish.{marked, freed}
use Rattle.writer.specs.Holds.{Undoes}

-- ---- marks

set_swap : (m : List ℕ) (a b : ℕ) → set (set m a free) b free ≡ set (set m b free) a free
set_swap [] a b = refl
set_swap (x ∷ m) zero zero = refl
set_swap (x ∷ m) zero (suc b) = refl
set_swap (x ∷ m) (suc a) zero = refl
set_swap (x ∷ m) (suc a) (suc b) = ap (λ (l : List ℕ). x ∷ l) (set_swap m a b)

-- freeing one before or after the others
freed_set : (js m : List ℕ) (p : ℕ) → freed (set m p free) js ≡ set (freed m js) p free
freed_set [] m p = refl
freed_set (j ∷ js) m p = ap (λ (l : List ℕ). freed l js) (set_swap m p j) ∙ freed_set js (set m j free) p

-- freeing what is free
pub set_free : (m : List ℕ) (i : ℕ) → get_or m i 1 ≡ 0 → set m i free ≡ m
set_free [] i h = refl
set_free (x ∷ m) zero h = ap (λ (y : ℕ). y ∷ m) (sym h)
set_free (x ∷ m) (suc i) h = ap (λ (l : List ℕ). x ∷ l) (set_free m i h)

marked_none : (m : List ℕ) (p : ℕ) → p ≡ none → marked m p free ≡ m
marked_none m p e = rw (eq-eqb p none e)

pub marked_some : (m : List ℕ) (p : ℕ) → (p ≡ none → ⊥) → marked m p free ≡ set m p free
marked_some m p n = rw (ne_eqb p none n)

-- ---- kept by each step

module _ (old : List PagePointer) (was : List ℕ) (m : List ℕ) (x : Writer) (l : List PagePointer) (h : Undoes old was m x l) where
  pub flush_undoes : (x.page ≡ none → ⊥) → Undoes old was m (flushed x) (record { page_id = x.page; header = staged_header x } ∷ l)
  unfolding flushed
  flush_undoes n =
      let e = add-one x.stored in
      record {
        base = rw e h.base;
        most = omega (arith, h.most);
        undo = rw e (freed_set (ids (take x.stored l)) m x.page ∙ sym (marked_some (freed m (ids (take x.stored l))) x.page n) ∙ h.undo);
      }

  pub page_undoes : (i : ℕ) → x.page ≡ none → (i ≡ none → ⊥) → get_or m i 1 ≡ 0 → Undoes old was (set m i used) (on_page x i) l
  unfolding on_page
  page_undoes i e n f =
      let js = ids (take x.stored l) in
      record {
        base = h.base;
        most = h.most;
        undo =
            marked_some (freed (set m i used) js) i n
            ∙ sym (freed_set js (set m i used) i)
            ∙ ap (λ (k : List ℕ). freed k js) (set-set m i used free ∙ set_free m i f)
            ∙ sym (marked_none (freed m js) x.page e)
            ∙ h.undo;
      }

  pub put_undoes : (a : List ℕ) → Undoes old was m (filled_by x a) l
  unfolding filled_by
  put_undoes a = record { base = h.base; most = h.most; undo = h.undo }
