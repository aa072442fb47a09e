-- A list of a field of a table's files, and two files that are swapped. Assumes nothing.
use mathlib.Core.Path.{◌≡◌, refl, sym, ◌∙◌, ap, subst}
use mathlib.Core.List.{List, map}
use Prim.Native.Nat.{ℕ, zero, suc, ◌+◌, ◌≤◌, ◌<◌}
use native.Mathlib.Omega.{arith}
use borrow.Author.Tests.{eqb-true, eqb-false}
use mathlib.Core.Bool.{Bool, true, false}
use lib.Dec.{eqb}
use lib.ListN.{length, get_or, set, length-map, length-set}
use lib.Seq.{get_or-set_same, get_or-set_other, set-set, set_comm}
use mir.Val.{Val}
use denote.Laws.{Is}
use denote.Param.Members.{Mut, Called}
use Rattle.std.specs.Array.{IsFromFnResult, IsFromFnResultFrom}
use Rattle.std.proofs.lemmas.List.{get_or-map, same_lists}
use Rattle.state.specs.contracts.types.Table as T
use Rattle.state.specs.declared.types.FileRecord.{FileRecord}
use Rattle.state.specs.declared.types.Table.{Table}
use Rattle.state.specs.Values.{absent}

-- a table that a caller hands in has eight files
pub table_eight : (t : Table) (vs : List Val) → Is T.the_row t vs → length t.files ≡ 8
table_eight t vs p = p.1.1.0.1.0.1

-- an array by a function that stays as it is, and gives at each index a value of that file
module _ {F B : Type 0} (g : Mut F (ℕ × Unit {0}) B) (f : F) (ys : List B) (fs : List FileRecord) (v : FileRecord → B)
    (at_each : (i : ℕ) (y : B) (q : F) → Called g f (i, tt) y q → (q ≡ f) × (y ≡ v (get_or fs i absent))) where
  made_from : (i n : ℕ) (p : F) → p ≡ f → IsFromFnResultFrom g p ys i n → (k : ℕ) (d : B) → i ≤ k → k < i + n → get_or ys k d ≡ v (get_or fs k absent)
  made_from i zero p e m k d low high = absurd (omega arith)
  made_from i (suc n) p e (q, y, is, called, rest) k d low high =
      let s = at_each i y q (subst (λ (x : F). Called g x (i, tt) y q) e called) in
      by s (eqb k i) refl (λ l. made_from (i + 1) n q s.0 rest k d l (omega arith))
    where
      by : (q ≡ f) × (y ≡ v (get_or fs i absent)) → (b : Bool) → eqb k i ≡ b → (i + 1 ≤ k → get_or ys k d ≡ v (get_or fs k absent))
          → get_or ys k d ≡ v (get_or fs k absent)
      by s true t r = let z : k ≡ i = eqb-true k i t in rw z (is.1 d ∙ s.1)
      by s false t r = let z = eqb-false k i t in r (omega arith)

  made_all : IsFromFnResult g f ys 8 → length fs ≡ 8 → ys ≡ map v fs
  made_all m eight =
      same_lists ys (map v fs) (m.long ∙ sym eight ∙ sym (length-map fs v))
      (λ k d h. let l : k < 8 = omega (arith, m.long) in made_from 0 8 f refl m.each k d (omega arith) (omega arith) ∙ sym (get_or-map v fs k absent d (omega arith)))

-- so it has each file's
pub made_fields : {F B : Type 0} {g : Mut F (ℕ × Unit {0}) B} {f : F} {ys : List B} (fs : List FileRecord) (v : FileRecord → B)
    → IsFromFnResult g f ys 8 → length fs ≡ 8
    → ((i : ℕ) (y : B) (q : F) → Called g f (i, tt) y q → (q ≡ f) × (y ≡ v (get_or fs i absent)))
    → ys ≡ map v fs
made_fields {F} {B} {g} {f} {ys} fs v m eight at_each = made_all g f ys fs v at_each m eight

-- two that are swapped and then marked were marked and swapped
module _ {X : Type 0} (mark : X → X) (once : (x : X) → mark (mark x) ≡ mark x) (l : List X) (i j : ℕ) (d : X) (h : i < length l) (k : j < length l) where
  abbrev both_marked : List X → List X
  both_marked s = let t = set s i (mark (get_or s i d)) in set t j (mark (get_or t j d))

  pub marked_swap : (s : List X) → s ≡ set (set l i (get_or l j d)) j (get_or l i d) → both_marked s ≡ set (set l i (mark (get_or l j d))) j (mark (get_or l i d))
  marked_swap s e = ap both_marked e ∙ by (eqb i j) refl
    where
      by : (b : Bool) → eqb i j ≡ b → both_marked (set (set l i (get_or l j d)) j (get_or l i d)) ≡ set (set l i (mark (get_or l j d))) j (mark (get_or l i d))
      by true t = let z : j ≡ i = sym (eqb-true i j t) in rw z (rw (set-set l i x x, get_or-set_same l i x d h, get_or-set_same (set l i x) i (mark x) d (rw (length-set l i x) h), once x) (simp set-set))
        where
          x : X
          x = get_or l i d
      by false t =
          let n = eqb-false i j t in
          let m : j ≡ i → ⊥ = λ e. n (sym e) in
          let u : get_or (set (set l i y) j x) i d ≡ y = get_or-set_other (set l i y) j i x d n ∙ get_or-set_same l i y d h in
          let v : get_or (set (set (set l i y) j x) i (mark y)) j d ≡ x =
          get_or-set_other (set (set l i y) j x) i j (mark y) d m ∙ get_or-set_same (set l i y) j x d (rw (length-set l i y) k) in
          rw (u, v, set_comm (set l i y) j i x (mark y) m, set-set l i y (mark y), set-set (set l i (mark y)) j x (mark x)) refl
        where
          x : X
          x = get_or l i d

          y : X
          y = get_or l j d
