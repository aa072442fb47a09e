-- The pages of a walk, counted step by step. Assumes nothing.
use mathlib.Core.Path.{◌≡◌, refl, ap, ◌∙◌}
use mathlib.Core.List.{◌∷◌}
use Prim.Native.Nat.{ℕ, ◌+◌, ◌<◌}
use native.Mathlib.Omega.{arith}
use Rattle.std.specs.Prelude.{Option, Some, None}
use Rattle.page.specs.Page.{Read}
use Rattle.chain.specs.declared.PagePointer.{PagePointer}
use Rattle.chain.specs.declared.Place.{Place}
use Rattle.chain.specs.declared.Step.{Step}
use Rattle.chain.specs.declared.Step.TheVariants.{Stays, Reaches, Breaks}
use Rattle.chain.specs.Steps.{Sought, damaged, at, Trace, stop, through, back_rule, step, walk}
use Rattle.chain.specs.Back.{place_of, wide, told_back, thinned, thin, walk_back}
use Rattle.chain.proofs.Places.{says_back, walk_wide}
use Rattle.inventory.specs.Inventory.{counted_by}

abbrev pub counted : ℕ → Trace → Option ℕ
counted n t = counted_by n t.path t.ends

-- a walk that stays has no page more, one that breaks counts none, one that goes on counts the page that it reaches
counted_stays : (n : ℕ) (t : Trace) (p : PagePointer) → t ≡ stop (at p) → counted n t ≡ Some n
counted_stays n t p e = rw e (let z : n + 0 ≡ n = omega arith in rw z)

counted_breaks : (n : ℕ) (t : Trace) → t.ends ≡ damaged → counted n t ≡ None
counted_breaks n t e = rw e

counted_reaches : (n j : ℕ) (t u : Trace) → t ≡ through j u → counted (n + 1) u ≡ counted n t
counted_reaches n j t u e = rw e (by u.ends)
  where
    by : (s : Sought) → counted_by (n + 1) u.path s ≡ counted_by n (j ∷ u.path) s
    by damaged = refl
    by (at q) = ap (λ (k : ℕ). Some k) (omega arith)

-- as many where no more is told of the last page than a step back asks
counted_thin : (n : ℕ) (t : Trace) → counted n (thin t) ≡ counted n t
counted_thin n t = by t.ends
  where
    by : (s : Sought) → counted_by n t.path (thinned s) ≡ counted_by n t.path s
    by damaged = refl
    by (at q) = refl

-- ---- after n pages from a place, by what the step there says

module _ (count : ℕ) (read : ℕ → Read) (limit : ℕ) where
  unfoldable pub counts_from : ℕ → Place → Option ℕ
  counts_from n p = counted n (walk_back count read limit p)

  abbrev told : Place → Step Place
  told p = told_back (step (back_rule count limit) read (wide p))

  pub counts_page : (n : ℕ) (p : PagePointer) → counts_from n (place_of p) ≡ counted n (walk count read limit p)
  unfolding counts_from
  counts_page n p = ap (counted n) (walk_wide count read limit p) ∙ counted_thin n (walk count read limit p)

  pub counts_stays : (n : ℕ) (p : Place) → Stays ≡ told p → counts_from n p ≡ Some n
  unfolding counts_from
  counts_stays n p h = counted_stays n _ _ (says_back count read limit p Stays h)

  pub counts_breaks : (n : ℕ) (p : Place) → Breaks ≡ told p → counts_from n p ≡ None
  unfolding counts_from
  counts_breaks n p h = counted_breaks n _ (says_back count read limit p Breaks h)

  pub counts_reaches : (n : ℕ) (p q : Place) → Reaches q ≡ told p → counts_from (n + 1) q ≡ counts_from n p
  unfolding counts_from
  counts_reaches n p q h = counted_reaches n q.page_id _ _ (says_back count read limit p (Reaches q) h).0

  pub counts_fall : (p q : Place) → Reaches q ≡ told p → q.seq < p.seq
  counts_fall p q h = (says_back count read limit p (Reaches q) h).1
