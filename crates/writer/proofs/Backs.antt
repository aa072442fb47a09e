-- A discard's walk, step by step. Assumes nothing.
use Prim.Native.Nat.{ℕ, zero, suc, ◌+◌, ◌-◌, ◌≤◌, ◌<◌}
use mathlib.Core.Path.{◌≡◌, refl, sym, ap, ◌∙◌}
use mathlib.Core.Bool.{true, false}
use mathlib.Core.List.{List, [], ◌∷◌}
use native.Mathlib.Numerals.{sub-one}
use native.Mathlib.Omega.{arith}
use lib.ListN.{set}
use Rattle.page.specs.Page.{Read}
use Rattle.map.specs.Map.{free}
use Rattle.chain.specs.declared.PagePointer.{PagePointer}
use Rattle.chain.specs.declared.Step.{Step}
use Rattle.chain.specs.declared.Step.TheVariants.{Stays, Reaches, Breaks}
use Rattle.chain.specs.declared.Place.{Place}
use Rattle.chain.specs.Steps.{back_rule, Stepped, stays, reaches, breaks, step}
use Rattle.chain.specs.Back.{place_of, wide, told_back}
use Rattle.chain.proofs.Places.{Reached, BacksTo, backs_to, step_wide}
use Rattle.writer.specs.Finish.{Back, lost, pages, beside, back_by, back_from, freed}
use Rattle.writer.specs.Inner.{unbroken, freed_by}

module _ (count : ℕ) (read : ℕ → Read) where
  -- a page's place says as much as the page
  pub back_wide : (n : ℕ) (p : PagePointer) (x : Place) → x ≡ place_of p → back_from count read n (wide x) ≡ back_from count read n p
  unfolding back_from
  back_wide zero p x e = refl
  back_wide (suc zero) p x e = rw e
  back_wide (suc (suc n)) p x e =
      rw e (ap (λ (s : Stepped). beside p.page_id (back_by s (λ q. back_from count read (suc n) q))) (step_wide count read 0 p))

  -- one step of more than one page
  pub back_step : (n : ℕ) (p : PagePointer) → 1 < n
      → back_from count read n p ≡ beside p.page_id (back_by (step (back_rule count 0) read p) (λ q. back_from count read (n - 1) q))
  unfolding back_from
  back_step zero p h = absurd (omega arith)
  back_step (suc zero) p h = absurd (omega arith)
  back_step (suc (suc n)) p h = rw (sub-one (suc (suc n)))

  pub back_reaches : (n : ℕ) (p q : PagePointer) → 1 < n → step (back_rule count 0) read p ≡ reaches q
      → back_from count read n p ≡ beside p.page_id (back_from count read (n - 1) q)
  back_reaches n p q h e = back_step n p h ∙ rw e

  pub back_stays : (n : ℕ) (p : PagePointer) → 1 < n → step (back_rule count 0) read p ≡ stays → back_from count read n p ≡ lost
  back_stays n p h e = back_step n p h ∙ rw e

  pub back_breaks : (n : ℕ) (p : PagePointer) → 1 < n → step (back_rule count 0) read p ≡ breaks → back_from count read n p ≡ lost
  back_breaks n p h e = back_step n p h ∙ rw e

  -- a page alone, or none
  pub back_few : (n : ℕ) (p : PagePointer) → n ≤ 1 → unbroken (back_from count read n p) ≡ true
  unfolding back_from
  back_few zero p h = refl
  back_few (suc zero) p h = refl
  back_few (suc (suc n)) p h = absurd (omega arith)

  pub beside_unbroken : (p : ℕ) (b : Back) → unbroken (beside p b) ≡ unbroken b
  beside_unbroken p lost = refl
  beside_unbroken p (pages l) = refl

  -- one step more is unbroken where the rest is
  unbroken_next : (n : ℕ) (p q : PagePointer) → 1 < n → step (back_rule count 0) read p ≡ reaches q
      → unbroken (back_from count read (n - 1) q) ≡ unbroken (back_from count read n p)
  unbroken_next n p q h e =
      sym (ap unbroken (back_reaches n p q h e) ∙ beside_unbroken p.page_id (back_from count read (n - 1) q))

  pub unbroken_step : (n : ℕ) (p : PagePointer) (x : Place) → 1 < n → Reached (step (back_rule count 0) read p) x
      → unbroken (back_from count read (n - 1) (wide x)) ≡ unbroken (back_from count read n p)
  unbroken_step n p x h r = ap unbroken (back_wide (n - 1) r.0 x r.2) ∙ unbroken_next n p r.0 h r.1

  -- ---- the code's loop, which counts i from 1 up to n: n + 1 - i pages are left, with the one at hand

  pub unbroken_first : (n : ℕ) (p : PagePointer) (x : Place) → x ≡ place_of p
      → unbroken (back_from count read (n + 1 - 1) (wide x)) ≡ unbroken (back_from count read n p)
  unbroken_first n p x e = let k : n + 1 - 1 ≡ n = omega arith in rw k (ap unbroken (back_wide n p x e))

  left_next : (n i : ℕ) → i < n → n + 1 - (i + 1) ≡ n + 1 - i - 1
  left_next n i h = omega arith

  -- one more page
  pub unbroken_more : (n i : ℕ) (x y : Place) → i < n → Reaches y ≡ told_back (step (back_rule count 0) read (wide x))
      → unbroken (back_from count read (n + 1 - (i + 1)) (wide y)) ≡ unbroken (back_from count read (n + 1 - i) (wide x))
  unbroken_more n i x y h e = rw (left_next n i h) (unbroken_step (n + 1 - i) (wide x) y (omega arith) (backs_to _ _ e))

  -- a step that reaches no page breaks the walk
  pub unbroken_stuck : (n i : ℕ) (x : Place) (t : Step Place) → i < n → t ≡ told_back (step (back_rule count 0) read (wide x))
      → ((q : Place) → t ≡ Reaches q → ⊥) → unbroken (back_from count read (n + 1 - i) (wide x)) ≡ false
  unbroken_stuck n i x t h e never = by t refl (backs_to t _ e)
    where
      more : 1 < n + 1 - i
      more = omega arith

      by : (y : Step Place) → t ≡ y → BacksTo (step (back_rule count 0) read (wide x)) y → unbroken (back_from count read (n + 1 - i) (wide x)) ≡ false
      by (Reaches q) f g = absurd (never q f)
      by Stays f g = ap unbroken (back_stays (n + 1 - i) (wide x) more g)
      by Breaks f g = ap unbroken (back_breaks (n + 1 - i) (wide x) more g)

  pub unbroken_last : (n i : ℕ) (x : Place) → n ≤ i → unbroken (back_from count read (n + 1 - i) (wide x)) ≡ true
  unbroken_last n i x h = back_few (n + 1 - i) (wide x) (omega arith)

  -- ---- pages freed, the first of them already
  abbrev pub freed_after : List ℕ → Back → List ℕ
  freed_after m lost = m
  freed_after m (pages []) = m
  freed_after m (pages (p ∷ l)) = freed m l

  beside_after : (m : List ℕ) (p : ℕ) (b : Back) → unbroken b ≡ true → freed_after (set m p free) (beside p b) ≡ freed_by m (beside p b)
  beside_after m p lost u = let y : ◌≡◌ {A = ℕ} 0 1 = cc in absurd (omega arith)
  beside_after m p (pages l) u = refl

  pub freed_first : (n : ℕ) (m : List ℕ) (p : PagePointer) → 1 ≤ n → unbroken (back_from count read n p) ≡ true
      → freed_after (set m p.page_id free) (back_from count read n p) ≡ freed_by m (back_from count read n p)
  unfolding back_from
  freed_first zero m p h u = absurd (omega arith)
  freed_first (suc zero) m p h u = refl
  freed_first (suc (suc n)) m p h u =
      let b = back_by (step (back_rule count 0) read p) (λ q. back_from count read (suc n) q) in
      beside_after m p.page_id b (sym (beside_unbroken p.page_id b) ∙ u)

  beside_rest : (m : List ℕ) (p : ℕ) (b : Back) → unbroken b ≡ true → freed_by m b ≡ freed_after m (beside p b)
  beside_rest m p lost u = let y : ◌≡◌ {A = ℕ} 0 1 = cc in absurd (omega arith)
  beside_rest m p (pages l) u = refl

  -- one page more is freed
  pub freed_next : (n : ℕ) (m : List ℕ) (p : PagePointer) (x : Place) → 1 < n → Reached (step (back_rule count 0) read p) x
      → unbroken (back_from count read n p) ≡ true
      → freed_after (set m x.page_id free) (back_from count read (n - 1) (wide x)) ≡ freed_after m (back_from count read n p)
  freed_next n m p x h r u =
      let q = r.0 in
      let k = unbroken_next n p q h r.1 ∙ u in
      ap (λ (y : Place). freed_after (set m y.page_id free) (back_from count read (n - 1) (wide y))) r.2
      ∙ ap (freed_after (set m q.page_id free)) (back_wide (n - 1) q (place_of q) refl)
      ∙ freed_first (n - 1) m q (omega arith) k
      ∙ beside_rest m p.page_id (back_from count read (n - 1) q) k
      ∙ sym (ap (freed_after m) (back_reaches n p q h r.1))

  freed_one : (n : ℕ) (m : List ℕ) (p : PagePointer) → n ≡ 1 → freed_after m (back_from count read n p) ≡ m
  unfolding back_from
  freed_one n m p e = rw e

  -- ---- the same loop

  pub freed_start : (n : ℕ) (m : List ℕ) (p : PagePointer) (x : Place) → x ≡ place_of p → 0 < n → unbroken (back_from count read n p) ≡ true
      → freed_after (set m x.page_id free) (back_from count read (n + 1 - 1) (wide x)) ≡ freed_by m (back_from count read n p)
  freed_start n m p x e h u =
      let k : n + 1 - 1 ≡ n = omega arith in
      rw k (ap (λ (b : Back). freed_after (set m x.page_id free) b) (back_wide n p x e) ∙ rw e (freed_first n m p h u))

  pub freed_more : (n i : ℕ) (m : List ℕ) (x y : Place) → i < n → Reaches y ≡ told_back (step (back_rule count 0) read (wide x))
      → unbroken (back_from count read (n + 1 - i) (wide x)) ≡ true
      → freed_after (set m y.page_id free) (back_from count read (n + 1 - (i + 1)) (wide y)) ≡ freed_after m (back_from count read (n + 1 - i) (wide x))
  freed_more n i m x y h e u = rw (left_next n i h) (freed_next (n + 1 - i) m (wide x) y (omega arith) (backs_to _ _ e) u)

  pub freed_end : (n i : ℕ) (m : List ℕ) (x : Place) → i ≡ n → freed_after m (back_from count read (n + 1 - i) (wide x)) ≡ m
  freed_end n i m x e = freed_one (n + 1 - i) m (wide x) (omega arith)

  pub freed_none : (n : ℕ) (m : List ℕ) (p : PagePointer) → n ≡ 0 → m ≡ freed_by m (back_from count read n p)
  unfolding back_from
  freed_none n m p e = rw e
