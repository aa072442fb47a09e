-- The walk that claims its pages, a step at a time. Assumes nothing.
use mathlib.Core.Path.{◌≡◌, refl, sym, ap, ◌∙◌}
use mathlib.Core.Bool.{true, false}
use mathlib.Core.List.{List}
use Prim.Native.Nat.{ℕ, ◌<◌}
use lib.Dec.{eqb}
use lib.ListN.{get_or, set}
use Rattle.map.specs.Map.{used}
use Rattle.page.specs.Page.{Read}
use Rattle.chain.specs.declared.PagePointer.{PagePointer}
use Rattle.chain.specs.declared.Place.{Place}
use Rattle.chain.specs.declared.Step.{Step}
use Rattle.chain.specs.declared.Step.TheVariants.{Stays, Reaches, Breaks}
use Rattle.chain.specs.Steps.{back_rule, step, Sought, damaged, at, Trace, stop, through, walk}
use Rattle.chain.specs.Back.{place_of, wide, told_back, thinned, thin, walk_back}
use Rattle.chain.proofs.Places.{says_back, walk_wide}
use Rattle.volume.specs.Mount.{Maybe, bad, good, claim, claimed}

module _ (m : List ℕ) (p : PagePointer) (t : Trace) where
  -- the page is not free
  pub claim_taken : eqb (get_or m p.page_id 0) 0 ≡ false → bad ≡ claimed m p t t.ends
  unfolding claim
  claim_taken e = by t.ends
    where
      by : (s : Sought) → bad ≡ claimed m p t s
      by damaged = refl
      by (at q) = rw e

  -- the walk ends here
  pub claim_stays : eqb (get_or m p.page_id 0) 0 ≡ true → t ≡ stop (at p) → good (set m p.page_id used) ≡ claimed m p t t.ends
  unfolding claim
  claim_stays e h = sym (ap (λ (t : Trace). claimed m p t t.ends) h ∙ rw e)

  -- it breaks off
  pub claim_breaks : t.ends ≡ damaged → bad ≡ claimed m p t t.ends
  claim_breaks h = sym (ap (claimed m p t) h)

  -- it goes on from q
  pub claim_reaches : (q : PagePointer) (u : Trace) → eqb (get_or m p.page_id 0) 0 ≡ true → t ≡ through q.page_id u
      → claimed (set m p.page_id used) q u u.ends ≡ claimed m p t t.ends
  unfolding claim
  claim_reaches q u e h = by u.ends ∙ sym (ap (λ (t : Trace). claimed m p t t.ends) h)
    where
      by : (s : Sought) → claimed (set m p.page_id used) q u s ≡ claimed m p (through q.page_id u) s
      by damaged = refl
      by (at x) = rw e

-- ---- a walk that knows no more of its pages than a step back asks

pub claim_thin : (m : List ℕ) (p : PagePointer) (t : Trace) → claimed m (wide (place_of p)) (thin t) (thinned t.ends) ≡ claimed m p t t.ends
claim_thin m p t = by t.ends
  where
    by : (s : Sought) → claimed m (wide (place_of p)) (thin t) (thinned s) ≡ claimed m p t s
    by damaged = refl
    by (at q) = refl

-- ---- the claims of a walk from a place, by what the step there says

module _ (count : ℕ) (read : ℕ → Read) (first : ℕ) where
  unfoldable pub claims_from : List ℕ → Place → Maybe (List ℕ)
  claims_from m p = claimed m (wide p) (walk_back count read first p) (walk_back count read first p).ends

  abbrev told : Place → Step Place
  told p = told_back (step (back_rule count first) read (wide p))

  pub claims_page : (m : List ℕ) (p : PagePointer) → claims_from m (place_of p) ≡ claimed m p (walk count read first p) (walk count read first p).ends
  unfolding claims_from
  claims_page m p =
      ap (λ (t : Trace). claimed m (wide (place_of p)) t t.ends) (walk_wide count read first p)
      ∙ claim_thin m p (walk count read first p)

  pub claims_taken : (m : List ℕ) (p : Place) → false ≡ eqb (get_or m p.page_id 0) 0 → claims_from m p ≡ bad
  unfolding claims_from
  claims_taken m p e = sym (claim_taken m (wide p) _ (sym e))

  pub claims_stays : (m : List ℕ) (p : Place) → true ≡ eqb (get_or m p.page_id 0) 0 → Stays ≡ told p → claims_from m p ≡ good (set m p.page_id used)
  unfolding claims_from
  claims_stays m p e h = sym (claim_stays m (wide p) _ (sym e) (says_back count read first p Stays h))

  pub claims_breaks : (m : List ℕ) (p : Place) → Breaks ≡ told p → claims_from m p ≡ bad
  unfolding claims_from
  claims_breaks m p h = sym (claim_breaks m (wide p) _ (says_back count read first p Breaks h))

  pub claims_reaches : (m : List ℕ) (p q : Place) → true ≡ eqb (get_or m p.page_id 0) 0 → Reaches q ≡ told p
      → claims_from (set m p.page_id used) q ≡ claims_from m p
  unfolding claims_from
  claims_reaches m p q e h = claim_reaches m (wide p) _ (wide q) _ (sym e) (says_back count read first p (Reaches q) h).0

  pub claims_fall : (p q : Place) → Reaches q ≡ told p → q.seq < p.seq
  claims_fall p q h = (says_back count read first p (Reaches q) h).1
