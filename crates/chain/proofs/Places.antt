-- Steps and walks back that know no more of a header than a step back asks: they are those of the pages. Assumes nothing.
use mathlib.Core.Path.{◌≡◌, refl, sym, ◌∙◌, ap, subst}
use mathlib.Core.Bool.{Bool, true, false, cond, ◌||◌}
use mathlib.Core.Logic.{◌⊎◌, inl, inr}
use Prim.Native.Nat.{ℕ, ◌≤◌, ◌<◌}
use borrow.Author.Tests.{leb-true, leb-false, eqb-true, eqb-false}
use lib.Dec.{leb, eqb}
use Rattle.seq.specs.Ids.{none}
use Rattle.page.specs.Page.{Read, unreadable, readable, gives_back}
use Rattle.page.proofs.Headers.{back_read, back_none}
use Rattle.page.specs.declared.BackRead.{BackRead}
use Rattle.chain.specs.declared.PagePointer.{PagePointer}
use Rattle.chain.specs.declared.Place.{Place}
use Rattle.std.specs.Prelude.{Some, None}
use Rattle.chain.specs.declared.Step.{Step}
use Rattle.chain.specs.declared.Step.TheVariants.{Stays, Reaches, Breaks}
use Rattle.chain.specs.Links.{start}
use Rattle.chain.specs.Steps.{Way, halt, lost, via, falls, back_rule, Stepped, stays, reaches, breaks, entered, stepped, lower, step, at, damaged, Trace, stop, through, follow, along, go, trace, walk}
use Rattle.chain.specs.Back.{place_of, wide, told_back, thinned, thin, walk_back}
use Rattle.chain.proofs.Rules.{back_falling}
use Rattle.chain.proofs.Traces.{stays_trace, breaks_trace, reaches_trace}
use Rattle.chain.proofs.Steps.{reached, back_stays, back_goes}

-- ---- a step back

module _ (count : ℕ) (read : ℕ → Read) (t : ℕ) (p : Place) where
  abbrev step_back : Step Place
  step_back = told_back (step (back_rule count t) read (wide p))

  -- the test of a place, in one: at or below the limit, or a link of none
  module _ (a : Bool) (e : a ≡ eqb p.link none) where
    pub back_told_stays : leb p.seq t || a ≡ true → Stays ≡ step_back
    back_told_stays h = ap told_back (sym (back_stays count read t (wide p) (by (leb p.seq t) refl a e h)))
      where
        by : (x : Bool) → leb p.seq t ≡ x → (y : Bool) → y ≡ eqb p.link none → x || y ≡ true → (p.seq ≤ t) ⊎ (p.link ≡ none)
        by true u y v w = inl (leb-true p.seq t u)
        by false u y v w = inr (eqb-true p.link none (sym v ∙ w))

    goes_on : leb p.seq t || a ≡ false → (t < p.seq) × (p.link ≡ none → ⊥)
    goes_on h = by (leb p.seq t) refl a e h
      where
        by : (x : Bool) → leb p.seq t ≡ x → (y : Bool) → y ≡ eqb p.link none → x || y ≡ false → (t < p.seq) × (p.link ≡ none → ⊥)
        by true u y v w = absurd (subst (λ (x : Bool). cond x (Unit {0}) ⊥) w tt)
        by false u y v w = (leb-false p.seq t u, eqb-false p.link none (sym v ∙ w))

    module _ (h : leb p.seq t || a ≡ false) where
      pub back_told_reaches : (x : BackRead) → Some x ≡ gives_back (lower count read p.seq p.link)
          → Reaches (record { page_id = p.link; seq = x.seq; link = x.link }) ≡ step_back
      back_told_reaches x r =
          let g = goes_on h in
          let b = back_read (Some x) _ x r refl in
          ap (λ (y : BackRead). Reaches (record { page_id = p.link; seq = y.seq; link = y.link })) b.2
          ∙ ap told_back (sym (back_goes count read t (wide p) g.0 g.1 ∙ ap (reached p.link) b.1))

      pub back_told_breaks : None ≡ gives_back (lower count read p.seq p.link) → Breaks ≡ step_back
      back_told_breaks r =
          let g = goes_on h in
          ap told_back (sym (back_goes count read t (wide p) g.0 g.1 ∙ ap (reached p.link) (back_none None _ r refl)))

-- ---- a step back, as the code tells it: of the page that it reaches the code has the place

abbrev pub Reached : Stepped → Place → Type 0
Reached s x = (q : PagePointer) × (s ≡ reaches q) × (x ≡ place_of q)

abbrev pub BacksTo : Stepped → Step Place → Type 0
BacksTo s Stays = s ≡ stays
BacksTo s Breaks = s ≡ breaks
BacksTo s (Reaches x) = Reached s x

backs_of : (s : Stepped) → BacksTo s (told_back s)
backs_of stays = refl
backs_of breaks = refl
backs_of (reaches q) = (q, refl, refl)

pub backs_to : (x : Step Place) (s : Stepped) → x ≡ told_back s → BacksTo s x
backs_to x s e = subst (BacksTo s) (sym e) (backs_of s)

-- ---- a page and its place step and walk alike

module _ (count : ℕ) (read : ℕ → Read) (t : ℕ) where
  entered_wide : (p : PagePointer) (j : ℕ) (a : Read) → entered (back_rule count t) (wide (place_of p)) j a ≡ entered (back_rule count t) p j a
  unfolding back_rule falls
  entered_wide p j unreadable = refl
  entered_wide p j (readable h) = refl

  pub step_wide : (p : PagePointer) → step (back_rule count t) read (wide (place_of p)) ≡ step (back_rule count t) read p
  unfolding step back_rule
  step_wide p = by ((back_rule count t).way p)
    where
      by : (w : Way) → stepped (back_rule count t) read (wide (place_of p)) w ≡ stepped (back_rule count t) read p w
      by halt = refl
      by lost = refl
      by (via j) = entered_wide p j (read j)

  pub walk_wide : (p : PagePointer) → walk_back count read t (place_of p) ≡ thin (walk count read t p)
  unfolding walk_back trace go back_rule
  walk_wide p = by ((back_rule count t).way p) (λ q. go (back_rule count t) read (start p) q)
    where
      by : (w : Way) (rest : PagePointer → Trace) → thin (along (back_rule count t) read (wide (place_of p)) w rest) ≡ thin (along (back_rule count t) read p w rest)
      by halt rest = refl
      by lost rest = refl
      by (via j) rest = ap (λ (s : Stepped). thin (through j (follow s rest))) (entered_wide p j (read j))

  -- ---- a step as the code tells it, and what it says of the walk from a place

  module _ (p : Place) where
    abbrev pub SaysBack : Step Place → Type 0
    SaysBack Stays = walk_back count read t p ≡ stop (at (wide p))
    SaysBack Breaks = (walk_back count read t p).ends ≡ damaged
    SaysBack (Reaches q) = (walk_back count read t p ≡ through q.page_id (walk_back count read t q)) × (q.seq < p.seq)

    says_of : (x : Step Place) → BacksTo (step (back_rule count t) read (wide p)) x → SaysBack x
    unfolding walk_back
    says_of Stays g = ap thin (stays_trace (back_rule count t) (back_falling count t) read (wide p) g)
    says_of Breaks g = ap thinned (breaks_trace (back_rule count t) (back_falling count t) read (wide p) g)
    says_of (Reaches x) g =
        let w = reaches_trace (back_rule count t) (back_falling count t) read (wide p) g.0 g.1 in
        rw g.2 (ap thin w.0 ∙ ap (through g.0.page_id) (sym (walk_wide g.0)), w.1)

    pub says_back : (x : Step Place) → x ≡ told_back (step (back_rule count t) read (wide p)) → SaysBack x
    says_back x e = says_of x (backs_to x _ e)

  -- of a page: the step from its place is its step
  pub backs_from : (p : PagePointer) (x : Step Place) (y : Place) → y ≡ place_of p → x ≡ told_back (step (back_rule count t) read (wide y))
      → BacksTo (step (back_rule count t) read p) x
  backs_from p x y l e = backs_to x _ (e ∙ ap told_back (ap (λ (z : Place). step (back_rule count t) read (wide z)) l ∙ step_wide p))
