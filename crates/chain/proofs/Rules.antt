-- The two rules: what they ask of a header, and where they lead. Whoever needs a rule's way cites this. Assumes nothing.
use mathlib.Core.Path.{◌≡◌, refl, ◌∙◌, ap, subst}
use mathlib.Core.Bool.{Bool, true, false, cond, ◌&&◌, not}
use mathlib.Core.Logic.{◌⊎◌, inl, inr}
use Prim.Native.Nat.{ℕ, ◌≤◌, ◌<◌}
use borrow.Author.Tests.{le-leb, lt-leb, le-ltb, lt-ltb, eq-eqb, ne_eqb, leb-true, leb-false, ltb-true, eqb-true, eqb-false, not-true}
use lib.Dec.{leb, ltb, eqb}
use Rattle.seq.specs.Ids.{none}
use Rattle.seq.specs.Seq.{index}
use Rattle.page.specs.declared.DataHeader.{DataHeader}
use Rattle.chain.specs.declared.PagePointer.{PagePointer}
use Rattle.chain.specs.Links.{start, link}
use Rattle.chain.specs.Steps.{Way, halt, lost, via, is_page, towards, Rule, falls, seek_rule, back_rule}

-- ---- an id that is a page

both : (a b : Bool) → a && b ≡ true → (a ≡ true) × (b ≡ true)
both true b e = (refl, e)
both false b e = absurd (subst (λ (x : Bool). cond x ⊥ (Unit {0})) e tt)

neither : (a : Bool) → a && false ≡ false
neither true = refl
neither false = refl

module _ (count j : ℕ) where
  -- none is no page, nor is an id at or above count
  pub none_no_page : j ≡ none → is_page count j ≡ false
  unfolding is_page
  none_no_page e = ap (λ (b : Bool). not b && ltb j count) (eq-eqb j none e)

  pub outside_no_page : count ≤ j → is_page count j ≡ false
  unfolding is_page
  outside_no_page h = rw (le-ltb j count h, neither (not (eqb j none)))

  -- any other is one
  pub is_page_lem : (j ≡ none → ⊥) → j < count → is_page count j ≡ true
  unfolding is_page
  is_page_lem n h = rw (ne_eqb j none n, lt-ltb j count h)

  pub page_via : (j ≡ none → ⊥) → j < count → towards count j ≡ via j
  unfolding towards
  page_via n h = rw (is_page_lem n h)

  page_is : is_page count j ≡ true → (j < count) × (j ≡ none → ⊥)
  unfolding is_page
  page_is e =
      let w = both (not (eqb j none)) (ltb j count) e in
      (ltb-true j count w.1, eqb-false j none (not-true (eqb j none) w.0))

-- ---- what a header has to be: its seq falls

abbrev pub Falling : Rule → Type 0
Falling r = (p : PagePointer) (h : DataHeader) → r.meets p h ≡ true → h.seq < start p

module _ (count t : ℕ) where
  pub seek_falling : Falling (seek_rule count t)
  unfolding seek_rule falls
  seek_falling p h e = ltb-true h.seq (start p) e

  pub back_falling : Falling (back_rule count t)
  unfolding back_rule falls
  back_falling p h e = ltb-true h.seq (start p) e

  module _ (p : PagePointer) where
    -- both rules ask just that
    pub seek_asks : (h : DataHeader) → (seek_rule count t).meets p h ≡ ltb h.seq (start p)
    unfolding seek_rule falls
    seek_asks h = refl

    pub back_asks : (h : DataHeader) → (back_rule count t).meets p h ≡ ltb h.seq (start p)
    unfolding back_rule falls
    back_asks h = refl

    pub seek_meets : (h : DataHeader) → h.seq < start p → (seek_rule count t).meets p h ≡ true
    seek_meets h l = seek_asks h ∙ lt-ltb h.seq (start p) l

    pub back_meets : (h : DataHeader) → h.seq < start p → (back_rule count t).meets p h ≡ true
    back_meets h l = back_asks h ∙ lt-ltb h.seq (start p) l

    -- ---- where a seek leads

    -- at or below the target it ends
    pub seek_here : start p ≤ t → (seek_rule count t).way p ≡ halt
    unfolding seek_rule
    seek_here h = rw (le-leb (start p) t h)

    -- above it, it takes the link that the target and the page's start choose
    pub seek_on : t < start p → (seek_rule count t).way p ≡ towards count (link p (index t (start p)))
    unfolding seek_rule
    seek_on h = rw (lt-leb (start p) t h)

    -- ---- where a step back leads

    -- at or below the limit it ends
    pub back_here : start p ≤ t → (back_rule count t).way p ≡ halt
    unfolding back_rule
    back_here h = rw (le-leb (start p) t h)

    -- so it does at a link of none
    pub back_none : t < start p → link p 0 ≡ none → (back_rule count t).way p ≡ halt
    unfolding back_rule
    back_none h e = rw (lt-leb (start p) t h, eq-eqb (link p 0) none e)

    -- else it takes link 0
    pub back_on : t < start p → (link p 0 ≡ none → ⊥) → (back_rule count t).way p ≡ towards count (link p 0)
    unfolding back_rule
    back_on h n = rw (lt-leb (start p) t h, ne_eqb (link p 0) none n)

    -- above two limits, which of them does not matter
    pub back_same : (t' : ℕ) → t < start p → t' < start p → (back_rule count t).way p ≡ (back_rule count t').way p
    unfolding back_rule
    back_same t' h g = rw (lt-leb (start p) t h, lt-leb (start p) t' g)

    -- what a way that is taken shows
    abbrev Leads : Way → Type 0
    Leads halt = (start p ≤ t) ⊎ (link p 0 ≡ none)
    Leads lost = Unit {0}
    Leads (via j) = (t < start p) × (j ≡ link p 0) × (j < count) × (j ≡ none → ⊥)

    back_leads : Leads ((back_rule count t).way p)
    unfolding back_rule towards
    back_leads = by (leb (start p) t) (eqb (link p 0) none) (is_page count (link p 0)) refl refl refl
      where
        by : (a b c : Bool) → leb (start p) t ≡ a → eqb (link p 0) none ≡ b → is_page count (link p 0) ≡ c
            → Leads (cond a halt (cond b halt (cond c (via (link p 0)) lost)))
        by true b c x y z = inl (leb-true (start p) t x)
        by false true c x y z = inr (eqb-true (link p 0) none y)
        by false false false x y z = tt
        by false false true x y z = let w = page_is count (link p 0) z in (leb-false (start p) t x, refl, w.0, w.1)

    -- where it ends, and where it leads
    pub back_halts : (back_rule count t).way p ≡ halt → (start p ≤ t) ⊎ (link p 0 ≡ none)
    back_halts e = subst Leads e back_leads

    pub back_via : (j : ℕ) → (back_rule count t).way p ≡ via j → (t < start p) × (j ≡ link p 0) × (j < count) × (j ≡ none → ⊥)
    back_via j e = subst Leads e back_leads
