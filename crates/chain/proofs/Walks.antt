-- Walking back: what a walk visits, on any image. Assumes nothing.
use mathlib.Core.Path.{◌≡◌, refl, sym, ◌∙◌, ap, subst}
use mathlib.Core.Logic.{◌⊎◌}
use mathlib.Core.List.{List, [], ◌∷◌, ◌++◌, map-append}
use Prim.Native.Nat.{ℕ, ◌≤◌, ◌<◌}
use native.Mathlib.Nat.{lt_of_not-le}
use native.Mathlib.Decide.{dec_le}
use native.Mathlib.Omega.{arith}
use Rattle.seq.specs.Ids.{none}
use Rattle.page.specs.Page.{Read, readable}
use Rattle.chain.specs.declared.PagePointer.{PagePointer}
use Rattle.chain.specs.Links.{start, link, oldest, ids}
use Rattle.chain.specs.Steps.{Rule, back_rule, at, Trace, walk, visited}
use Rattle.chain.specs.Walk.{Each, Distinct, Onward, Back, Visits}
use Rattle.chain.specs.Seek.{Agree}
use Rattle.chain.proofs.Rules.{Falling, back_falling, back_meets, back_here, back_same, back_halts, back_via}
use Rattle.chain.proofs.Traces.{Goes, Walked, walked_trace, trace_walked}

-- ---- the pages of a path that ends at a page, by any rule under which the seq falls

module _ (r : Rule) (down : Falling r) (read : ℕ → Read) where
  -- a page is read as it stands, so the page at hand that was read once more would start where it starts
  each_after : (p q : PagePointer) (l : List PagePointer) → read p.page_id ≡ readable p.header → start q ≤ start p → Walked r down read q l
      → Each (λ k. k ≡ p.page_id → ⊥) (ids l)
  each_after p q [] s h w = tt
  each_after p q (x ∷ l) s h w =
      let f = down q x.header w.0.meets in (
        λ e. let same : readable x.header ≡ readable p.header = sym w.0.stands ∙ ap read e ∙ s in
            let z : start x ≡ start p = cc in
            omega arith,
        each_after p x l s (omega arith) w.1,
      )

  -- no page is read twice
  pub walked_distinct : (p : PagePointer) (l : List PagePointer) → Walked r down read p l → Distinct (ids l)
  walked_distinct p [] w = tt
  walked_distinct p (q ∷ l) w = (each_after q q l w.0.stands (omega arith) w.1, walked_distinct q l w.1)

  -- on any image that agrees on the headers of the path
  pub walked_kept : (other : ℕ → Read) (p : PagePointer) (l : List PagePointer) → Agree read other (ids l) → Walked r down read p l → Walked r down other p l
  walked_kept other p [] a w = w
  walked_kept other p (q ∷ l) a w =
      (record { way = w.0.way; stands = a.0 ∙ w.0.stands; meets = w.0.meets }, walked_kept other q l a.1 w.1)

-- ---- walking back, on any image

-- a step back, by what it shows
pub back_onward : (count t : ℕ) (read : ℕ → Read) (p q : PagePointer) → Goes (back_rule count t) read p q → Onward count read t p q
back_onward count t read p q g =
    let w = back_via count t p q.page_id g.way in record {
      above = w.0;
      falls = back_falling count t p q.header g.meets;
      inside = w.2;
      page = w.3;
      stands = g.stands;
    }

module _ (count : ℕ) (read : ℕ → Read) where
  -- from p back to t over the pages l
  abbrev pub WalkedTo : ℕ → PagePointer → List PagePointer → Type 0
  WalkedTo t p l = Walked (back_rule count t) (back_falling count t) read p l

  -- that is the walk
  pub walk_is : (t : ℕ) (p : PagePointer) (l : List PagePointer) → WalkedTo t p l → walk count read t p ≡ record { path = ids l; ends = at (oldest p l) }
  walk_is t p l w = walked_trace (back_rule count t) (back_falling count t) read p l w

  back_of : (t : ℕ) (p : PagePointer) (l : List PagePointer) → WalkedTo t p l → Back count read t p l
  back_of t p [] w = tt
  back_of t p (q ∷ l) w = (back_onward count t read p q w.0, back_of t q l w.1)

  stops_of : (t : ℕ) (p : PagePointer) (l : List PagePointer) → WalkedTo t p l → (start (oldest p l) ≤ t) ⊎ (link (oldest p l) 0 ≡ none)
  stops_of t p [] w = back_halts count t p w
  stops_of t p (q ∷ l) w = stops_of t q l w.1

  -- every page that a walk visits is below count and readable, the starts fall, and no page is visited twice
  pub walk_visits : (t : ℕ) (p e : PagePointer) → (walk count read t p).ends ≡ at e → Visits count read t p
  walk_visits t p e g =
      let w = trace_walked (back_rule count t) (back_falling count t) read p e g in record {
        pages = w.0;
        is = walk_is t p w.0 w.1;
        back = back_of t p w.0 w.1;
        stops = stops_of t p w.0 w.1;
        distinct = walked_distinct (back_rule count t) (back_falling count t) read p w.0 w.1;
      }

  -- nor the page that it starts from, where that stands in the image
  pub walk_distinct : (t : ℕ) (p e : PagePointer) → read p.page_id ≡ readable p.header → (walk count read t p).ends ≡ at e
      → Distinct (visited p (walk count read t p))
  walk_distinct t p e s g =
      let r = back_rule count t in
      let d = back_falling count t in
      let w = trace_walked r d read p e g in
      subst (λ (l : List ℕ). Distinct (p.page_id ∷ l)) (sym (ap (λ (x : Trace). x.path) (walk_is t p w.0 w.1)))
      (each_after r d read p p w.0 s (omega arith) w.1, walked_distinct r d read p w.0 w.1)

  -- ---- two limits

  -- a step above both limits is a step to either
  pub back_other : (t t' : ℕ) (p q : PagePointer) → t < start p → t' < start p → Goes (back_rule count t) read p q → Goes (back_rule count t') read p q
  back_other t t' p q h h' g = record { way = back_same count t' p t h' h ∙ g.way; stands = g.stands; meets = back_meets count t' p q.header (back_falling count t p q.header g.meets) }

  -- a walk to t: its pages up to where the walk to t' ends, and the walk to t from there
  abbrev Parted : ℕ → ℕ → PagePointer → List PagePointer → Type 0
  Parted t t' p l = (l' m : List PagePointer) × (l ≡ l' ++ m) × WalkedTo t' p l' × WalkedTo t (oldest p l') m

  pub walked_prefix : (t t' : ℕ) → t ≤ t' → (p : PagePointer) (l : List PagePointer) → WalkedTo t p l → Parted t t' p l
  walked_prefix t t' h p [] w = go (dec_le (start p) t')
    where
      go : Dec (start p ≤ t') → Parted t t' p []
      go (yes g) = ([], [], refl, back_here count t' p g, w)
      go (no g) = let f = lt_of_not-le g in ([], [], refl, back_same count t' p t f (omega arith) ∙ w, w)
  walked_prefix t t' h p (q ∷ l) w = go (dec_le (start p) t') (walked_prefix t t' h q l w.1)
    where
      go : Dec (start p ≤ t') → Parted t t' q l → Parted t t' p (q ∷ l)
      go (yes g) r = ([], q ∷ l, refl, back_here count t' p g, w)
      go (no g) r =
          let f = lt_of_not-le g in
          (q ∷ r.0, r.1, ap (λ (x : List PagePointer). q ∷ x) r.2, (back_other t t' p q (omega arith) f w.0, r.3), r.4)

  -- a walk that ends at a page ends at one for a higher limit too, and what it visits there is an initial part
  pub walk_prefix : (t t' : ℕ) → t ≤ t' → (p e : PagePointer) → (walk count read t p).ends ≡ at e
      → (e' : PagePointer) × (m : List ℕ) × ((walk count read t' p).ends ≡ at e') × (visited p (walk count read t p) ≡ visited p (walk count read t' p) ++ m)
  walk_prefix t t' h p e g =
      let w = trace_walked (back_rule count t) (back_falling count t) read p e g in
      let x = walked_prefix t t' h p w.0 w.1 in
      let a = walk_is t p w.0 w.1 in
      let b = walk_is t' p x.0 x.3 in (
        oldest p x.0,
        ids x.1,
        ap (λ (y : Trace). y.ends) b,
        rw (a, b) (ap (λ (l : List ℕ). p.page_id ∷ l) (ap ids x.2 ∙ map-append (λ (q : PagePointer). q.page_id) x.0 x.1)),
      )
