-- Walks that end at a page; a walk to a higher limit as the first part of a walk to a lower one; and walks by places as those of the pages.
-- Assumes nothing.
use mathlib.Core.Path.{◌≡◌, refl, sym, ◌∙◌, ap, subst}
use mathlib.Core.Bool.{Bool, true, false, ◌&&◌}
use mathlib.Core.List.{List, [], ◌∷◌, ◌++◌, map-append}
use Prim.Native.Nat.{ℕ, ◌≤◌}
use native.Mathlib.Omega.{arith}
use lib.ListN.{length, drop}
use lib.Seq.{drop-append_seam}
use Rattle.std.proofs.lemmas.Option.{same_Some}
use Rattle.page.specs.Page.{Read}
use Rattle.chain.specs.declared.PagePointer.{PagePointer}
use Rattle.chain.specs.declared.Place.{Place}
use Rattle.std.specs.Prelude.{Some, None}
use Rattle.chain.specs.Links.{oldest, ids}
use Rattle.chain.specs.Steps.{back_rule, Sought, damaged, at, Trace, through, walk}
use Rattle.chain.specs.Seek.{found_by, found}
use Rattle.chain.specs.Back.{place_of, wide, thinned, thin, walk_back, reached_by}
use Rattle.chain.proofs.Rules.{back_falling, back_via}
use Rattle.chain.proofs.Places.{walk_wide}
use Rattle.chain.proofs.Traces.{trace_walked}
use Rattle.chain.proofs.Walks.{WalkedTo, walk_is, back_other, walked_prefix}

-- ---- a trace that ends at a page

pub ends_page : (p : PagePointer) (t : Trace) → (found p t).ok ≡ true → t.ends ≡ at (found p t).page
ends_page p t = by t.ends
  where
    by : (s : Sought) → (found_by p (length t.path) s).ok ≡ true → s ≡ at (found_by p (length t.path) s).page
    by damaged h = let z : ◌≡◌ {A = ℕ} 0 1 = cc in absurd (omega arith)
    by (at q) h = refl

pub ends_not : (p : PagePointer) (t : Trace) → (found p t).ok ≡ true → t.ends ≡ damaged → ⊥
ends_not p t h e = let f = ends_page p t h in let z : ◌≡◌ {A = ℕ} 0 1 = cc in omega arith

-- it does so whatever page it is told from, and one page later
pub ends_through : (p q : PagePointer) (j : ℕ) (t u : Trace) → t ≡ through j u → (found p t).ok ≡ true → (found q u).ok ≡ true
ends_through p q j t u e h = by u.ends (ap (λ (x : Trace). x.ends) (sym e)) (ends_page p t h)
  where
    by : (s : Sought) → s ≡ t.ends → t.ends ≡ at (found p t).page → (found_by q (length u.path) s).ok ≡ true
    by damaged a b = let z : ◌≡◌ {A = ℕ} 0 1 = cc in absurd (omega arith)
    by (at r) a b = refl

-- ---- two limits

module _ (count : ℕ) (read : ℕ → Read) (t t' : ℕ) (h : t ≤ t') where
  -- where the walk to t' ends, the walk to t goes on with the pages that are left
  pub record Edge (p e : PagePointer) : Type 0 where
    pub ends : (found p (walk count read t' p)).ok ≡ true
    pub goes_on : (found e (walk count read t e)).ok ≡ true
    pub left : drop (length (walk count read t' p).path) (walk count read t p).path ≡ (walk count read t e).path

  pub edge : (p : PagePointer) → (found p (walk count read t p)).ok ≡ true → Edge p (found p (walk count read t' p)).page
  edge p g =
      let w = trace_walked (back_rule count t) (back_falling count t) read p _ (ends_page p (walk count read t p) g) in
      let x = walked_prefix count read t t' h p w.0 w.1 in
      let a = walk_is count read t p w.0 w.1 in
      let b = walk_is count read t' p x.0 x.3 in
      let c = walk_is count read t (oldest p x.0) x.1 x.4 in
      let i : ids w.0 ≡ ids x.0 ++ ids x.1 =
      ap ids x.2 ∙ map-append (λ (q : PagePointer). q.page_id) x.0 x.1 in
      let q : (found p (walk count read t' p)).page ≡ oldest p x.0 = ap (λ (y : Trace). (found p y).page) b in
      record {
        ends = ap (λ (y : Trace). (found p y).ok) b;
        goes_on = subst (λ (y : PagePointer). (found y (walk count read t y)).ok ≡ true) (sym q)
            (ap (λ (y : Trace). (found (oldest p x.0) y).ok) c);
        left = ap (λ (y : Trace). drop (length y.path) (walk count read t p).path) b
            ∙ ap (λ (y : Trace). drop (length (ids x.0)) y.path) a
            ∙ ap (drop (length (ids x.0))) i
            ∙ drop-append_seam (ids x.0) (ids x.1)
            ∙ sym (ap (λ (y : Trace). y.path) c)
            ∙ ap (λ (y : PagePointer). (walk count read t y).path) (sym q);
      }

  -- and the other way round: a walk to t', and from where it ends a walk to t, are a walk to t
  joined : (p : PagePointer) (l m : List PagePointer) → WalkedTo count read t' p l → WalkedTo count read t (oldest p l) m → WalkedTo count read t p (l ++ m)
  joined p [] m w v = v
  joined p (q ∷ l) m w v = (let k = (back_via count t' p q.page_id w.0.way).0 in back_other count read t' t p q k (omega arith) w.0, joined q l m w.1 v)

  both_end : (p : PagePointer) → (found p (walk count read t' p)).ok ≡ true
      → (let e = (found p (walk count read t' p)).page in (found e (walk count read t e)).ok ≡ true) → (found p (walk count read t p)).ok ≡ true
  both_end p g h =
      let e = (found p (walk count read t' p)).page in
      let w = trace_walked (back_rule count t') (back_falling count t') read p _ (ends_page p (walk count read t' p) g) in
      let q : e ≡ oldest p w.0 = ap (λ (y : Trace). (found p y).page) (walk_is count read t' p w.0 w.1) in
      let v = trace_walked (back_rule count t) (back_falling count t) read e _ (ends_page e (walk count read t e) h) in
      let u = joined p w.0 v.0 w.1 (subst (λ (y : PagePointer). WalkedTo count read t y v.0) q v.1) in
      ap (λ (y : Trace). (found p y).ok) (walk_is count read t p (w.0 ++ v.0) u)

  -- so the whole walk ends at a page exactly if both parts do
  pub parts_end : (p : PagePointer)
      → let e = (found p (walk count read t' p)).page in
      (found p (walk count read t p)).ok ≡ (found p (walk count read t' p)).ok && (found e (walk count read t e)).ok
  parts_end p = by _ _ _ refl refl refl
    where
      e : PagePointer
      e = (found p (walk count read t' p)).page

      by : (a b c : Bool) → (found p (walk count read t p)).ok ≡ a → (found p (walk count read t' p)).ok ≡ b → (found e (walk count read t e)).ok ≡ c → a ≡ b && c
      by true b c u v w = let x = edge p u in sym (ap (λ (y : Bool). y && c) (sym v ∙ x.ends) ∙ sym w ∙ x.goes_on)
      by false true true u v w = sym u ∙ both_end p v w
      by false true false u v w = refl
      by false false c u v w = refl

-- ---- walks that know no more of their pages than a step back asks

thin_ok : (p q : PagePointer) (t : Trace) → (found q (thin t)).ok ≡ (found p t).ok
thin_ok p q t = by t.ends
  where
    by : (s : Sought) → (found_by q (length t.path) (thinned s)).ok ≡ (found_by p (length t.path) s).ok
    by damaged = refl
    by (at x) = refl

module _ (count : ℕ) (read : ℕ → Read) (t : ℕ) (p : PagePointer) (q : Place) (e : q ≡ place_of p) where
  -- a walk back ends at a page where the walk does, and visits the same pages
  pub back_ok : (found (wide q) (walk_back count read t q)).ok ≡ (found p (walk count read t p)).ok
  back_ok = rw e (ap (λ (y : Trace). (found (wide (place_of p)) y).ok) (walk_wide count read t p) ∙ thin_ok p (wide (place_of p)) (walk count read t p))

  pub back_path : (walk_back count read t q).path ≡ (walk count read t p).path
  back_path = rw e (ap (λ (y : Trace). y.path) (walk_wide count read t p))

  -- where the code says that it ends
  pub reached_place : (x : Place) → Some x ≡ reached_by (walk_back count read t q).ends
      → ((found p (walk count read t p)).ok ≡ true) × (x ≡ place_of (found p (walk count read t p)).page)
  reached_place x r = by (walk count read t p).ends (r ∙ rw e (ap (λ (y : Trace). reached_by y.ends) (walk_wide count read t p)))
    where
      by : (s : Sought) → Some x ≡ reached_by (thinned s)
          → let f = found_by p (length (walk count read t p).path) s in (f.ok ≡ true) × (x ≡ place_of f.page)
      by damaged r = cc
      by (at y) r = (refl, same_Some _ _ r)

  pub reached_none : None ≡ reached_by (walk_back count read t q).ends → (found p (walk count read t p)).ok ≡ false
  reached_none r = by (walk count read t p).ends (r ∙ rw e (ap (λ (y : Trace). reached_by y.ends) (walk_wide count read t p)))
    where
      by : (s : Sought) → None ≡ reached_by (thinned s) → (found_by p (length (walk count read t p).path) s).ok ≡ false
      by damaged r = refl
      by (at y) r = cc
