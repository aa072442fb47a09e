-- On a file whose chain obeys the link rule nothing is Damaged, and an offer lies on the file again. Assumes nothing.
use mathlib.Core.Path.{◌≡◌, refl, ◌∙◌, subst}
use mathlib.Core.Bool.{Bool, true, false, cond}
use mathlib.Core.List.{List, [], ◌∷◌}
use mathlib.Core.Logic.{inl, inr}
use Prim.Native.Nat.{ℕ, zero, suc, ◌+◌, ◌-◌, ◌/◌, ◌≤◌, ◌<◌}
use native.Mathlib.Nat.{lt_of_not-le}
use native.Mathlib.Decide.{dec_le}
use native.Mathlib.Omega.{arith}
use borrow.Author.Tests.{leb-false, le-leb, lt-leb, le-ltb, eq-eqb, ne_eqb}
use lib.Dec.{leb, eqb}
use Rattle.seq.specs.Ids.{none}
use Rattle.seq.specs.Seq.{below, span, level, index}
use Rattle.seq.proofs.Laws.{level_le, index_jump, span_pos}
use Rattle.seq.proofs.Multiples.{below_greatest}
use Rattle.page.specs.Page.{Read, readable}
use Rattle.chain.specs.declared.PagePointer.{PagePointer}
use Rattle.chain.specs.Links.{start, end, link, Linked}
use Rattle.search.specs.Hunt.{Hit, hit, too_left, wrong, passed_over, found_on, seen_on, seek_to_page, hit_by, tries, Sought, offered, ended, broken, really_seek, hunt}
use Rattle.search.specs.Told.{offer_on, walked, lowered}
use Rattle.search.specs.Right.{Bounded, OnFile, Sound, Sane}
use Rattle.search.proofs.Pages.{inside_yes}
use Rattle.search.proofs.Levels.{level_is, tries_says}

-- ---- multiples

-- a multiple below b that is below a is at or below the greatest one below a
below_keeps : (m a b : ℕ) → 0 < m → 0 < b → below m b < a → below m b ≤ below m a
below_keeps m a b hm hb l =
    let e = (below_greatest m b hm hb).0 in
    let r = (below_greatest m a hm (omega arith)).2 ((b - 1) / m) in
    rw e (r (rw e at l))

below_up : (m a b : ℕ) → 0 < m → 0 < a → a ≤ b → below m a ≤ below m b
below_up m a b hm ha h = below_keeps m b a hm ha (omega (arith, (below_greatest m a hm ha).1))

module _ (count d : ℕ) (hd : 0 < d) (read : ℕ → Read) (first : ℕ) where
  sane_up : (a b : ℕ) (y : Sought) → a ≤ b → Sane count d read first b y → Sane count d read first a y
  sane_up a b (offered l o) h s = (omega (arith, s.0), s.1)
  sane_up a b ended h s = tt
  sane_up a b broken h s = s

  -- ---- pages of a file

  -- a page that stands in the image, with the older ones
  record Stands (p : PagePointer) (l : List PagePointer) : Type 0 where
    on : OnFile count d read first p l
    inside : p.page_id < count
    page : p.page_id < none
    reads : read p.page_id ≡ readable p.header
    bounded : Bounded p

  -- the page before one
  before : (p q : PagePointer) (l : List PagePointer) → OnFile count d read first p (q ∷ l) → Stands q l
  before p q l o = record {
    on = record { linked = o.linked.1; stand = o.stand.1; bounded = o.bounded.1; reaches = o.reaches };
    inside = o.linked.0.inside;
    page = o.linked.0.page;
    reads = o.stand.0;
    bounded = o.bounded.0;
  }

  -- it ends where that one starts
  meets : (p q : PagePointer) (l : List PagePointer) → OnFile count d read first p (q ∷ l) → end q ≡ start p
  meets p q l o = o.linked.0.meets

  shorter : (p q : PagePointer) (l : List PagePointer) → OnFile count d read first p (q ∷ l) → start q < start p
  shorter p q l o = omega (arith, o.linked.0.meets, o.linked.0.long)

  -- ---- walking back

  module _ (left target : ℕ) (lo : first ≤ left) where
    -- a page that names a boundary
    found_sound : (limit : ℕ) (p : PagePointer) (l : List PagePointer) → Stands p l → end p ≤ limit
        → p.header.record_boundary < p.header.length → p.header.length ≤ 224 → Sound count d read first (found_on left target limit p.header)
    unfolding found_on
    found_sound limit p l s e b c =
        let h = p.header in
        let n = h.record_boundary in
        rw (lt-leb 224 n (omega arith), lt-leb limit (h.seq + n) (omega arith), le-ltb h.length n (omega arith)) (go (leb (h.seq + n) left))
      where
        go : (t : Bool) → Sound count d read first (cond t too_left (hit (offer_on target p.header)))
        go true = tt
        go false = record { page = p; older = l; on = s.on; starts = refl; same = refl }

    -- a page whose header reads, by what the page before it gives
    seen_sound : (limit : ℕ) (p : PagePointer) (l : List PagePointer) (back : ℕ → ℕ → Hit) → Stands p l → start p < limit → end p ≤ limit → start p ≤ target
        → ((q : PagePointer) (m : List PagePointer) → Stands q m → start q < start p → end q ≤ start p → Sound count d read first (back q.page_id (start p)))
        → Sound count d read first (seen_on left target limit p.header back)
    unfolding seen_on
    seen_sound limit p l back s f e t rest =
        rw (lt-leb limit (start p) f, le-ltb target (start p) t) (go (passed_over left p.header) refl)
      where
        first_link : (q : PagePointer) (m : List PagePointer) → Linked count d p (q ∷ m) → link p 0 ≡ q.page_id
        first_link q m k = k.0.rule 0 (omega arith) ∙ rw (le-leb 0 (index (start q) (start p)) (omega arith))

        none_named : (m : List PagePointer) → Stands p m → left < start p
            → Sound count d read first (cond (eqb (link p 0) none) wrong (back (link p 0) (start p)))
        none_named [] s' a = absurd (omega (arith, s'.on.reaches))
        none_named (q ∷ m) s' a =
            let b = before p q m s'.on in
            let n : q.page_id ≡ none → ⊥ = λ w. omega (arith, b.page, w) in
            rw (first_link q m s'.on.linked, ne_eqb q.page_id none n)
            (rest q m b (shorter p q m s'.on) (omega (arith, meets p q m s'.on)))

        named : left < start p → Bounded p → Sound count d read first (cond (eqb p.header.record_boundary none) (cond (eqb (link p 0) none) wrong (back (link p 0) (start p))) (found_on left target limit p.header))
        named a (inl w) = rw (eq-eqb p.header.record_boundary none w) (none_named l s a)
        named a (inr w) =
            let n : p.header.record_boundary ≡ none → ⊥ = λ u. omega (arith, w.0, w.1, u) in
            rw (ne_eqb p.header.record_boundary none n) (found_sound limit p l s e w.0 w.1)

        go : (a : Bool) → passed_over left p.header ≡ a
            → Sound count d read first (cond a too_left (cond (eqb p.header.record_boundary none) (cond (eqb (link p 0) none) wrong (back (link p 0) (start p))) (found_on left target limit p.header)))
        go true a = tt
        go false a = named (leb-false (start p) left a) s.bounded

    walk_sound : (fuel limit : ℕ) (p : PagePointer) (l : List PagePointer) → start p < fuel → Stands p l → start p < limit → end p ≤ limit → start p ≤ target
        → Sound count d read first (seek_to_page count read left target fuel limit p.page_id)
    unfolding seek_to_page
    walk_sound zero limit p l g s f e t = absurd (omega arith)
    walk_sound (suc k) limit p l g s f e t =
        let n : p.page_id ≡ none → ⊥ = λ w. omega (arith, s.page, w) in
        rw (inside_yes count p.page_id n s.inside, s.reads)
        (seen_sound limit p l (λ j x. seek_to_page count read left target k x j) s f e t
        (λ q m z a b. walk_sound k (start p) q m (omega arith) z a b (omega arith)))

  -- ---- a level

  -- the page that link i of x names, for a number t from first_seq up to the link's number: of the file, and before x
  record Named (i : ℕ) (x : PagePointer) : Type 0 where
    page : PagePointer
    older : List PagePointer
    named : link x i ≡ page.page_id
    stands : Stands page older
    jumped : start page ≤ below (span i) (start x)
    ends : end page ≤ start x
    falls : start page < start x

  names : (i t : ℕ) (x : PagePointer) (l : List PagePointer) → i ≤ 8 → OnFile count d read first x l → first ≤ t → t < start x → t ≤ below (span i) (start x) → Named i x
  names i t x [] hi o lo h m = absurd (omega (arith, o.reaches))
  names i t x (q ∷ l) hi o lo h m =
      go (dec_le i (index (start q) (start x))) (λ h' m'. names i t q l hi (before x q l o).on lo h' m')
    where
      f : start q < start x
      f = shorter x q l o

      go : Dec (i ≤ index (start q) (start x)) → (t < start q → t ≤ below (span i) (start q) → Named i q) → Named i x
      go (yes c) r = record {
        page = q;
        older = l;
        named = o.linked.0.rule i hi ∙ simp (le-leb _ _ c);
        stands = before x q l o;
        jumped = (index_jump hi f).0 c;
        ends = omega (arith, meets x q l o);
        falls = f;
      }
      go (no c) r =
          let w = span_pos i hi in
          let low : below (span i) (start x) < start q = lt_of_not-le (λ g. c ((index_jump hi f).1 g)) in
          let n = r (omega arith) (omega (arith, below_keeps (span i) (start q) (start x) w (omega arith) low)) in record {
            page = n.page;
            older = n.older;
            named = o.linked.0.rule i hi ∙ simp (lt-leb _ _ (lt_of_not-le c)) n.named;
            stands = n.stands;
            jumped = omega (arith, n.jumped, below_up (span i) (start q) (start x) w (omega arith) (omega arith));
            ends = omega (arith, n.ends);
            falls = omega (arith, n.falls);
          }

  module _ (x : PagePointer) (l : List PagePointer) (o : OnFile count d read first x l) where
    -- what a level that is tried finds
    hit_sane : (left target : ℕ) (y : Hit) (next : ℕ → Sought) → left ≤ target → Sound count d read first y
        → ((k : ℕ) → left ≤ k → Sane count d read first k (next k)) → Sane count d read first left (hit_by left target y next)
    hit_sane left target (hit p) next h s r = (omega arith, s)
    hit_sane left target too_left next h s r = sane_up left (target + 1) (next (target + 1)) (omega arith) (r (target + 1) (omega arith))
    hit_sane left target wrong next h s r = s

    by_level : (i left : ℕ) → i ≤ 8 → first ≤ left → ((k : ℕ) → left ≤ k → Sane count d read first k (lowered count read (start x) x.header.skiplist i k))
        → Sane count d read first left (really_seek count read (start x) x.header.skiplist i left)
    by_level i left hi lo rest = rw (level_is count read (start x) x.header.skiplist i left) (go (tries left (start x) x.header.skiplist i) refl)
      where
        go : (t : Bool) → tries left (start x) x.header.skiplist i ≡ t
            → Sane count d read first left (cond t (walked count read (start x) x.header.skiplist i left (below (span i) (start x)) (start x) (link x i)) (lowered count read (start x) x.header.skiplist i left))
        go true a =
            let w = tries_says left (start x) x.header.skiplist i a in
            let n = names i left x l hi o lo w.room w.low in
            let s : Sound count d read first (seek_to_page count read left (below (span i) (start x)) (suc (start x)) (start x) (link x i)) =
            rw n.named (walk_sound left (below (span i) (start x)) lo (suc (start x)) (start x) n.page n.older (omega (arith, n.falls)) n.stands n.falls n.ends n.jumped) in
            hit_sane left (below (span i) (start x)) (seek_to_page count read left (below (span i) (start x)) (suc (start x)) (start x) (link x i)) (λ k. lowered count read (start x) x.header.skiplist i k) w.low s rest
        go false a = rest left (omega arith)

    -- on a file no level is Damaged
    pub level_sane : (i left : ℕ) → i ≤ 8 → first ≤ left → Sane count d read first left (really_seek count read (start x) x.header.skiplist i left)
    level_sane zero left hi lo = by_level zero left hi lo (λ k h. tt)
    level_sane (suc i) left hi lo = by_level (suc i) left hi lo (λ k h. level_sane i k (omega arith) (omega arith))

    -- on a file nothing is Damaged, and what is offered lies on the file
    pub hunt_sane : (left : ℕ) → first ≤ left → Sane count d read first left (hunt count read left (start x) x.header.skiplist)
    hunt_sane left lo = level_sane (level (left + 1) (start x)) left (level_le (left + 1) (start x)) lo

    pub never_broken : (left : ℕ) → first ≤ left → hunt count read left (start x) x.header.skiplist ≡ broken → ⊥
    never_broken left lo e = subst (Sane count d read first left) e (hunt_sane left lo)
