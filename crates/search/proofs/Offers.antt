-- Every start that is offered is a named boundary above left and below right, and there is less room after each answer. Assumes nothing.
use mathlib.Core.Path.{◌≡◌, refl, sym, ◌∙◌, ap}
use mathlib.Core.Bool.{Bool, true, false, cond, ◌||◌}
use mathlib.Core.List.{List}
use Prim.Native.Nat.{ℕ, zero, suc, ◌+◌, ◌≤◌, ◌<◌}
use native.Mathlib.Omega.{arith}
use borrow.Author.Tests.{ltb-false, leb-false}
use lib.Dec.{leb, ltb, eqb}
use lib.ListN.{get_or}
use Rattle.seq.specs.Ids.{none}
use Rattle.seq.specs.Seq.{below, span, level}
use Rattle.seq.proofs.Laws.{level_le}
use Rattle.page.specs.declared.DataHeader.{DataHeader}
use Rattle.page.specs.Page.{Read, readable, unreadable}
use Rattle.chain.specs.Steps.{is_page}
use Rattle.state.specs.declared.types.Search.{Search}
use Rattle.search.specs.declared.hunt.Offer.{Offer}
use Rattle.search.specs.declared.search.Stand.{Stand}
use Rattle.search.specs.Hunt.{Hit, hit, too_left, wrong, greater, passed_over, found_on, seen_on, seen_by, seek_to_page, hit_by, tries, offered, ended, broken, really_seek, hunt}
use Rattle.search.specs.Search.{offering, left_of, right_of}
use Rattle.search.specs.Told.{offer_on, walked, lowered}
use Rattle.search.specs.Right.{Named, Standing, room}
use Rattle.search.proofs.Pages.{inside_says}
use Rattle.search.proofs.Levels.{level_is, tries_says, number_below}

-- ---- what a hit shows

module _ (o : Offer) where
  -- a test before a hit failed where passing it gives no hit
  skip : (a : Bool) (x y : Hit) → (x ≡ hit o → ⊥) → cond a x y ≡ hit o → (a ≡ false) × (y ≡ hit o)
  skip true x y n e = absurd (n e)
  skip false x y n e = (refl, e)

  no_wrong : wrong ≡ hit o → ⊥
  no_wrong e = let z : ◌≡◌ {A = ℕ} 0 1 = cc in omega arith

  no_left : too_left ≡ hit o → ⊥
  no_left e = let z : ◌≡◌ {A = ℕ} 0 1 = cc in omega arith

  neither : (a b : Bool) → (a || b) ≡ false → (a ≡ false) × (b ≡ false)
  neither true b e = let z : ◌≡◌ {A = ℕ} 0 1 = cc in absurd (omega arith)
  neither false b e = (refl, e)

  -- of a page that names a boundary
  pub record Hits (left target limit : ℕ) (h : DataHeader) : Type 0 where
    pub is : offer_on target h ≡ o
    pub payload : h.record_boundary < 224
    pub below : h.seq + h.record_boundary < limit
    pub above : left < h.seq + h.record_boundary
    pub long : h.record_boundary ≤ h.length

  found_says : (left target limit : ℕ) (h : DataHeader) → found_on left target limit h ≡ hit o → Hits left target limit h
  unfolding found_on
  found_says left target limit h e =
      let a = skip (leb 224 h.record_boundary) wrong _ no_wrong e in
      let b = skip (leb limit (h.seq + h.record_boundary)) wrong _ no_wrong a.1 in
      let c = skip (leb (h.seq + h.record_boundary) left) too_left _ no_left b.1 in
      let d = skip (ltb h.length h.record_boundary) wrong (hit (offer_on target h)) no_wrong c.1 in
      let f = d.1 in record {
        is = cc;
        payload = leb-false _ _ a.0;
        below = leb-false _ _ b.0;
        above = leb-false _ _ c.0;
        long = ltb-false _ _ d.0;
      }

module _ (count : ℕ) (read : ℕ → Read) (left target : ℕ) (o : Offer) where
  abbrev Good : ℕ → Type 0
  Good limit = Named count read left limit o × (o.high ≡ greater target o.mid)

  raised : (a b : ℕ) → a ≤ b → Good a → Good b
  raised a b l g = let n = g.0 in (
    record {
      page = n.page;
      header = n.header;
      inside = n.inside;
      reads = n.reads;
      low = n.low;
      links = n.links;
      mid = n.mid;
      payload = n.payload;
      long = n.long;
      after = n.after;
      above = n.above;
      below = omega (arith, n.below);
    },
    g.1,
  )

  hits_good : (limit id : ℕ) (h : DataHeader) → id < count → read id ≡ readable h → passed_over left h ≡ false → Hits o left target limit h → Good limit
  hits_good limit id h i r p t =
      let e = t.is in
      let low : o.low ≡ h.seq = ap (λ (x : Offer). x.low) (sym e) in
      let mid : o.mid ≡ h.seq + h.record_boundary = ap (λ (x : Offer). x.mid) (sym e) in (
        record {
          page = id;
          header = h;
          inside = i;
          reads = r;
          low = low;
          links = ap (λ (x : Offer). x.links) (sym e);
          mid = mid;
          payload = t.payload;
          long = t.long;
          after = omega (arith, leb-false h.seq left p, low);
          above = omega (arith, t.above, mid);
          below = omega (arith, t.below, mid);
        },
        ap (λ (x : Offer). x.high) (sym e) ∙ rw mid,
      )

  -- a page that is read on the way
  seen_good : (limit id : ℕ) (h : DataHeader) (back : ℕ → ℕ → Hit) → id < count → read id ≡ readable h → ((j s : ℕ) → s < limit → back j s ≡ hit o → Good s)
      → seen_on left target limit h back ≡ hit o → Good limit
  unfolding seen_on
  seen_good limit id h back i r f e =
      let a = skip o (leb limit h.seq || ltb target h.seq) wrong _ (no_wrong o) e in
      let t = neither o (leb limit h.seq) (ltb target h.seq) a.0 in
      let l = leb-false limit h.seq t.0 in
      let b = skip o (passed_over left h) too_left _ (no_left o) a.1 in
      go (eqb h.record_boundary none) l b.0 b.1
    where
      go : (n : Bool) → h.seq < limit → passed_over left h ≡ false
          → cond n (cond (eqb (get_or h.skiplist 0 0) none) wrong (back (get_or h.skiplist 0 0) h.seq)) (found_on left target limit h) ≡ hit o → Good limit
      go true l p q =
          let s = skip o (eqb (get_or h.skiplist 0 0) none) wrong _ (no_wrong o) q in
          raised h.seq limit (omega arith) (f _ h.seq l s.1)
      go false l p q = hits_good limit id h i r p (found_says o left target limit h q)

  by_good : (limit id : ℕ) (x : Read) (back : ℕ → ℕ → Hit) → id < count → read id ≡ x → ((j s : ℕ) → s < limit → back j s ≡ hit o → Good s)
      → seen_by left target limit x back ≡ hit o → Good limit
  by_good limit id unreadable back i r f e = absurd (no_wrong o e)
  by_good limit id (readable h) back i r f e = seen_good limit id h back i r f e

  -- a walk back that hits
  walk_good : (fuel limit id : ℕ) → seek_to_page count read left target fuel limit id ≡ hit o → Good limit
  unfolding seek_to_page
  walk_good zero limit id e = absurd (no_wrong o e)
  walk_good (suc k) limit id e = go (λ s j w. walk_good k s j w) (is_page count id) refl e
    where
      go : ((s j : ℕ) → seek_to_page count read left target k s j ≡ hit o → Good s) → (a : Bool) → is_page count id ≡ a → cond a (seen_by left target limit (read id) (λ j s. seek_to_page count read left target k s j)) wrong ≡ hit o → Good limit
      go f true a q = by_good limit id (read id) _ (inside_says count id a) refl (λ j s l w. f s j w) q
      go f false a q = absurd (no_wrong o q)

-- ---- what an offer shows

greater_between : (a b r : ℕ) → a < r → b < r → (b ≤ greater a b) × (greater a b < r)
greater_between a b r h k = go (leb a b) refl
  where
    go : (t : Bool) → leb a b ≡ t → (b ≤ cond t b a) × (cond t b a < r)
    go true e = (omega arith, k)
    go false e = let l = leb-false a b e in (omega arith, h)

module _ (count : ℕ) (read : ℕ → Read) (right : ℕ) (links : List ℕ) (l : ℕ) (o : Offer) where
  -- left moves only to the right, and the position lies between left and right
  pub record Offers (left : ℕ) : Type 0 where
    pub moved : left ≤ l
    pub named : Named count read l right o
    pub reaches : o.mid ≤ o.high
    pub before : o.high < right

  no_end : ended ≡ offered l o → ⊥
  no_end e = let z : ◌≡◌ {A = ℕ} 0 1 = cc in omega arith

  no_break : broken ≡ offered l o → ⊥
  no_break e = let z : ◌≡◌ {A = ℕ} 0 1 = cc in omega arith

  hit_offers : (left target : ℕ) (p : Offer) (fuel id : ℕ) → target < right → seek_to_page count read left target fuel right id ≡ hit p → offered left p ≡ offered l o → Offers left
  hit_offers left target p fuel id h e q =
      let el : left ≡ l = cc in
      let eo : p ≡ o = cc in
      let f : seek_to_page count read l target fuel right id ≡ hit o = rw (← el, ← eo) e in
      let g = walk_good count read l target o fuel right id f in
      let m = greater_between target o.mid right h g.0.below in
      record { moved = omega arith; named = g.0; reaches = rw g.1 m.0; before = rw g.1 m.1 }

  by_level : (i left : ℕ) → i < 9 → ((k : ℕ) → lowered count read right links i k ≡ offered l o → Offers k)
      → cond (tries left right links i) (walked count read right links i left (below (span i) right) right (get_or links i 0)) (lowered count read right links i left) ≡ offered l o
      → Offers left
  by_level i left h rest e = go (tries left right links i) refl e
    where
      target : ℕ
      target = below (span i) right

      on : (x : Hit) → seek_to_page count read left target (suc right) right (get_or links i 0) ≡ x → target < right → left ≤ target
          → hit_by left target x (λ k. lowered count read right links i k) ≡ offered l o → Offers left
      on (hit p) f b t q = hit_offers left target p (suc right) (get_or links i 0) b f q
      on too_left f b t q = let r = rest (target + 1) q in record { moved = omega (arith, r.moved); named = r.named; reaches = r.reaches; before = r.before }
      on wrong f b t q = absurd (no_break q)

      go : (t : Bool) → tries left right links i ≡ t
          → cond t (walked count read right links i left target right (get_or links i 0)) (lowered count read right links i left) ≡ offered l o → Offers left
      go true a q =
          let w = tries_says left right links i a in
          let room = w.room in
          on (seek_to_page count read left target (suc right) right (get_or links i 0)) refl (number_below right i h (omega arith)) w.low q
      go false a q = rest left q

  pub level_offers : (i left : ℕ) → i < 9 → really_seek count read right links i left ≡ offered l o → Offers left
  level_offers zero left h e = by_level zero left h (λ k q. absurd (no_end q)) (sym (level_is count read right links zero left) ∙ e)
  level_offers (suc i) left h e = by_level (suc i) left h (λ k q. level_offers i k (omega arith) q) (sym (level_is count read right links (suc i) left) ∙ e)

  -- every start that is offered is a boundary that a readable page names, above left and below right
  pub hunt_offers : (left : ℕ) → hunt count read left right links ≡ offered l o → Offers left
  hunt_offers left e = level_offers (level (left + 1) right) left (omega (arith, level_le (left + 1) right)) e

-- ---- less room after each answer

module _ (count : ℕ) (read : ℕ → Read) (l : ℕ) (o : Offer) where
  -- an offer leaves a search that stands between left and right
  pub offer_stands : (s : Stand) → hunt count read s.left s.right s.links ≡ offered l o → Standing (offering s l o)
  offer_stands s e =
      let f = hunt_offers count read s.right s.links l o s.left e in
      let n = f.named in record {
        after = n.after;
        starts = omega (arith, n.low, n.mid);
        reaches = f.reaches;
        before = f.before;
      }

  pub left_falls : (q : Search) → Standing q → hunt count read q.left q.low q.low_links ≡ offered l o → room (offering (left_of q) l o) < room q
  left_falls q t e =
      let f = hunt_offers count read q.low q.low_links l o q.left e in
      omega (arith, f.moved, t.after, t.starts, t.reaches, t.before)

  pub right_falls : (q : Search) → Standing q → hunt count read (q.high + 1) q.right q.right_links ≡ offered l o → room (offering (right_of q) l o) < room q
  right_falls q t e =
      let f = hunt_offers count read q.right q.right_links l o (q.high + 1) e in
      omega (arith, f.moved, t.after, t.starts, t.reaches, t.before)
