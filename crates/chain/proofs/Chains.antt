-- Chains: the page that holds a number, what a walk back visits, and what keeps a chain a chain. Assumes nothing.
use mathlib.Core.Path.{◌≡◌, refl, sym, ◌∙◌, ap, subst}
use mathlib.Core.Bool.{Bool, true, false, cond}
use mathlib.Core.List.{List, [], ◌∷◌}
use mathlib.Core.Logic.{inl, inr}
use Prim.Native.Nat.{ℕ, ◌≤◌, ◌<◌}
use native.Mathlib.Nat.{le_of_eq, lt_of_not-le}
use native.Mathlib.Decide.{dec_le}
use native.Mathlib.Omega.{arith}
use borrow.Author.Tests.{le-leb, lt-leb}
use lib.Dec.{leb}
use Rattle.seq.specs.Ids.{none}
use Rattle.seq.specs.Seq.{index}
use Rattle.page.specs.Page.{Read, readable}
use Rattle.chain.specs.declared.PagePointer.{PagePointer}
use Rattle.chain.specs.Links.{start, end, link, Follows, Linked, Stand, Chain, oldest, holder, older, ids, Among}
use Rattle.chain.specs.Steps.{via, back_rule, reaches, step, at, Trace, walk, visited}
use Rattle.chain.proofs.Rules.{page_via, back_here, back_on, back_meets}
use Rattle.chain.proofs.Traces.{Goes, goes_step}
use Rattle.chain.proofs.Walks.{WalkedTo, walk_is}

-- ---- the page that holds a number

-- where p starts at or before t it is the holder, and no page before it is counted; else it is the next page's
pub holder_here : (t : ℕ) (p : PagePointer) (l : List PagePointer) → start p ≤ t → holder t p l ≡ p
unfolding holder
holder_here t p [] h = refl
holder_here t p (q ∷ l) h = simp (le-leb (start p) t h)

pub holder_on : (t : ℕ) (p q : PagePointer) (l : List PagePointer) → t < start p → holder t p (q ∷ l) ≡ holder t q l
unfolding holder
holder_on t p q l h = simp (lt-leb (start p) t h)

pub older_here : (t : ℕ) (p : PagePointer) (l : List PagePointer) → start p ≤ t → older t p l ≡ []
unfolding older
older_here t p [] h = refl
older_here t p (q ∷ l) h = simp (le-leb (start p) t h)

pub older_on : (t : ℕ) (p q : PagePointer) (l : List PagePointer) → t < start p → older t p (q ∷ l) ≡ q ∷ older t q l
unfolding older
older_on t p q l h = simp (lt-leb (start p) t h)

-- the pages back to the holder end with it
pub older_oldest : (t : ℕ) (p : PagePointer) (l : List PagePointer) → oldest p (older t p l) ≡ holder t p l
unfolding holder older
older_oldest t p [] = refl
older_oldest t p (q ∷ l) = go (dec_le (start p) t) (older_oldest t q l)
  where
    go : Dec (start p ≤ t) → oldest q (older t q l) ≡ holder t q l → oldest p (older t p (q ∷ l)) ≡ holder t p (q ∷ l)
    go (yes h) r = rw (older_here t p (q ∷ l) h, holder_here t p (q ∷ l) h)
    go (no h) r = let g = lt_of_not-le h in rw (older_on t p q l g, holder_on t p q l g) r

module _ (count d : ℕ) where
  -- every page of the chain ends where p starts, or before, but p itself
  older_ends : (x p q : PagePointer) (l : List PagePointer) → Linked count d p (q ∷ l) → Among x q l → end x ≤ start p
  older_ends x p q [] k a = rw a (le_of_eq k.0.meets)
  older_ends x p q (r ∷ l) k (inl a) = rw a (le_of_eq k.0.meets)
  older_ends x p q (r ∷ l) k (inr a) = omega (arith, older_ends x q r l k.1 a, k.0.meets)

  -- the first page from the last back that starts at or before t holds t, and is of the chain
  pub holder_holds : (t : ℕ) (p : PagePointer) (l : List PagePointer) → Linked count d p l → start (oldest p l) ≤ t → t < end p
      → (start (holder t p l) ≤ t) × (t < end (holder t p l)) × Among (holder t p l) p l
  unfolding holder
  holder_holds t p [] k o h = (o, h, refl)
  holder_holds t p (q ∷ l) k o h = go (dec_le (start p) t) (λ h'. holder_holds t q l k.1 o h')
    where
      go : Dec (start p ≤ t) → (t < end q → (start (holder t q l) ≤ t) × (t < end (holder t q l)) × Among (holder t q l) q l)
          → (start (holder t p (q ∷ l)) ≤ t) × (t < end (holder t p (q ∷ l))) × Among (holder t p (q ∷ l)) p (q ∷ l)
      go (yes c) r = rw (le-leb (start p) t c) (c, h, inl refl)
      go (no c) r =
          let lt = lt_of_not-le c in
          let w = r (omega (arith, k.0.meets)) in
          let e : holder t p (q ∷ l) ≡ holder t q l = rw (lt-leb (start p) t lt) in
          subst (λ (x : PagePointer). (start x ≤ t) × (t < end x) × Among x p (q ∷ l)) (sym e) (w.0, w.1, inr w.2)

  -- no other page of the chain holds t
  pub holder_one : (t : ℕ) (x p : PagePointer) (l : List PagePointer) → Linked count d p l → Among x p l → start x ≤ t → t < end x → x ≡ holder t p l
  unfolding holder
  holder_one t x p [] k a lo hi = a
  holder_one t x p (q ∷ l) k (inl a) lo hi = simp (le-leb (start p) t (rw (← a) lo)) a
  holder_one t x p (q ∷ l) k (inr a) lo hi =
      simp (lt-leb (start p) t (omega (arith, older_ends x p q l k a))) (holder_one t x q l k.1 a lo hi)

-- ---- walking back on a chain

module _ (count d : ℕ) (hd : 0 < d) (read : ℕ → Read) (t : ℕ) where
  -- one step, from a page above t to the one before it
  chain_goes : (p q : PagePointer) → Follows count d q p → read q.page_id ≡ readable q.header → t < start p → Goes (back_rule count t) read p q
  chain_goes p q f s h =
      let e : link p 0 ≡ q.page_id = f.rule 0 (omega arith) ∙ simp (le-leb 0 (index (start q) (start p)) (omega arith)) in
      let m = f.meets in
      let n = f.long in
      let some : link p 0 ≡ none → ⊥ = λ z. omega (arith, f.page) in record {
        way = back_on count t p h some ∙ page_via count (link p 0) some (rw e f.inside) ∙ ap via e;
        stands = s;
        meets = back_meets count t p q.header (omega arith);
      }

  -- so one step back leads to the page before, above t, and stays at or below it
  pub step_chain : (p q : PagePointer) (l : List PagePointer) → Chain count d read p (q ∷ l) → t < start p → step (back_rule count t) read p ≡ reaches q
  step_chain p q l c h = goes_step (back_rule count t) read p q (chain_goes p q c.linked.0 c.stand.0 h)

  -- and a walk passes the pages back to the holder
  pub chain_walked : (p : PagePointer) (l : List PagePointer) → Linked count d p l → Stand read l → start (oldest p l) ≤ t → WalkedTo count read t p (older t p l)
  unfolding older
  chain_walked p [] k s o = back_here count t p o
  chain_walked p (q ∷ l) k s o = go (dec_le (start p) t) (chain_walked q l k.1 s.1 o)
    where
      go : Dec (start p ≤ t) → WalkedTo count read t q (older t q l) → WalkedTo count read t p (older t p (q ∷ l))
      go (yes h) r = rw (le-leb (start p) t h) (back_here count t p h)
      go (no h) r =
          let g = lt_of_not-le h in
          rw (lt-leb (start p) t g) (chain_goes p q k.0 s.0 g, r)

  -- a walk back ends at the page that holds t, and visits the chain's pages from the last one to that one, in their order
  pub walk_chain : (p : PagePointer) (l : List PagePointer) → Chain count d read p l → start (oldest p l) ≤ t
      → ((walk count read t p).ends ≡ at (holder t p l)) × (visited p (walk count read t p) ≡ ids (p ∷ older t p l))
  walk_chain p l c o =
      let e = walk_is count read t p (older t p l) (chain_walked p l c.linked c.stand o) in
      (ap (λ (x : Trace). x.ends) e ∙ ap at (older_oldest t p l), ap (λ (x : Trace). p.page_id ∷ x.path) e)

-- the oldest page ends where the last one starts, or before
oldest_ends : (count d : ℕ) (p q : PagePointer) (l : List PagePointer) → Linked count d p (q ∷ l) → end (oldest q l) ≤ start p
oldest_ends count d p q [] k = le_of_eq k.0.meets
oldest_ends count d p q (r ∷ l) k = omega (arith, oldest_ends count d q r l k.1, k.0.meets)

-- where the oldest page holds t, the pages back to the holder are all of them
pub older_all : (count d t : ℕ) (p : PagePointer) (l : List PagePointer) → Linked count d p l → t < end (oldest p l) → older t p l ≡ l
unfolding older
older_all count d t p [] k h = refl
older_all count d t p (q ∷ l) k h =
    rw (lt-leb (start p) t (omega (arith, oldest_ends count d p q l k))) (ap (λ (x : List PagePointer). q ∷ x) (older_all count d t q l k.1 h))

-- so a walk back to a number that the oldest page holds visits the whole chain
pub walk_whole : (count d : ℕ) → 0 < d → (read : ℕ → Read) (t : ℕ) (p : PagePointer) (l : List PagePointer) → Chain count d read p l
    → start (oldest p l) ≤ t → t < end (oldest p l) → walk count read t p ≡ record { path = ids l; ends = at (oldest p l) }
walk_whole count d hd read t p l c o h =
    walk_is count read t p l
    (subst (λ (m : List PagePointer). WalkedTo count read t p m) (older_all count d t p l c.linked h) (chain_walked count d hd read t p l c.linked c.stand o))

-- the holder starts at or before t, where the oldest page does
pub holder_starts : (t : ℕ) (p : PagePointer) (l : List PagePointer) → start (oldest p l) ≤ t → start (holder t p l) ≤ t
unfolding holder
holder_starts t p [] o = o
holder_starts t p (q ∷ l) o = go (dec_le (start p) t) (holder_starts t q l o)
  where
    go : Dec (start p ≤ t) → start (holder t q l) ≤ t → start (holder t p (q ∷ l)) ≤ t
    go (yes h) r = rw (le-leb (start p) t h) h
    go (no h) r = rw (lt-leb (start p) t (lt_of_not-le h)) r

-- ---- what keeps a chain

-- a page with the start and the links of one that follows q follows q too
pub follows_copy : (count d : ℕ) (q p new : PagePointer) → new.header.seq ≡ p.header.seq → new.header.skiplist ≡ p.header.skiplist
    → Follows count d q p → Follows count d q new
follows_copy count d q p new es el f = record {
  inside = f.inside;
  page = f.page;
  long = f.long;
  meets = f.meets ∙ sym es;
  rule = λ i h. rw (es, el) (f.rule i h);
}

linked_less : (count d d' : ℕ) → d' ≤ d → (p : PagePointer) (l : List PagePointer) → Linked count d p l → Linked count d' p l
linked_less count d d' h p [] k = tt
linked_less count d d' h p (q ∷ l) k =
    let f = k.0 in
    let n = f.long in
    (record { inside = f.inside; page = f.page; long = omega arith; meets = f.meets; rule = f.rule }, linked_less count d d' h q l k.1)

linked_older : (count d t : ℕ) (p : PagePointer) (l : List PagePointer) → Linked count d p l → Linked count d p (older t p l)
unfolding older
linked_older count d t p [] k = tt
linked_older count d t p (q ∷ l) k = go (leb (start p) t) (linked_older count d t q l k.1)
  where
    go : (b : Bool) → Linked count d q (older t q l) → Linked count d p (cond b [] (q ∷ older t q l))
    go true r = tt
    go false r = (k.0, r)

stand_older : (read : ℕ → Read) (t : ℕ) (p : PagePointer) (l : List PagePointer) → Stand read l → Stand read (older t p l)
unfolding older
stand_older read t p [] s = tt
stand_older read t p (q ∷ l) s = go (leb (start p) t) (stand_older read t q l s.1)
  where
    go : (b : Bool) → Stand read (older t q l) → Stand read (cond b [] (q ∷ older t q l))
    go true r = tt
    go false r = (s.0, r)

module _ (count d : ℕ) (read : ℕ → Read) where
  -- a page with none before it, whatever its links
  pub alone : (p : PagePointer) → Chain count d read p []
  alone p = record { linked = tt; stand = tt }

  -- a page written behind the last one, which stands in the image, by the rule
  pub appended : (new p : PagePointer) (l : List PagePointer) → read p.page_id ≡ readable p.header → Follows count d p new
      → Chain count d read p l → Chain count d read new (p ∷ l)
  appended new p l s f c = record { linked = (f, c.linked); stand = (s, c.stand) }

  -- a page written for the last one, by the rule from the same page before it
  pub replaced : (new p q : PagePointer) (l : List PagePointer) → Follows count d q new → Chain count d read p (q ∷ l) → Chain count d read new (q ∷ l)
  replaced new p q l f c = record { linked = (f, c.linked.1); stand = c.stand }

  -- a copy of the last page on another page, of another length
  pub copied : (new p : PagePointer) (l : List PagePointer) → new.header.seq ≡ p.header.seq → new.header.skiplist ≡ p.header.skiplist
      → Chain count d read p l → Chain count d read new l
  copied new p [] es el c = alone new
  copied new p (q ∷ l) es el c = replaced new p q l (follows_copy count d q p new es el c.linked.0) c

  -- the last page dropped
  pub dropped : (p q : PagePointer) (l : List PagePointer) → Chain count d read p (q ∷ l) → Chain count d read q l
  dropped p q l c = record { linked = c.linked.1; stand = c.stand.1 }

  -- cut at the page that holds t: a chain, whose oldest page is that one
  pub truncated : (t : ℕ) (p : PagePointer) (l : List PagePointer) → Chain count d read p l
      → Chain count d read p (older t p l) × (oldest p (older t p l) ≡ holder t p l)
  truncated t p l c =
      (record { linked = linked_older count d t p l c.linked; stand = stand_older read t p l c.stand }, older_oldest t p l)

  -- less asked of the pages' lengths
  pub chain_less : (d' : ℕ) → d' ≤ d → (p : PagePointer) (l : List PagePointer) → Chain count d read p l → Chain count d' read p l
  chain_less d' h p l c = record { linked = linked_less count d d' h p l c.linked; stand = c.stand }
