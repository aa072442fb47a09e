-- The walk back of crate chain is the walk over the store of pages. Assumes nothing.
use Rattle.seq.specs.Ids.{none}
use Rattle.chain.specs.Links.{start, link}
use Rattle.chain.specs.Steps.{at}
use Rattle.owners.specs.Store.{stop, root, step}
use Rattle.owners.specs.Store as st
use Prim.Native.Nat.{ℕ, ◌≤◌, ◌<◌}
use mathlib.Core.Path.{◌≡◌, refl, sym, ap, subst, ◌∙◌}
use mathlib.Core.Logic.{◌⊎◌, inl, inr}
use mathlib.Core.List.{List, [], ◌∷◌}
use native.Mathlib.Omega.{arith}
use native.Mathlib.Decide.{dec_le}
use lib.ListN.{get_or}
use Rattle.page.specs.declared.DataHeader.{DataHeader}
use Rattle.chain.specs.declared.PagePointer.{PagePointer}
use Rattle.agree.specs.View.{view}
use Rattle.agree.proofs.Pages.{clash, data_view, view_data}
use Rattle.agree.proofs.Records.{link_none, link_some, link_by}
use Rattle.owners.specs.State.{link_of}
use Rattle.owners.specs.Store.{Link, nil, to, dat, Store, File, live, Walk, FileOk}
use Rattle.page.specs.Page.{page_of, readable}
use Rattle.chain.specs.Links.{oldest, ids}
use Rattle.chain.specs.Steps.{read_at, towards, back_rule, Trace, walk, visited}
use Rattle.chain.proofs.Rules.{page_via, back_falling, back_meets, back_here, back_none, back_on, back_halts, back_via}
use Rattle.chain.proofs.Traces.{trace_walked}
use Rattle.chain.proofs.Walks.{WalkedTo, walk_is}

-- ---- links

pub nil_none : (k : ℕ) → link_of k ≡ nil → k ≡ none
nil_none k e = link_by k (λ z h. z) (λ z h. clash cc)

pub to_page : (k p : ℕ) → link_of k ≡ to p → (k ≡ p) × (k ≡ none → ⊥)
to_page k p e = link_by k (λ z h. clash cc) (λ z h. (cc, z))

module _ (img : List ℕ) (count first : ℕ) where
  -- what a walk passes, from a page that stands in the image
  walked_walk : (p : PagePointer) (l : List PagePointer) → read_at img p.page_id ≡ readable p.header → WalkedTo count (read_at img) first p l
      → Walk (view img) count first p.page_id (p.page_id ∷ ids l)
  walked_walk p [] e w = by (back_halts count first p w)
    where
      v : view img p.page_id ≡ dat (start p) p.header.length (link_of (link p 0)) (page_of img p.page_id)
      v = data_view img p.page_id p.header e

      low : link p 0 ≡ none → Dec (start p ≤ first) → Walk (view img) count first p.page_id (p.page_id ∷ [])
      low z (yes h) = stop v h
      low z (no h) = root (v ∙ ap (λ (k : Link). dat (start p) p.header.length k (page_of img p.page_id)) (link_none (link p 0) z)) (omega arith)

      by : (start p ≤ first) ⊎ (link p 0 ≡ none) → Walk (view img) count first p.page_id (p.page_id ∷ [])
      by (inl h) = stop v h
      by (inr z) = low z (dec_le (start p) first)
  walked_walk p (q ∷ l) e w =
      let g = w.0 in
      let u = back_via count first p q.page_id g.way in
      let k : link_of (link p 0) ≡ to q.page_id = link_some (link p 0) (λ z. u.3 (u.1 ∙ z)) ∙ ap to (sym u.1) in
      let v = data_view img p.page_id p.header e ∙ ap (λ (y : Link). dat (start p) p.header.length y (page_of img p.page_id)) k in
      step v u.0 u.2 (data_view img q.page_id q.header g.stands) (back_falling count first p q.header g.meets) (walked_walk q l g.stands w.1)

  -- the walk of chain that ends at a page
  pub walk_sound : (p e : PagePointer) → read_at img p.page_id ≡ readable p.header → (walk count (read_at img) first p).ends ≡ at e
      → Walk (view img) count first p.page_id (visited p (walk count (read_at img) first p))
  walk_sound p e s h =
      let w = trace_walked (back_rule count first) (back_falling count first) (read_at img) p e h in
      subst (λ (t : Trace). Walk (view img) count first p.page_id (visited p t)) (sym (walk_is count (read_at img) first p w.0 w.1)) (walked_walk p w.0 s w.1)

  -- and back
  pub record Passes (j : ℕ) (h : DataHeader) (l : List ℕ) : Type 0 where
    pub pages : List PagePointer
    pub is : l ≡ j ∷ ids pages
    pub walked : WalkedTo count (read_at img) first (record { page_id = j; header = h }) pages

  same_header : (j : ℕ) (h h' : DataHeader) → read_at img j ≡ readable h → read_at img j ≡ readable h' → h ≡ h'
  same_header j h h' a c = cc

  walk_walked : (j : ℕ) (h : DataHeader) {l : List ℕ} → read_at img j ≡ readable h → Walk (view img) count first j l → Passes j h l
  walk_walked j h e (stop v a) =
      let s = view_data img j v in
      let z = same_header j h s.header e s.reads in
      let y : h.seq ≤ first = omega (arith, ap (λ (x : DataHeader). x.seq) z, s.seq) in
      record { pages = []; is = refl; walked = back_here count first (record { page_id = j; header = h }) y }
  walk_walked j h e (root v a) =
      let s = view_data img j v in
      let z = same_header j h s.header e s.reads in
      let p : PagePointer = record { page_id = j; header = h } in
      let y : first < h.seq = omega (arith, ap (λ (x : DataHeader). x.seq) z, s.seq) in
      let k : link_of (get_or h.skiplist 0 0) ≡ nil = ap (λ (x : DataHeader). link_of (get_or x.skiplist 0 0)) z ∙ s.link in
      record { pages = []; is = refl; walked = back_none count first p y (nil_none (get_or h.skiplist 0 0) k) }
  walk_walked j h e (step {p' = j'} {q' = q'} {l = l} v a b v' c w) =
      let s = view_data img j v in
      let s' = view_data img j' v' in
      let z = same_header j h s.header e s.reads in
      let y₀ = ap (λ (x : DataHeader). x.seq) z in
      let p : PagePointer = record { page_id = j; header = h } in
      let h' = s'.header in
      let q : PagePointer = record { page_id = j'; header = h' } in
      let k : link_of (get_or h.skiplist 0 0) ≡ to j' = ap (λ (x : DataHeader). link_of (get_or x.skiplist 0 0)) z ∙ s.link in
      let t = to_page (get_or h.skiplist 0 0) j' k in
      let above : first < start p = omega (arith, s.seq) in
      let falls : h'.seq < start p = omega (arith, s.seq, s'.seq) in
      let r = walk_walked j' h' s'.reads w in
      record {
        pages = q ∷ r.pages;
        is = ap (λ (x : List ℕ). j ∷ x) r.is;
        walked = (
          record {
            way = back_on count first p above t.1 ∙ ap (towards count) t.0 ∙ page_via count j' (λ z. t.1 (t.0 ∙ z)) b;
            stands = s'.reads;
            meets = back_meets count first p h' falls;
          },
          r.walked,
        );
      }

  pub record Ends (p : PagePointer) (l : List ℕ) : Type 0 where
    pub last : PagePointer
    pub ends : (walk count (read_at img) first p).ends ≡ at last
    pub pages : visited p (walk count (read_at img) first p) ≡ l

  pub walk_complete : (p : PagePointer) {l : List ℕ} → read_at img p.page_id ≡ readable p.header → Walk (view img) count first p.page_id l → Ends p l
  walk_complete p {l} e w =
      let r = walk_walked p.page_id p.header e w in
      let t = walk_is count (read_at img) first p r.pages r.walked in
      record {
        last = oldest p r.pages;
        ends = ap (λ (x : Trace). x.ends) t;
        pages = ap (visited p) t ∙ sym r.is;
      }

-- ---- a file

pub file_walk : {s : Store} {pc p a e g : ℕ} {f : File} {l : List ℕ} → FileOk s pc f l → f ≡ live p a e g → Walk s pc a p l
file_walk st.empty z = clash cc
file_walk {s} {pc} {p} {a} (st.full {p = p'} {first = a'} {l = l} u h b c d w) z =
    let x : p' ≡ p = cc in
    let y : a' ≡ a = cc in
    subst (λ (k : ℕ). Walk s pc a k l) x (subst (λ (k : ℕ). Walk s pc k p' l) y w)
