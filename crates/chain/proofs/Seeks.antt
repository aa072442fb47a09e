-- A seek on a chain: where a link leads, that the seek is right, and how many headers it reads. Assumes nothing.
use mathlib.Core.Path.{◌≡◌, sym, ◌∙◌, ap}
use mathlib.Core.Bool.{Bool, true, false, cond}
use mathlib.Core.List.{List, [], ◌∷◌}
use mathlib.Core.Logic.{inl, inr}
use Prim.Native.Nat.{ℕ, zero, suc, min, ◌+◌, ◌-◌, ◌/◌, ◌≤◌, ◌<◌}
use native.Mathlib.Nat.{le_refl, le_trans, le_of_eq, le_antisymm, le-add_right, lt_of_not-le, eq-or-lt_of_le, eq-zero-or-pos}
use native.Mathlib.Decide.{dec_le}
use native.Mathlib.Omega.{arith}
use borrow.Author.Tests.{le-leb, lt-leb}
use lib.Dec.{leb}
use lib.ListN.{length}
use Rattle.std.specs.Prelude.{Some}
use Rattle.seq.specs.Ids.{none}
use Rattle.seq.specs.Seq.{index, below, span, multiples}
use Rattle.seq.proofs.Laws.{index_jump, index_le, index_short, index_falls, index_mono, span_pos}
use Rattle.seq.proofs.Multiples.{below_greatest, multiples_mono, multiples_falls}
use Rattle.page.specs.Page.{Read, readable}
use Rattle.chain.specs.declared.PagePointer.{PagePointer}
use Rattle.chain.specs.Links.{start, end, link, Follows, Linked, Stand, Chain, oldest, holder, ids}
use Rattle.chain.specs.Steps.{via, seek_rule, at, Trace, seek}
use Rattle.chain.specs.Seek.{Agree, Right, most, located_by, located}
use Rattle.chain.proofs.Rules.{page_via, seek_falling, seek_meets, seek_here, seek_on}
use Rattle.chain.proofs.Traces.{Goes, Walked, walked_trace, depends}
use Rattle.chain.proofs.Chains.{holder_here, holder_on, holder_holds, holder_one, walk_chain}

-- with no multiple from a up to b, the greatest one below a is the greatest one below b
below_same : (m a b : ℕ) → 0 < m → a ≤ b → below m b < a → below m a ≡ below m b
below_same m a b hm h l =
    let x = below_greatest m a hm (omega arith) in
    let y = below_greatest m b hm (omega arith) in
    le_antisymm (rw x.0 (y.2 _ (omega (arith, x.0, x.1)))) (rw y.0 (x.2 _ (omega (arith, y.0))))

-- ---- where a link leads

-- link i of p, for a number t from the oldest page's start up to link i's jump: the page that it names, with the chain from there
pub record Lands (count d : ℕ) (read : ℕ → Read) (i t : ℕ) (p : PagePointer) (l : List PagePointer) : Type 0 where
  pub page : PagePointer
  pub older : List PagePointer
  pub named : link p i ≡ page.page_id
  pub inside : page.page_id < count
  pub some : page.page_id < none
  pub stands : read page.page_id ≡ readable page.header
  pub linked : Linked count d page older
  pub stand : Stand read older
  pub reaches : start (oldest page older) ≤ t
  pub jumped : start page ≤ below (span i) (start p)
  pub behind : start page + d ≤ start p
  pub same : holder t page older ≡ holder t p l

module _ (count d : ℕ) (hd : 0 < d) (read : ℕ → Read) where
  -- every link of a chain does
  pub lands : (i t : ℕ) (p : PagePointer) (l : List PagePointer) → i ≤ 8 → Linked count d p l → Stand read l
      → start (oldest p l) ≤ t → t < start p → t ≤ below (span i) (start p) → Lands count d read i t p l
  lands i t p [] hi k s o h m = absurd (omega arith)
  lands i t p (q ∷ l) hi k s o h m =
      go (dec_le i (index (start q) (start p))) (λ h' m'. lands i t q l hi k.1 s.1 o h' m')
    where
      f : Follows count d q p
      f = k.0

      before : start q < start p
      before = omega (arith, f.meets, f.long)

      go : Dec (i ≤ index (start q) (start p)) → (t < start q → t ≤ below (span i) (start q) → Lands count d read i t q l) → Lands count d read i t p (q ∷ l)
      go (yes c) r = record {
        page = q;
        older = l;
        named = f.rule i hi ∙ simp (le-leb _ _ c);
        inside = f.inside;
        some = f.page;
        stands = s.0;
        linked = k.1;
        stand = s.1;
        reaches = o;
        jumped = (index_jump hi before).0 c;
        behind = omega (arith, f.meets, f.long);
        same = sym (holder_on t p q l h);
      }
      go (no c) r =
          let short : below (span i) (start p) < start q = lt_of_not-le (λ g. c ((index_jump hi before).1 g)) in
          let e = below_same (span i) (start q) (start p) (span_pos i hi) (omega arith) short in
          let w = r (omega arith) (rw e m) in record {
            page = w.page;
            older = w.older;
            named = f.rule i hi ∙ simp (lt-leb i _ (lt_of_not-le c)) w.named;
            inside = w.inside;
            some = w.some;
            stands = w.stands;
            linked = w.linked;
            stand = w.stand;
            reaches = w.reaches;
            jumped = le_trans w.jumped (le_of_eq e);
            behind = omega (arith, w.behind);
            same = w.same ∙ sym (holder_on t p q l h);
          }

  -- ---- where a seek ends

  module _ (t : ℕ) where
    abbrev SoughtBy : PagePointer → List PagePointer → Type 0
    SoughtBy p js = Walked (seek_rule count t) (seek_falling count t) read p js

    seek_goes : (p : PagePointer) (l : List PagePointer) → t < start p → (w : Lands count d read (index t (start p)) t p l)
        → Goes (seek_rule count t) read p w.page
    seek_goes p l h w =
        let j = link p (index t (start p)) in
        let b = w.behind in
        let some : link p (index t (start p)) ≡ none → ⊥ = λ z. omega (arith, w.named, w.some) in record {
          way = seek_on count t p h ∙ page_via count j some (rw w.named w.inside) ∙ ap via w.named;
          stands = w.stands;
          meets = seek_meets count t p w.page.header (omega arith);
        }

    -- the pages that it passes: they end at the holder, and are no more than the rank of the first start, for a rank that falls with each jump
    pub record Arrives (rank : ℕ → ℕ) (p : PagePointer) (l : List PagePointer) : Type 0 where
      pub pages : List PagePointer
      pub walked : SoughtBy p pages
      pub ends : oldest p pages ≡ holder t p l
      pub few : length (ids pages) ≤ rank (start p)

    module _ (rank : ℕ → ℕ) (lower : (s u : ℕ) → t < s → u ≤ below (span (index t s)) s → u + d ≤ s → rank u < rank s) where
      arrives : (f : ℕ) (p : PagePointer) (l : List PagePointer) → start p < f → Linked count d p l → Stand read l → start (oldest p l) ≤ t → Arrives rank p l
      arrives zero p l hf k s o = absurd (omega arith)
      arrives (suc f) p l hf k s o = step (dec_le (start p) t) (λ q m hq kq sq oq. arrives f q m hq kq sq oq)
        where
          step : Dec (start p ≤ t)
              → ((q : PagePointer) (m : List PagePointer) → start q < f → Linked count d q m → Stand read m → start (oldest q m) ≤ t → Arrives rank q m)
              → Arrives rank p l
          step (yes h) r = record { pages = []; walked = seek_here count t p h; ends = sym (holder_here t p l h); few = omega arith }
          step (no h) r =
              let lt = lt_of_not-le h in
              let i = index t (start p) in
              let h8 = index_le t (start p) in
              let w = lands i t p l h8 k s o lt ((index_jump h8 lt).0 (le_refl i)) in
              let b = w.behind in
              let a = r w.page w.older (omega arith) w.linked w.stand w.reaches in record {
                pages = w.page ∷ a.pages;
                walked = (seek_goes p l lt w, a.walked);
                ends = a.ends ∙ w.same;
                few = omega (arith, a.few, lower (start p) (start w.page) lt w.jumped b);
              }

-- ---- how many headers

-- pages of 224 from s back to t, 2 at most
pages : ℕ → ℕ → ℕ
pages t s = min 2 ((s + 223 - t) / 224)

pages_mono : (t u s : ℕ) → u ≤ s → pages t u ≤ pages t s
unfolding pages
pages_mono t u s h = omega arith

pages_falls : (t u s : ℕ) → t < u → u + 224 ≤ s → s < t + 256 → pages t u < pages t s
unfolding pages
pages_falls t u s h l g = omega arith

-- steps left to t from a page that starts at s: one for each multiple of the top span, one for each level from 7 down to 1, and two at level 0
abbrev far : ℕ → ℕ → ℕ
far t s = multiples 32768 t s + min 7 (index t s) + pages t s

rank : ℕ → ℕ → ℕ
rank t s = cond (leb s t) 0 (far t s)

far_falls : (t s u : ℕ) → t < u → t < s → u ≤ below (span (index t s)) s → u + 224 ≤ s → far t u < far t s
unfolding span below
far_falls t s u hu h j l =
    let a = pages_mono t u s (omega arith) in
    let b = multiples_mono 32768 t {u = u} {b = s} (omega arith) in
    elim (eq-or-lt_of_le (index_le t s)) [
      | inl e ↦ omega (arith, multiples_falls 32768 t u s ((s - 1) / 32768) (rw e at ((index_jump (index_le t s) h).0 (le_refl (index t s)))) (rw e at j) (omega arith))
      | inr m ↦ elim (eq-zero-or-pos (index t s)) [
        | inl z ↦ omega (arith, index_mono hu (le_trans (le-add_right u 224) l), pages_falls t u s hu l (rw z at (index_short h m)))
        | inr z ↦ omega (arith, index_falls h hu j z m)
      ]
    ]

rank_falls : (t s u : ℕ) → t < s → u ≤ below (span (index t s)) s → u + 224 ≤ s → rank t u < rank t s
unfolding rank pages
rank_falls t s u h j l = go (dec_le u t)
  where
    go : Dec (u ≤ t) → rank t u < rank t s
    go (yes c) = simp (le-leb u t c, lt-leb s t h) (omega arith)
    go (no c) = simp (lt-leb u t (lt_of_not-le c), lt-leb s t h) (far_falls t s u (lt_of_not-le c) h j l)

rank_le : (t s : ℕ) → rank t s ≤ most t s
unfolding rank pages
rank_le t s = go (leb s t)
  where
    go : (b : Bool) → cond b 0 (far t s) ≤ most t s
    go true = omega arith
    go false = omega arith

-- ---- what a seek finds in a chain, for a number from the oldest page's start up to the last page's end

module _ (count : ℕ) (read : ℕ → Read) (t : ℕ) (p : PagePointer) (l : List PagePointer) (o : start (oldest p l) ≤ t) where
  sought_is : (d : ℕ) (hd : 0 < d) (m : ℕ → ℕ) (a : Arrives count d hd read t m p l) → seek count read t p ≡ record { path = ids a.pages; ends = at (holder t p l) }
  sought_is d hd m a =
      walked_trace (seek_rule count t) (seek_falling count t) read p a.pages a.walked
      ∙ ap (λ (q : PagePointer). record { path = ids a.pages; ends = at q }) a.ends

  -- it ends at the one page that holds t, and so does a walk back to t
  pub right : (d : ℕ) → 0 < d → Chain count d read p l → t < end p → Right count read t p l (holder t p l)
  right d hd c h =
      let k = c.linked in
      let w = holder_holds count d t p l k o h in
      let a = arrives count d hd read t (λ s. s) (λ s u h j b. omega arith) (suc (start p)) p l (omega arith) k c.stand o in record {
        sought = ap (λ (x : Trace). x.ends) (sought_is d hd (λ s. s) a);
        stepped = (walk_chain count d hd read t p l c o).0;
        among = w.2;
        holds = (w.0, w.1);
        only = λ x m lo hi. holder_one count d t x p l k m lo hi;
      }

  -- where all pages but the last are full it reads few headers
  pub few : Chain count 224 read p l → length (seek count read t p).path ≤ most t (start p)
  few c =
      let hd : 0 < 224 = omega arith in
      let a = arrives count 224 hd read t (rank t) (λ s u h j b. rank_falls t s u h j b) (suc (start p)) p l (omega arith) c.linked c.stand o in
      rw (sought_is 224 hd (rank t) a) (le_trans a.few (rank_le t (start p)))

  -- so the code's answer over a chain of full pages: the page, and few headers
  pub answers : Chain count 224 read p l → t < end p
      → (n : ℕ) × (located (seek count read t p) ≡ Some (record { count = n; page = holder t p l })) × (n ≤ most t (start p))
  answers c h =
      let n = length (seek count read t p).path in
      (n, ap (located_by n) (right 224 (omega arith) c h).sought, few c)

-- on any image that agrees on the headers of the path, the code answers the same
pub same : (count t : ℕ) (read other : ℕ → Read) (p : PagePointer) → Agree read other (seek count read t p).path
    → located (seek count other t p) ≡ located (seek count read t p)
same count t read other p a = ap located (depends (seek_rule count t) read other p a)
