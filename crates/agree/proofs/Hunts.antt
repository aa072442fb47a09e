-- The numbers of a search keep the limit. Assumes nothing.
use Rattle.seq.specs.Ids.{none}
use Rattle.seq.specs.Seq.{below, span, limit}
use native.Mathlib.Nat.{div-add-mod'}
use mathlib.Core.Bool.{and-eq-true_iff}
use Rattle.chain.specs.Steps as steps
use Rattle.search.specs.Hunt.{Hit, hit, too_left, wrong, greater, passed_over, found_on, seen_on, seen_by, seek_to_page, Sought, offered, ended, tries, hit_by, really_seek, hunt}
use Rattle.search.specs.declared.hunt.Offer.{Offer}
use Rattle.search.specs.declared.search.Stand.{Stand}
use Rattle.search.specs.Search.{offering}
use Prim.Native.Nat.{ℕ, zero, suc, ◌+◌, ◌-◌, ◌≤◌, ◌<◌}
use mathlib.Core.Path.{◌≡◌, refl, subst}
use mathlib.Core.Bool.{Bool, true, false, cond, ◌&&◌, ◌||◌, not}
use mathlib.Core.List.{List}
use native.Mathlib.Omega.{arith}
use lib.ListN.{get_or}
use lib.Dec.{leb, ltb, eqb}
use borrow.Author.Tests.{le-leb, ltb-true, leb-false}
use Rattle.page.specs.declared.DataHeader.{DataHeader}
use Rattle.agree.specs.Good.{SearchIs}
use Rattle.agree.proofs.Pages.{clash}
use Rattle.page.specs.Page.{Read, unreadable, readable}
use Rattle.state.specs.Checks.{search_ok}
use Rattle.state.specs.Values.{no_search}
use Rattle.chain.specs.Steps.{is_page}
use Rattle.chain.proofs.Seeks.{right}
use Rattle.seq.specs.Seq.{level}

test_by : {A : Type 0} (P : A → Type 0) (t : Bool) (a b : A) → (t ≡ true → P a) → (t ≡ false → P b) → P (cond t a b)
test_by P true a b f g = f refl
test_by P false a b f g = g refl

-- an offer's numbers are below b
pub record Small (b : ℕ) (o : Offer) : Type 0 where
  pub low : o.low < b
  pub mid : o.mid < b
  pub high : o.high < b

greater_lt : (a c b : ℕ) → a < b → c < b → greater a c < b
greater_lt a c b h k = test_by (λ (x : ℕ). x < b) (leb a c) c a (λ e. k) (λ e. h)

or_second : (a c : Bool) → (a || c) ≡ false → (a ≡ false) × (c ≡ false)
or_second false c e = (refl, e)
or_second true c e = clash cc

module _ (count : ℕ) (read : ℕ → Read) (left target b : ℕ) (low : target < b) where
  found_small : (top : ℕ) (h : DataHeader) (o : Offer) → top ≤ b → found_on left target top h ≡ hit o → Small b o
  unfolding found_on
  found_small top h o k =
      let s = h.seq + h.record_boundary in
      test_by (λ (x : Hit). x ≡ hit o → Small b o) (leb 224 h.record_boundary) _ _ (λ t e. clash cc)
      (λ t. test_by (λ (x : Hit). x ≡ hit o → Small b o) (leb top (h.seq + h.record_boundary)) _ _ (λ t e. clash cc)
      (λ u. test_by (λ (x : Hit). x ≡ hit o → Small b o) (leb (h.seq + h.record_boundary) left) _ _ (λ t e. clash cc)
      (λ t. test_by (λ (x : Hit). x ≡ hit o → Small b o) (ltb h.length h.record_boundary) _ _ (λ t e. clash cc)
      (λ t e. let z : record { low = h.seq; links = h.skiplist; mid = h.seq + h.record_boundary; high = greater target (h.seq + h.record_boundary) } ≡ o = cc in
      let y : h.seq + h.record_boundary < top = leb-false top (h.seq + h.record_boundary) u in
      subst (Small b) z (record { low = omega arith; mid = omega arith; high = greater_lt target (h.seq + h.record_boundary) b low (omega arith) })))))

  seek_small : (k top id : ℕ) (o : Offer) → top ≤ b → seek_to_page count read left target k top id ≡ hit o → Small b o
  unfolding seek_to_page seen_on
  seek_small zero top id o h e = clash cc
  seek_small (suc k) top id o h e =
      test_by (λ (x : Hit). x ≡ hit o → Small b o) (steps.is_page count id) _ _ (λ t. by (read id) (λ j s q. seek_small k s j o q)) (λ t e. clash cc) e
    where
      by : (r : Read) → ((j s : ℕ) → s ≤ b → seek_to_page count read left target k s j ≡ hit o → Small b o) → seen_by left target top r (λ j s. seek_to_page count read left target k s j) ≡ hit o → Small b o
      by unreadable ih = λ e. clash cc
      by (readable h') ih =
          test_by (λ (x : Hit). x ≡ hit o → Small b o) (leb top h'.seq || ltb target h'.seq) _ _ (λ t e. clash cc)
          (λ t. test_by (λ (x : Hit). x ≡ hit o → Small b o) (passed_over left h') _ _ (λ u e. clash cc)
          (λ u. test_by (λ (x : Hit). x ≡ hit o → Small b o) (eqb h'.record_boundary none) _ _
          (λ v. test_by (λ (x : Hit). x ≡ hit o → Small b o) (eqb (get_or h'.skiplist 0 0) none) _ _ (λ y e. clash cc)
          (λ y. ih (get_or h'.skiplist 0 0) h'.seq (let z : h'.seq < top = leb-false top h'.seq (or_second (leb top h'.seq) (ltb target h'.seq) t).0 in omega arith)))
          (λ v. found_small top h' o h)))

below_lt : (m c : ℕ) → 0 < c → below m c < c
unfolding below
below_lt m c h = let d = div-add-mod' (c - 1) m in omega arith

tries_right : (left right : ℕ) (links : List ℕ) (i : ℕ) → tries left right links i ≡ true → left < right
unfolding tries
tries_right left right links i e =
    let a = (and-eq-true_iff (ltb left right && not (eqb (get_or links i 0) none)) (leb left (below (span i) right))).0 e in
    let c = (and-eq-true_iff (ltb left right) (not (eqb (get_or links i 0) none))).0 a.0 in
    ltb-true left right c.0

module _ (count : ℕ) (read : ℕ → Read) (right : ℕ) (links : List ℕ) where
  level_small : (i left l : ℕ) (o : Offer) (next : ℕ → Sought) → ((l' : ℕ) → next l' ≡ offered l o → (l < right) × Small right o) → tries left right links i ≡ true
      → hit_by left (below (span i) right) (seek_to_page count read left (below (span i) right) (suc right) right (get_or links i 0)) next ≡ offered l o → (l < right) × Small right o
  level_small i left l o next ih t = by (seek_to_page count read left (below (span i) right) (suc right) right (get_or links i 0)) refl
    where
      lt : left < right
      lt = tries_right left right links i t

      target : below (span i) right < right
      target = below_lt (span i) right (omega (arith, lt))

      by : (x : Hit) → seek_to_page count read left (below (span i) right) (suc right) right (get_or links i 0) ≡ x → hit_by left (below (span i) right) x next ≡ offered l o → (l < right) × Small right o
      by (hit o') z e =
          let u : left ≡ l = cc in
          let v : o' ≡ o = cc in
          (omega (arith, lt), subst (Small right) v (seek_small count read left (below (span i) right) right target (suc right) right (get_or links i 0) o' (omega arith) z))
      by too_left z e = ih (below (span i) right + 1) e
      by wrong z e = clash cc

  really_small : (i left l : ℕ) (o : Offer) → really_seek count read right links i left ≡ offered l o → (l < right) × Small right o
  unfolding really_seek
  really_small zero left l o e =
      test_by (λ (x : Sought). x ≡ offered l o → (l < right) × Small right o) (tries left right links 0) _ _
      (λ t. level_small 0 left l o (λ l. ended) (λ l' e. clash cc) t) (λ t e. clash cc) e
  really_small (suc i) left l o e =
      test_by (λ (x : Sought). x ≡ offered l o → (l < right) × Small right o) (tries left right links (suc i)) _ _
      (λ t. level_small (suc i) left l o (λ l. really_seek count read right links i l) (λ l' e. really_small i l' l o e) t) (λ t. really_small i left l o) e

  pub hunt_small : (left l : ℕ) (o : Offer) → hunt count read left right links ≡ offered l o → (l < right) × Small right o
  hunt_small left l o e = really_small (level (left + 1) right) left l o e

-- so the search that offers it is in range, and curr_high below right
pub offering_ok : (s : Stand) (l : ℕ) (o : Offer) → s.file ≤ 7 → s.right ≤ limit → s.result ≤ limit → l < s.right → Small s.right o → SearchIs (offering s l o)
unfolding search_ok
offering_ok s l o f r t h k =
    record {
      ok = rw (le-leb s.file 7 f, le-leb l limit (omega arith), le-leb s.right limit r, le-leb s.result limit t, le-leb o.low limit (omega (arith, k.low)), le-leb o.mid limit (omega (arith, k.mid)), le-leb o.high limit (omega (arith, k.high)));
      below = λ e. k.high;
    }

pub no_search_ok : SearchIs no_search
unfolding search_ok no_search
no_search_ok = record { ok = refl; below = λ e. clash cc }
