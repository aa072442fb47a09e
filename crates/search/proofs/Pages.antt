-- What the code's exits say of a page on the way. Assumes nothing.
use Rattle.std.specs.Prelude.{None}
use mathlib.Core.Path.{◌≡◌, refl}
use mathlib.Core.Bool.{true, false, not}
use Prim.Native.Nat.{ℕ, ◌+◌, ◌≤◌, ◌<◌}
use native.Mathlib.Omega.{arith}
use borrow.Author.Tests.{ltb-true, le-leb, lt-leb, lt-ltb, le-ltb, eq-eqb, ne_eqb}
use lib.Dec.{eqb, ltb}
use lib.ListN.{get_or}
use Rattle.seq.specs.Ids.{none}
use Rattle.page.specs.declared.DataHeader.{DataHeader}
use Rattle.page.specs.Page.{Read, gives}
use Rattle.chain.specs.Steps.{is_page}
use Rattle.state.proofs.Laws.{both}
use Rattle.search.specs.declared.hunt.Seen.{Seen}
use Rattle.search.specs.declared.hunt.Seen.TheVariants.{Hit as Found, TooLeft, Back, Wrong}
use Rattle.search.specs.Hunt.{Hit, hit, too_left, wrong, passed_over, found_on, seen_on}
use Rattle.search.specs.Told.{offer_on, Says, named}

-- ---- each of the four, by what is found

module _ (found : (ℕ → ℕ → Hit) → Hit) (target limit : ℕ) (h : DataHeader) where
  says_wrong : ((back : ℕ → ℕ → Hit) → found back ≡ wrong) → Says found target limit h Wrong
  says_wrong e = record {
    is = e;
    fits = λ q. let z : ◌≡◌ {A = ℕ} 0 1 = cc in absurd (omega arith);
    falls = λ q. let z : ◌≡◌ {A = ℕ} 0 1 = cc in absurd (omega arith);
  }

  says_left : ((back : ℕ → ℕ → Hit) → found back ≡ too_left) → Says found target limit h TooLeft
  says_left e = record {
    is = e;
    fits = λ q. let z : ◌≡◌ {A = ℕ} 0 1 = cc in absurd (omega arith);
    falls = λ q. let z : ◌≡◌ {A = ℕ} 0 1 = cc in absurd (omega arith);
  }

  says_hit : ((back : ℕ → ℕ → Hit) → found back ≡ hit (offer_on target h)) → h.seq + h.record_boundary < limit → Says found target limit h Found
  says_hit e l = record {
    is = e;
    fits = λ q. l;
    falls = λ q. let z : ◌≡◌ {A = ℕ} 0 1 = cc in absurd (omega arith);
  }

  says_back : ((back : ℕ → ℕ → Hit) → found back ≡ back (get_or h.skiplist 0 0) h.seq) → h.seq < limit → Says found target limit h Back
  says_back e l = record {
    is = e;
    fits = λ q. let z : ◌≡◌ {A = ℕ} 0 1 = cc in absurd (omega arith);
    falls = λ q. l;
  }

-- ---- a page that names a boundary

module _ (left target limit : ℕ) (h : DataHeader) where
  abbrev Boundary : Seen → Type 0
  Boundary s = Says (λ back. found_on left target limit h) target limit h s

  pub found_far : 224 ≤ h.record_boundary → Boundary Wrong
  unfolding found_on
  found_far a = says_wrong _ target limit h (λ back. rw (le-leb 224 h.record_boundary a))

  pub found_above : h.record_boundary < 224 → limit ≤ h.seq + h.record_boundary → Boundary Wrong
  unfolding found_on
  found_above a b = says_wrong _ target limit h (λ back. rw (lt-leb 224 h.record_boundary a, le-leb limit (h.seq + h.record_boundary) b))

  pub found_left : h.record_boundary < 224 → h.seq + h.record_boundary < limit → h.seq + h.record_boundary ≤ left → Boundary TooLeft
  unfolding found_on
  found_left a b d = says_left _ target limit h (λ back.
      rw (lt-leb 224 h.record_boundary a, lt-leb limit (h.seq + h.record_boundary) b, le-leb (h.seq + h.record_boundary) left d))

  pub found_past : h.record_boundary < 224 → h.seq + h.record_boundary < limit → left < h.seq + h.record_boundary → h.length < h.record_boundary → Boundary Wrong
  unfolding found_on
  found_past a b d e = says_wrong _ target limit h (λ back.
      rw (lt-leb 224 h.record_boundary a, lt-leb limit (h.seq + h.record_boundary) b, lt-leb (h.seq + h.record_boundary) left d, lt-ltb h.length h.record_boundary e))

  pub found_hit : h.record_boundary < 224 → h.seq + h.record_boundary < limit → left < h.seq + h.record_boundary → h.record_boundary ≤ h.length → Boundary Found
  unfolding found_on
  found_hit a b d e = says_hit _ target limit h (λ back.
      rw (lt-leb 224 h.record_boundary a, lt-leb limit (h.seq + h.record_boundary) b, lt-leb (h.seq + h.record_boundary) left d, le-ltb h.length h.record_boundary e)) b

  -- ---- a page whose header reads

  abbrev Readable : Seen → Type 0
  Readable s = Says (seen_on left target limit h) target limit h s

  pub seen_above : limit ≤ h.seq → Readable Wrong
  unfolding seen_on
  seen_above a = says_wrong _ target limit h (λ back. rw (le-leb limit h.seq a))

  pub seen_past : h.seq < limit → target < h.seq → Readable Wrong
  unfolding seen_on
  seen_past a b = says_wrong _ target limit h (λ back. rw (lt-leb limit h.seq a, lt-ltb target h.seq b))

  pub seen_left : h.seq < limit → h.seq ≤ target → passed_over left h ≡ true → Readable TooLeft
  unfolding seen_on
  seen_left a b o = says_left _ target limit h (λ back. rw (lt-leb limit h.seq a, le-ltb target h.seq b, o))

  pub seen_found : h.seq < limit → h.seq ≤ target → passed_over left h ≡ false → (h.record_boundary ≡ none → ⊥) → (s : Seen) → Boundary s → Readable s
  unfolding seen_on
  seen_found a b o n s f = record {
    is = λ back. rw (lt-leb limit h.seq a, le-ltb target h.seq b, o, ne_eqb h.record_boundary none n) (f.is back);
    fits = f.fits;
    falls = f.falls;
  }

  pub seen_first : h.seq < limit → h.seq ≤ target → passed_over left h ≡ false → h.record_boundary ≡ none → get_or h.skiplist 0 0 ≡ none → Readable Wrong
  unfolding seen_on
  seen_first a b o n l = says_wrong _ target limit h (λ back.
      rw (lt-leb limit h.seq a, le-ltb target h.seq b, o, eq-eqb h.record_boundary none n, eq-eqb (get_or h.skiplist 0 0) none l))

  pub seen_back : h.seq < limit → h.seq ≤ target → passed_over left h ≡ false → h.record_boundary ≡ none → (get_or h.skiplist 0 0 ≡ none → ⊥) → Readable Back
  unfolding seen_on
  seen_back a b o n l = says_back _ target limit h (λ back.
      rw (lt-leb limit h.seq a, le-ltb target h.seq b, o, eq-eqb h.record_boundary none n, ne_eqb (get_or h.skiplist 0 0) none l)) a

-- ---- a page by its id

module _ (count id : ℕ) where
  pub none_no : id ≡ none → is_page count id ≡ false
  unfolding is_page
  none_no e = rw (eq-eqb id none e)

  pub outside_no : (id ≡ none → ⊥) → count ≤ id → is_page count id ≡ false
  unfolding is_page
  outside_no n l = rw (ne_eqb id none n, le-ltb id count l)

  pub inside_yes : (id ≡ none → ⊥) → id < count → is_page count id ≡ true
  unfolding is_page
  inside_yes n l = rw (ne_eqb id none n, lt-ltb id count l)

  pub inside_says : is_page count id ≡ true → id < count
  unfolding is_page
  inside_says e = ltb-true id count (both (not (eqb id none)) (ltb id count) e).1

module _ (count : ℕ) (read : ℕ → Read) (id : ℕ) where
  pub named_no : is_page count id ≡ false → None ≡ gives (named count read id)
  unfolding gives
  named_no e = rw e refl

  pub named_yes : is_page count id ≡ true → gives (read id) ≡ gives (named count read id)
  named_yes e = rw e refl
