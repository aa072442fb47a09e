-- Walking back needs no more fuel than the limit, and what the exits of the two functions come to. Assumes nothing.
use mathlib.Core.Path.{◌≡◌, refl, sym, ◌∙◌, ap}
use mathlib.Core.Bool.{Bool, true, false, cond, ◌&&◌, not}
use mathlib.Core.List.{List}
use Prim.Native.Nat.{ℕ, zero, suc, ◌+◌, ◌-◌, ◌≤◌, ◌<◌, max}
use native.Mathlib.Numerals.{sub-one}
use native.Mathlib.Decide.{dec_le}
use native.Mathlib.Nat.{lt_of_not-le}
use native.Mathlib.Omega.{arith}
use borrow.Author.Tests.{ltb-true, leb-true, leb-false, eqb-false, le-leb, lt-leb, lt-ltb, le-ltb, eq-eqb, ne_eqb, not-true}
use lib.Dec.{leb, ltb, eqb}
use lib.ListN.{get_or}
use Rattle.seq.specs.Ids.{none}
use Rattle.seq.specs.Seq.{below, span, number, reply, jump_says}
use Rattle.std.specs.Prelude.{Option, Some, None, Result, Ok, Err}
use Rattle.seq.specs.declared.numbers.SeqError.{SeqError}
use Rattle.seq.specs.declared.numbers.SeqError.TheVariants.{Range, SeqEnd}
use Rattle.std.proofs.lemmas.Option.{same_Some}
use Rattle.seq.proofs.Laws.{span_pos}
use Rattle.seq.proofs.Multiples.{below_greatest}
use Rattle.state.proofs.Laws.{both}
use Rattle.page.specs.declared.DataHeader.{DataHeader}
use Rattle.page.specs.Page.{Read, readable, unreadable, gives}
use Rattle.chain.specs.Steps.{is_page}
use Rattle.search.specs.declared.hunt.Seen.{Seen}
use Rattle.search.specs.declared.hunt.Seen.TheVariants.{Hit as Found, TooLeft, Back, Wrong}
use Rattle.search.specs.declared.hunt.Aim.{Aim}
use Rattle.search.specs.Hunt.{Hit, wrong, greater, seen_on, seen_by, seek_to_page, hit_by, tries, Sought, offered, ended, broken, really_seek}
use Rattle.search.specs.Told.{told, offer_on, hit_of, Says, named, seen_at, aimed, lowered, walked}

-- ---- fuel

-- what follows a page counts only where its seq is below the limit
seen_same : (left target limit : ℕ) (h : DataHeader) (back other : ℕ → ℕ → Hit) → ((j s : ℕ) → s < limit → back j s ≡ other j s)
    → seen_on left target limit h back ≡ seen_on left target limit h other
unfolding seen_on
seen_same left target limit h back other f = go (leb limit h.seq) refl
  where
    go : (a : Bool) → leb limit h.seq ≡ a → seen_on left target limit h back ≡ seen_on left target limit h other
    go true e = rw e
    go false e = let k = f (get_or h.skiplist 0 0) h.seq (leb-false _ _ e) in rw k

by_same : (left target limit : ℕ) (r : Read) (back other : ℕ → ℕ → Hit) → ((j s : ℕ) → s < limit → back j s ≡ other j s)
    → seen_by left target limit r back ≡ seen_by left target limit r other
by_same left target limit unreadable back other f = refl
by_same left target limit (readable h) back other f = seen_same left target limit h back other f

module _ (count : ℕ) (read : ℕ → Read) (left target : ℕ) where
  -- more fuel than the limit changes nothing
  pub fuel_same : (m n limit id : ℕ) → limit < m → limit < n → seek_to_page count read left target m limit id ≡ seek_to_page count read left target n limit id
  unfolding seek_to_page
  fuel_same zero n limit id h k = absurd (omega arith)
  fuel_same (suc m) zero limit id h k = absurd (omega arith)
  fuel_same (suc m) (suc n) limit id h k =
      ap (λ x. cond (is_page count id) x wrong) (by_same left target limit (read id) _ _ (λ j s l. fuel_same m n s j (omega arith) (omega arith)))

  abbrev pub again : ℕ → ℕ → Hit
  again j s = seek_to_page count read left target (suc s) s j

  -- one page on the way
  pub unroll : (limit id : ℕ) → seek_to_page count read left target (suc limit) limit id ≡ seen_at count read left target limit id again
  unfolding seek_to_page
  unroll limit id =
      ap (λ x. cond (is_page count id) x wrong) (by_same left target limit (read id) _ _ (λ j s l. fuel_same limit (suc s) s j l (omega arith)))

-- ---- the greater of two

pub greater_max : (a b : ℕ) → greater a b ≡ max a b
greater_max a b = by (dec_le a b)
  where
    by : Dec (a ≤ b) → greater a b ≡ max a b
    by (yes h) = rw (le-leb a b h) (omega arith)
    by (no h) = let m = lt_of_not-le h in rw (lt-leb a b m) (omega arith)

-- ---- a level's number

pub jumped : (c i : ℕ) → 0 < c → i < 9 → (r : Result ℕ SeqError) → reply r ≡ jump_says c i → r ≡ Ok (below (span i) c)
jumped c i hc hi r e = go r (e ∙ rw (ne_eqb c 0 (λ q. omega arith), lt-ltb i 9 hi))
  where
    go : (r : Result ℕ SeqError) → reply r ≡ number (below (span i) c) → r ≡ Ok (below (span i) c)
    go (Ok n) q = cc
    go (Err Range) q = cc
    go (Err SeqEnd) q = cc

-- it lies below right
pub number_below : (right i : ℕ) → i < 9 → 0 < right → below (span i) right < right
number_below right i h p = (below_greatest (span i) right (span_pos i (omega arith)) p).1

-- ---- whether a level is tried

module _ (left right : ℕ) (links : List ℕ) (i : ℕ) where
  pub aim_empty : right ≤ left → None ≡ aimed left right links i
  unfolding tries
  aim_empty a = rw (le-ltb left right a)

  pub aim_none : left < right → get_or links i 0 ≡ none → None ≡ aimed left right links i
  unfolding tries
  aim_none a b = rw (lt-ltb left right a, eq-eqb (get_or links i 0) none b)

  pub aim_low : left < right → (get_or links i 0 ≡ none → ⊥) → below (span i) right < left → None ≡ aimed left right links i
  unfolding tries
  aim_low a b d = rw (lt-ltb left right a, ne_eqb (get_or links i 0) none b, lt-leb left (below (span i) right) d)

  pub aim_tries : left < right → (get_or links i 0 ≡ none → ⊥) → left ≤ below (span i) right → Some (record { id = get_or links i 0; target = below (span i) right }) ≡ aimed left right links i
  unfolding tries
  aim_tries a b d = rw (lt-ltb left right a, ne_eqb (get_or links i 0) none b, le-leb left (below (span i) right) d)

  -- what a level that is tried shows
  pub record Tried : Type 0 where
    pub room : left < right
    pub some : get_or links i 0 ≡ none → ⊥
    pub low : left ≤ below (span i) right

  pub tries_says : tries left right links i ≡ true → Tried
  unfolding tries
  tries_says e =
      let a = both (ltb left right && not (eqb (get_or links i 0) none)) (leb left (below (span i) right)) e in
      let b = both (ltb left right) (not (eqb (get_or links i 0) none)) a.0 in record {
        room = ltb-true _ _ b.0;
        some = eqb-false _ none (not-true _ b.1);
        low = leb-true _ _ a.1;
      }

  -- by what the code was told
  abbrev pub Told : Option Aim → Type 0
  Told (Some a) = (tries left right links i ≡ true) × (a.id ≡ get_or links i 0) × (a.target ≡ below (span i) right)
  Told None = tries left right links i ≡ false

  pub aim_told : (s : Option Aim) → s ≡ aimed left right links i → Told s
  aim_told s e = go (tries left right links i) refl s e
    where
      go : (t : Bool) → tries left right links i ≡ t → (s : Option Aim)
          → s ≡ cond t (Some (record { id = get_or links i 0; target = below (span i) right })) None → Told s
      go true a (Some b) u = let v = same_Some _ _ u in (a, ap (λ (x : Aim). x.id) v, ap (λ (x : Aim). x.target) v)
      go true a None u = cc
      go false a (Some b) u = cc
      go false a None u = a

-- ---- trying a level

module _ (count : ℕ) (read : ℕ → Read) (right : ℕ) (links : List ℕ) where
  pub level_is : (i left : ℕ) → really_seek count read right links i left
      ≡ cond (tries left right links i) (walked count read right links i left (below (span i) right) right (get_or links i 0)) (lowered count read right links i left)
  unfolding really_seek
  level_is zero left = refl
  level_is (suc i) left = refl

  lower_last : (i left : ℕ) → i ≡ 0 → ended ≡ lowered count read right links i left
  lower_last i left e = rw e

  lower_down : (i left : ℕ) → (i ≡ 0 → ⊥) → really_seek count read right links (i - 1) left ≡ lowered count read right links i left
  lower_down zero left n = absurd (n refl)
  lower_down (suc i) left n = rw (sub-one (suc i))

  module _ (i left : ℕ) where
    past_is : tries left right links i ≡ false → lowered count read right links i left ≡ really_seek count read right links i left
    past_is e = sym (level_is i left ∙ rw e)

    pub past_last : tries left right links i ≡ false → i ≡ 0 → told ended ≡ told (really_seek count read right links i left)
    past_last e z = ap told (lower_last i left z ∙ past_is e)

    pub past_down : tries left right links i ≡ false → (i ≡ 0 → ⊥) → told (really_seek count read right links (i - 1) left) ≡ told (really_seek count read right links i left)
    past_down e n = ap told (lower_down i left n ∙ past_is e)

    pub at_page : (id target : ℕ) → (tries left right links i ≡ true) × (id ≡ get_or links i 0) × (target ≡ below (span i) right)
        → told (walked count read right links i left target right id) ≡ told (really_seek count read right links i left)
    at_page id target t =
        let e : walked count read right links i left target right id ≡ really_seek count read right links i left = rw (t.1, t.2) (sym (level_is i left ∙ rw t.0)) in
        ap told e

  -- ---- walking back a page

  -- no page has the id, or no header reads there
  pub on_none : (i left target limit id : ℕ) → None ≡ gives (named count read id) → told broken ≡ told (walked count read right links i left target limit id)
  unfolding gives
  on_none i left target limit id e =
      ap (λ x. told (hit_by left target x (λ l. lowered count read right links i l))) (sym (unroll count read left target limit id ∙ by (is_page count id) (read id) e))
    where
      by : (b : Bool) (r : Read) → None ≡ gives (cond b r unreadable) → cond b (seen_by left target limit r (again count read left target)) wrong ≡ wrong
      by true unreadable e = refl
      by true (readable h) e = cc
      by false r e = refl

  module _ (i left target limit id : ℕ) (h : DataHeader) (s : Seen) (r : Some h ≡ gives (named count read id)) (y : Says (seen_on left target limit h) target limit h s) where
    abbrev Ends : Sought → Type 0
    Ends x = told x ≡ told (walked count read right links i left target limit id)

    -- what the header that reads there says
    seen_here : seen_at count read left target limit id (again count read left target) ≡ seen_on left target limit h (again count read left target)
    unfolding gives
    seen_here = by (is_page count id) (read id) r
      where
        by : (b : Bool) (a : Read) → Some h ≡ gives (cond b a unreadable)
            → cond b (seen_by left target limit a (again count read left target)) wrong ≡ seen_on left target limit h (again count read left target)
        by true unreadable e = cc
        by true (readable k) e = ap (λ (x : DataHeader). seen_on left target limit x (again count read left target)) (sym (same_Some _ _ e))
        by false a e = cc

    seen_is : (s' : Seen) → s ≡ s' → Ends (hit_by left target (hit_of target h s' (again count read left target)) (λ l. lowered count read right links i l))
    seen_is s' e = ap (λ x. told (hit_by left target x (λ l. lowered count read right links i l)))
        (sym (unroll count read left target limit id ∙ seen_here ∙ y.is (again count read left target) ∙ ap (λ k. hit_of target h k (again count read left target)) e))

    pub on_wrong : s ≡ Wrong → Ends broken
    on_wrong e = seen_is Wrong e

    pub on_hit : s ≡ Found → Ends (offered left (offer_on target h))
    on_hit e = seen_is Found e

    pub on_left_last : s ≡ TooLeft → i ≡ 0 → Ends ended
    on_left_last e z = ap told (lower_last i (target + 1) z) ∙ seen_is TooLeft e

    pub on_left_down : s ≡ TooLeft → (i ≡ 0 → ⊥) → Ends (really_seek count read right links (i - 1) (target + 1))
    on_left_down e n = ap told (lower_down i (target + 1) n) ∙ seen_is TooLeft e

    pub on_back : s ≡ Back → Ends (walked count read right links i left target h.seq (get_or h.skiplist 0 0))
    on_back e = seen_is Back e
