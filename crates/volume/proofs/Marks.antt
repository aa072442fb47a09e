-- Claiming pages of a map: it succeeds exactly if all of them are free and no two the same, and then they are used and the others
-- are as they were. Assumes nothing.
use mathlib.Core.Path.{◌≡◌, refl, sym, ap, ◌∙◌, subst}
use mathlib.Core.Bool.{Bool, true, false, cond}
use mathlib.Core.Logic.{◌⊎◌, inl, inr, ⊎_elim}
use mathlib.Core.List.{List, [], ◌∷◌, ◌++◌}
use Prim.Native.Nat.{ℕ, ◌≤◌, ◌<◌}
use native.Mathlib.Decide.{ℕ_discrete}
use native.Mathlib.Omega.{arith}
use borrow.Author.Tests.{eq-eqb, eqb-true}
use lib.Dec.{eqb}
use lib.ListN.{length, get_or, set, length-set}
use lib.Seq.{get_or-set_same, get_or-set_other, ext_get_or}
use Rattle.runs.proofs.Laws.{cond_by}
use Rattle.page.proofs.Laws.{split}
use Rattle.map.specs.Map.{cleared, used}
use Rattle.map.proofs.Laws.{cleared_length, cleared_below, cleared_above}
use Rattle.chain.specs.Walk.{Each, Distinct}
use Rattle.volume.specs.Mount.{bad, good, bind, claim}
use Rattle.volume.specs.Mounted.{In, MapOf}

-- ---- lists of pages

pub each_map : (P Q : ℕ → Type 0) → ((q : ℕ) → P q → Q q) → (l : List ℕ) → Each P l → Each Q l
each_map P Q f [] e = tt
each_map P Q f (p ∷ l) e = (f p e.0, each_map P Q f l e.1)

pub each_both : (P Q R : ℕ → Type 0) → ((q : ℕ) → P q → Q q → R q) → (l : List ℕ) → Each P l → Each Q l → Each R l
each_both P Q R f [] d e = tt
each_both P Q R f (p ∷ l) d e = (f p d.0 e.0, each_both P Q R f l d.1 e.1)

pub each_in : (P : ℕ → Type 0) (l : List ℕ) → Each P l → (q : ℕ) → In q l → P q
each_in P [] e q i = absurd i
each_in P (p ∷ l) e q i = ⊎_elim (λ h. subst P (sym h) e.0) (λ h. each_in P l e.1 q h) i

pub each_append : (P : ℕ → Type 0) (a b : List ℕ) → Each P a → Each P b → Each P (a ++ b)
each_append P [] b d e = e
each_append P (p ∷ a) b d e = (d.0, each_append P a b d.1 e)

-- ---- claims

-- what a claim that succeeds says
pub record Claimed (m l m' : List ℕ) : Type 0 where
  pub free : Each (λ q. get_or m q 0 ≡ 0) l
  pub distinct : Distinct l
  pub size : length m' ≡ length m
  pub marked : (q : ℕ) → In q l → get_or m' q 0 ≡ 1
  pub kept : (q : ℕ) → (In q l → ⊥) → get_or m' q 0 ≡ get_or m q 0

-- pages first, then others
pub claim_append : (m a b : List ℕ) → claim m (a ++ b) ≡ bind (claim m a) (λ m. claim m b)
unfolding claim
claim_append m [] b = refl
claim_append m (p ∷ a) b = by (eqb (get_or m p 0) 0) (claim_append (set m p used) a b)
  where
    by : (t : Bool) → claim (set m p used) (a ++ b) ≡ bind (claim (set m p used) a) (λ m. claim m b)
        → cond t (claim (set m p used) (a ++ b)) bad ≡ bind (cond t (claim (set m p used) a) bad) (λ m. claim m b)
    by true e = e
    by false e = refl

pub claim_says : (m l m' : List ℕ) → Each (λ q. q < length m) l → claim m l ≡ good m' → Claimed m l m'
unfolding claim
claim_says m [] m' i e =
    let z : m ≡ m' = cc in
    record { free = tt; distinct = tt; size = ap length (sym z); marked = λ q h. absurd h; kept = λ q h. ap (λ (m : List ℕ). get_or m q 0) (sym z) }
claim_says m (p ∷ l) m' i e =
    cond_by (eqb (get_or m p 0) 0) _ _ _ e
    (λ t e.
    let one = length-set m p 1 in
    let here = get_or-set_same m p 1 0 i.0 in
    let c = claim_says (set m p used) l m' (each_map (λ q. q < length m) (λ q. q < length (set m p used)) (λ q h. rw one h) l i.1) e in
    let differs : (q : ℕ) → get_or (set m p used) q 0 ≡ 0 → q ≡ p → ⊥ =
    λ q f h. let z : get_or (set m p used) q 0 ≡ 1 = rw h here in omega arith in
    let before : (q : ℕ) → (q ≡ p → ⊥) → get_or (set m p used) q 0 ≡ get_or m q 0 = λ q n. get_or-set_other m p q 1 0 n in
    let apart = each_map (λ q. get_or (set m p used) q 0 ≡ 0) (λ q. q ≡ p → ⊥) differs l c.free in
    record {
      free = (
        eqb-true (get_or m p 0) 0 t,
        each_map (λ q. get_or (set m p used) q 0 ≡ 0) (λ q. get_or m q 0 ≡ 0) (λ q f. sym (before q (differs q f)) ∙ f) l c.free,
      );
      distinct = (apart, c.distinct);
      size = c.size ∙ one;
      marked = λ q h. ⊎_elim
          (λ s. let off : In p l → ⊥ = λ k. each_in (λ q. q ≡ p → ⊥) l apart p k refl in rw s (c.kept p off ∙ here))
          (λ s. c.marked q s) h;
      kept = λ q h. c.kept q (λ k. h (inr k)) ∙ before q (λ k. h (inl k));
    })
    (λ t e. cc)

-- and free pages, no two the same, are claimed
pub claims : (m l : List ℕ) → Each (λ q. get_or m q 0 ≡ 0) l → Distinct l → (m' : List ℕ) × (claim m l ≡ good m')
unfolding claim
claims m [] f d = (m, refl)
claims m (p ∷ l) f d =
    let c = claims (set m p used) l
    (each_both (λ q. q ≡ p → ⊥) (λ q. get_or m q 0 ≡ 0) (λ q. get_or (set m p used) q 0 ≡ 0) (λ q n e. get_or-set_other m p q 1 0 n ∙ e) l d.0 f.1) d.1 in
    (c.0, rw (eq-eqb (get_or m p 0) 0 f.0) c.1)

-- ---- the map of a mount

-- only one map is of these pages
pub map_one : (n count : ℕ) (pages a b : List ℕ) → ((q : ℕ) → (In q pages) ⊎ (In q pages → ⊥)) → MapOf n count pages a → MapOf n count pages b → a ≡ b
map_one n count pages a b dec x y =
    ext_get_or 0 a b (x.size ∙ sym y.size)
    (λ q h. let i : q < n = omega (arith, x.size) in split count q (λ k. x.beyond q i k ∙ sym (y.beyond q i k))
    (λ k. ⊎_elim (λ m. x.taken q k m ∙ sym (y.taken q k m)) (λ m. x.others q k m ∙ sym (y.others q k m)) (dec q)))

pub in_dec : (l : List ℕ) (q : ℕ) → (In q l) ⊎ (In q l → ⊥)
in_dec [] q = inr (λ h. h)
in_dec (p ∷ l) q = by (ℕ_discrete q p) (in_dec l q)
  where
    by : Dec (q ≡ p) → (In q l) ⊎ (In q l → ⊥) → (In q (p ∷ l)) ⊎ (In q (p ∷ l) → ⊥)
    by (yes e) d = inl (inl e)
    by (no n) d = ⊎_elim (λ h. inl (inr h)) (λ h. inr (λ k. ⊎_elim n h k)) d

module _ (n count p : ℕ) (inside : p < count) (within : count ≤ n) where
  abbrev pub start : List ℕ
  start = set (cleared n count) p used

  start_size : length start ≡ n
  start_size = length-set (cleared n count) p 1 ∙ cleared_length n count

  start_own_lem : get_or start p 0 ≡ 1
  start_own_lem = let l = cleared_length n count in get_or-set_same (cleared n count) p 1 0 (omega arith)

  start_other : (q : ℕ) → (q ≡ p → ⊥) → get_or start q 0 ≡ get_or (cleared n count) q 0
  start_other q h = get_or-set_other (cleared n count) p q 1 0 h

  -- a free page is another one, below count
  start_free : (q : ℕ) → q < n → get_or start q 0 ≡ 0 → (q < count) × (q ≡ p → ⊥)
  start_free q h e =
      let d : q ≡ p → ⊥ = λ k. let z : get_or start q 0 ≡ 1 = rw k start_own_lem in omega arith in
      (split count q (λ k. absurd (omega (arith, start_other q d, cleared_above n count q 0 h k))) (λ k. k), d)

  free_start : (q : ℕ) → q < count → (q ≡ p → ⊥) → get_or start q 0 ≡ 0
  free_start q h d = start_other q d ∙ cleared_below n count q 0 (omega arith) h

  -- the pages that mount claims after its metadata page
  pub marks_say : (l m : List ℕ) → Each (λ q. q < n) l → claim start l ≡ good m → Distinct (p ∷ l) × MapOf n count (p ∷ l) m
  marks_say l m i e =
      let c = claim_says start l m (each_map (λ q. q < n) (λ q. q < length start) (λ q h. rw start_size h) l i) e in
      let f = each_both (λ q. q < n) (λ q. get_or start q 0 ≡ 0) (λ q. (q < count) × (q ≡ p → ⊥)) start_free l i c.free in
      let apart = each_map (λ q. (q < count) × (q ≡ p → ⊥)) (λ q. q ≡ p → ⊥) (λ q h. h.1) l f in
      let own : In p l → ⊥ = λ h. each_in (λ q. q ≡ p → ⊥) l apart p h refl in (
        (apart, c.distinct),
        record {
          size = c.size ∙ start_size;
          beyond = λ q h k.
              let d : q ≡ p → ⊥ = λ z. omega arith in
              c.kept q (λ h. omega (arith, (each_in (λ q. (q < count) × (q ≡ p → ⊥)) l f q h).0)) ∙ start_other q d ∙ cleared_above n count q 0 h k;
          taken = λ q h k. ⊎_elim (λ s. rw s (c.kept p own ∙ start_own_lem)) (λ s. c.marked q s) k;
          others = λ q h k. c.kept q (λ s. k (inr s)) ∙ free_start q h (λ s. k (inl s));
        },
      )

  pub marks_are : (l m : List ℕ) → Each (λ q. q < count) l → Distinct (p ∷ l) → MapOf n count (p ∷ l) m → claim start l ≡ good m
  marks_are l m i d y =
      let c = claims start l (each_both (λ q. q < count) (λ q. q ≡ p → ⊥) (λ q. get_or start q 0 ≡ 0) free_start l i d.0) d.1 in
      let x = marks_say l c.0 (each_map (λ q. q < count) (λ q. q < n) (λ q h. omega arith) l i) c.1 in
      c.1 ∙ ap (λ (m : List ℕ). good m) (map_one n count (p ∷ l) c.0 m (in_dec (p ∷ l)) x.1 y)
