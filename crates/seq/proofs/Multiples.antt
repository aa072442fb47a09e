-- Multiples in a half-open range, and the greatest number that passes a test. Assumes nothing.
use mathlib.Core.Path.{◌≡◌, refl, subst}
use mathlib.Core.Logic.{◌↔◌, inl, inr}
use mathlib.Core.Bool.{Bool, true, false, cond}
use Prim.Native.Nat.{ℕ, zero, suc, ◌+◌, ◌-◌, ◌*◌, ◌/◌, ◌≤◌, ◌<◌}
use native.Mathlib.Nat.{le_trans, lt_of_not-le, mul_assoc, mul-le-mul_right, div-mul-le_self, le-div_iff_mul-le, lt-div-mul-add, eq-or-lt_of_le, mul-mod_left}
use native.Mathlib.Omega.{arith}
use native.Mathlib.Decide.{le_ind}
use borrow.Author.Tests.{le-leb}
use lib.Dec.{T}
use Rattle.seq.specs.Seq.{Holds, below, greatest, multiples}

-- a range holds a multiple exactly if the greatest one below its end isn't below its start
pub holds_iff : (m a b : ℕ) → 0 < m → 0 < b → Holds m a b ↔ (a ≤ below m b)
unfolding below
holds_iff m a b hm hb = (
  λ h. le_trans h.1 (mul-le-mul_right m ((le-div_iff_mul-le hm).1 (let l = h.2 in omega arith))),
  λ h. ((b - 1) / m, h, omega (arith, div-mul-le_self (b - 1) m)),
)

-- below m c is a multiple of m, below c, and no multiple below c is above it
pub below_greatest : (m c : ℕ) → 0 < m → 0 < c → (below m c ≡ (c - 1) / m * m) × (below m c < c) × ((q : ℕ) → q * m < c → q * m ≤ below m c)
unfolding below
below_greatest m c hm hc = (
  refl,
  omega (arith, div-mul-le_self (c - 1) m),
  λ q h. (holds_iff m (q * m) c hm hc).0 (q, omega arith, h),
)

-- a multiple of m * n is one of m
pub holds_factor : (m n a b : ℕ) → Holds (n * m) a b → Holds m a b
holds_factor m n a b h = let e = mul_assoc h.0 n m in (h.0 * n, rw e h.1, rw e h.2)

-- two multiples of m, one on each side of u, have a multiple of 2 * m from the first to the second
pub holds_double : (m a u b : ℕ) → Holds m a u → Holds m u b → Holds (2 * m) a b
holds_double m a u b h k =
    let q : ℕ = h.0 in
    let r : ℕ = (q + 1) / 2 in
    let next : q < k.0 = lt_of_not-le (λ g. let w = mul-le-mul_right m g in omega arith) in
    let e : r * 2 * m ≡ r * (2 * m) = mul_assoc r 2 m in
    let lo : q * m ≤ r * 2 * m = mul-le-mul_right m (omega arith) in
    let hi : r * 2 * m ≤ k.0 * m = mul-le-mul_right m (omega arith) in
    (r, omega (arith, h.1), omega (arith, k.2))

-- a range that holds no multiple of m is shorter than m
pub none_short : (m a b : ℕ) → 0 < m → 0 < b → (Holds m a b → ⊥) → b < a + m
unfolding below
none_short m a b hm hb none =
    let short : below m b < a = lt_of_not-le (λ g. none ((holds_iff m a b hm hb).1 g)) in
    omega (arith, lt-div-mul-add {a = b - 1} hm)

-- ---- how many

pub multiples_mono : (m a : ℕ) {u b : ℕ} → u ≤ b → multiples m a u ≤ multiples m a b
unfolding multiples
multiples_mono m a {u} {b} h = le_ind (λ (x : ℕ). multiples m a u ≤ multiples m a x) (omega arith) (λ x l r. omega (arith, r)) b h

-- a multiple that the longer range holds and the shorter one doesn't is one more
pub multiples_falls : (m a u b q : ℕ) → a ≤ q * m → u ≤ q * m → q * m < b → multiples m a u < multiples m a b
unfolding multiples
multiples_falls m a u b q l h g =
    let one : multiples m a (suc (q * m)) ≡ multiples m a (q * m) + 1 = simp (le-leb a (q * m) l, mul-mod_left q m) in
    omega (arith, one, multiples_mono m a h, multiples_mono m a g)

-- ---- the greatest number up to n that passes a test

module _ (p : ℕ → Bool) where
  pub greatest_le : (n : ℕ) → greatest p n ≤ n
  unfolding greatest
  greatest_le zero = omega arith
  greatest_le (suc n) = go (p (suc n)) (greatest_le n)
    where
      go : (t : Bool) → greatest p n ≤ n → cond t (suc n) (greatest p n) ≤ suc n
      go true h = omega arith
      go false h = omega arith

  pub greatest_passes : (n : ℕ) → T (p zero) → T (p (greatest p n))
  unfolding greatest
  greatest_passes zero h = h
  greatest_passes (suc n) h = go (p (suc n)) refl (greatest_passes n h)
    where
      go : (t : Bool) → p (suc n) ≡ t → T (p (greatest p n)) → T (p (cond t (suc n) (greatest p n)))
      go true e r = rw e tt
      go false e r = r

  pub greatest_reaches : (n k : ℕ) → k ≤ n → T (p k) → k ≤ greatest p n
  unfolding greatest
  greatest_reaches zero k h t = h
  greatest_reaches (suc n) k h t = go (p (suc n)) refl (λ l. greatest_reaches n k l t)
    where
      go : (s : Bool) → p (suc n) ≡ s → (k ≤ n → k ≤ greatest p n) → k ≤ cond s (suc n) (greatest p n)
      go true e r = h
      go false e r = elim (eq-or-lt_of_le h) [ inl q ↦ absurd (subst T e (subst (λ (x : ℕ). T (p x)) q t)) | inr l ↦ r (omega arith) ]
