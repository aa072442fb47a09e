-- What answers rest on: a number's digits, and texts put behind each other. Assumes nothing.
use Rattle.std.proofs.Common.{ℕ, zero, suc, ◌+◌, ◌-◌, ◌*◌, ◌/◌, ◌%◌, ◌^◌, ◌≤◌, ◌<◌, ◌≡◌, refl, sym, ◌∙◌, List, [], ◌∷◌, ◌++◌, arith, lt-ltb, le-ltb, Some, None, is_some, ap}
use native.Mathlib.Decide.{dec_le}
use native.Mathlib.Nat.{lt_of_not-le, mod-eq_of_lt, pow-suc, pow-le-pow_right}
use lib.Dec.{lit<}
use Rattle.io.specs.Digits.{IsDigitCount}
use Rattle.io.specs.Digits as io
use Rattle.std.proofs.lemmas.Bool.{false≢true}
use Rattle.runs.proofs.Laws.{cond_by}
use Rattle.std.specs.Borrow.{GName, MutBor}
use Rattle.script.specs.Text.{until, has, beyond, rest, spot, put, puts}
use Rattle.script.specs.declared.text.Output.{Output}
use Rattle.script.specs.Say.{digits, decimal, formed}
use Rattle.script.specs.Show.{lines}

-- ---- numbers

-- a power of ten above 1
ten : (k n : ℕ) → 10 ^ suc k ≤ n → 10 ≤ n
ten zero n h = h
ten (suc k) n h = let e : 10 ^ suc (suc k) ≡ 10 ^ suc k * 10 = pow-suc _ _ in let g = ten k (10 ^ suc k) (omega arith) in omega arith

-- the fewest digits that hold a number are its digits, and of 64 bits at most 20
fewest_are : (most k n : ℕ) → k ≤ most → IsDigitCount 10 1 n k → io.last_digits 10 k n ≡ digits most n
unfolding digits
fewest_are most zero n h w = absurd (omega (arith, w.0))
fewest_are zero (suc k) n h w = absurd (omega arith)
fewest_are (suc most) (suc zero) n h w =
    let k : n < 10 = w.1 in rw (mod-eq_of_lt k, lt-ltb _ _ k)
fewest_are (suc most) (suc (suc k)) n h w =
    let p = 10 ^ suc k in
    let y : suc (suc k) - 1 ≡ suc k = omega arith in
    let g : p ≤ n = rw y at (w.2 (omega arith)) in
    let e : 10 ^ suc (suc k) ≡ p * 10 = pow-suc _ _ in
    let f : p ≡ 10 ^ k * 10 = pow-suc _ _ in
    let l : n < 10 ^ suc (suc k) = w.1 in
    let low : 1 < suc k → 10 ^ (suc k - 1) ≤ n / 10 = λ q. let z : suc k - 1 ≡ k = omega arith in rw z (omega arith) in
    let high : n / 10 < p = omega arith in
    let big : 10 ≤ n = ten k n g in
    let small : n % 10 < 10 = omega arith in
    let i = fewest_are most (suc k) (n / 10) (omega arith) (omega arith, high, low) in
    rw (i, le-ltb _ _ big, lt-ltb _ _ small)

few : (n k : ℕ) → n < 2 ^ 64 → IsDigitCount 10 1 n k → k ≤ 20
few n k h w = elim (dec_le k 20) [
  | yes q ↦ q
  | no q ↦
      let g : 20 < k = lt_of_not-le q in
      let d : 20 ≤ k - 1 = omega arith in
      let e : 10 ^ 20 ≤ 10 ^ (k - 1) = pow-le-pow_right (lit< tt) d in
      let f : 10 ^ (k - 1) ≤ n = w.2 (omega arith) in
      absurd (omega arith)
]

pub decimal_is : (n k : ℕ) → n < 2 ^ 64 → IsDigitCount 10 1 n k → io.last_digits 10 k n ≡ decimal n
decimal_is n k h w = fewest_are 20 k n (few n k h w) w

-- ---- forms

-- a form's part up to its next mark, with the number in its place, and what is left of it
pub form_next : (s : Output) (f r : List ℕ) (n : ℕ) (ns : List ℕ) → Some r ≡ rest 37 f → puts (put (put s (until 37 f)) (decimal n)) (formed r ns) ≡ puts s (formed f (n ∷ ns))
unfolding formed
form_next s f r n ns e =
    cond_by (has 37 f) (Some (beyond 37 f)) None (Some r) (sym e) (λ t q. rw t (cc q)) (λ t q. absurd (false≢true (ap is_some q)))

-- nothing is left of it where there is no mark
pub form_last : (s : Output) (f : List ℕ) (n : ℕ) (ns : List ℕ) → None ≡ rest 37 f → put s (until 37 f) ≡ puts s (formed f (n ∷ ns))
unfolding formed
form_last s f n ns e =
    cond_by (has 37 f) (Some (beyond 37 f)) None None (sym e) (λ t q. absurd (false≢true (sym (ap is_some q)))) (λ t q. rw t)

-- ---- texts put behind each other

pub puts_more : (s : Output) (a b : List (List ℕ)) → puts s (a ++ b) ≡ puts (puts s a) b
puts_more s [] b = refl
puts_more s (t ∷ a) b = puts_more (put s t) a b

-- the loan stays, and what is put does not hang on its name
loaned : (b : MutBor (List ℕ)) (γ : GName) (i : ℕ) (ts : List (List ℕ)) → puts (spot (record b { ghost_name = γ }) i) ts ≡ spot (record b { ghost_name = γ; now = (puts (spot b i) ts).buffer.now }) (puts (spot b i) ts).at
loaned b γ i [] = refl
loaned b γ i (t ∷ ts) = loaned (put (spot b i) t).buffer γ (put (spot b i) t).at ts

-- so who lends a buffer b, under a name γ, for an output that texts are put into and that ends as q, finds b with those texts
pub puts_lent : (b : MutBor (List ℕ)) (γ : GName) (i : ℕ) (ts : List (List ℕ)) (q : Output) (l : List ℕ) → q ≡ puts (spot (record b { ghost_name = γ }) i) ts → (γ ≡ q.buffer.ghost_name → l ≡ q.buffer.now) → spot (record b { now = l }) q.at ≡ puts (spot b i) ts
puts_lent b γ i ts q l e g = let f = e ∙ loaned b γ i ts in let h = loaned b b.ghost_name i ts in rw (g (sym (ap (λ o. o.buffer.ghost_name) f)), f) (sym h)

lines_more : (f : ℕ → List (List ℕ)) (i n : ℕ) → i < n → lines f i (n - i) ≡ f i ++ lines f (i + 1) (n - (i + 1))
unfolding lines
lines_more f i n h = let e : n - i ≡ suc (n - (i + 1)) = omega arith in rw e

-- where one of the lines is put, the others are left
pub lines_step : (f : ℕ → List (List ℕ)) (i n : ℕ) (s t x : Output) → i < n → t ≡ puts s (f i) → puts s (lines f i (n - i)) ≡ x → puts t (lines f (i + 1) (n - (i + 1))) ≡ x
lines_step f i n s t x h e g = rw e (sym (puts_more s (f i) (lines f (i + 1) (n - (i + 1)))) ∙ rw (← lines_more f i n h) g)

pub lines_end : (f : ℕ → List (List ℕ)) (i n : ℕ) (s : Output) → n ≤ i → puts s (lines f i (n - i)) ≡ s
unfolding lines
lines_end f i n s h = let e : n - i ≡ 0 = omega arith in rw e
