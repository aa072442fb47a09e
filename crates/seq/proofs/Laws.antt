-- The laws of `zeros`, of the spans and of `index` that callers cite instead of the definitions. Assumes nothing.
use mathlib.Core.Path.{◌≡◌, refl, sym, ap, ◌∙◌}
use mathlib.Core.Logic.Iff
use mathlib.Core.Logic.{◌↔◌, inl, inr}
use mathlib.Core.Bool.{Bool, true, false, cond}
use Prim.Native.Nat.{ℕ, zero, suc, ◌+◌, ◌-◌, ◌*◌, ◌^◌, ◌≤◌, ◌<◌, min}
use native.Mathlib.Nat.{le_antisymm, lt_of_not-le, pow-succ', eq-or-lt_of_le, sub-add_cancel}
use native.Mathlib.Omega.{arith}
use borrow.Author.Tests.{lt-ltb}
use lib.Dec.{T, leb, ltb, eqb, leb→le, le→leb, eqb→eq}
use lib.Bits.{bit_xor}
use lib.Pow.{pow_pos, pow-add}
use Rattle.std.specs.Prelude.{Result, Ok, Err}
use Rattle.seq.specs.declared.numbers.SeqError.{SeqError}
use Rattle.seq.specs.declared.numbers.SeqError.TheVariants.{Range, SeqEnd}
use Rattle.std.specs.Result.{result_unwrap_or}
use Rattle.seq.specs.Seq.{Reply, number, refused, reply, zeros_says, index_says, TopBit, Holds, below, greatest, zeros, index, level, span, shift}
use Rattle.seq.proofs.Top.{top_holds}
use Rattle.seq.proofs.Multiples.{holds_iff, holds_factor, holds_double, none_short, greatest_le, greatest_passes, greatest_reaches}

-- ---- answers

-- an answer's numbers lose nothing: it can be read back from them
abbrev answer_in : Reply → Result ℕ SeqError
answer_in (number n) = Ok n
answer_in (refused k) = Err (cond (eqb k 12) Range SeqEnd)

answer_back : (a : Result ℕ SeqError) → answer_in (reply a) ≡ a
answer_back (Ok n) = refl
answer_back (Err Range) = refl
answer_back (Err SeqEnd) = refl

pub reply_same : (a b : Result ℕ SeqError) → reply a ≡ reply b → a ≡ b
reply_same a b e = sym (answer_back a) ∙ ap answer_in e ∙ answer_back b

abbrev number_in : Reply → ℕ
number_in (number n) = n
number_in (refused k) = 0

abbrev is_number : Reply → Bool
is_number (number n) = true
is_number (refused k) = false

refused_no : (n k : ℕ) → number n ≡ refused k → ⊥
refused_no n k e = cc

-- ---- answers made of other answers

-- the index, from the answer that has the zeros
pub index_by : (a b n : ℕ) → number n ≡ zeros_says a b → number (min 8 (n - 7)) ≡ index_says a b
unfolding index
index_by a b n = by (ltb a b) where
  by : (t : Bool) → number n ≡ cond t (number (zeros a b)) (refused 12) → number (min 8 (n - 7)) ≡ cond t (number (min 8 (zeros a b - 7))) (refused 12)
  by true e = ap (λ r. number (min 8 (number_in r - 7))) e
  by false e = elim (refused_no n 12 e) [ ]

-- and the level, from the answer that has the index
pub level_by : (a b : ℕ) (r : Result ℕ SeqError) → reply r ≡ index_says a b → result_unwrap_or r 0 ≡ level a b
unfolding index level
level_by a b (Ok n) = by (ltb a b) where
  by : (t : Bool) → number n ≡ cond t (number (min 8 (zeros a b - 7))) (refused 12) → n ≡ cond t (min 8 (zeros a b - 7)) 0
  by true e = ap number_in e
  by false e = elim (refused_no n 12 e) [ ]
level_by a b (Err x) = by (ltb a b) (refused_by x) where
  refused_by : (x : SeqError) → (k : ℕ) × (reply (Err x) ≡ refused k)
  refused_by Range = (12, refl)
  refused_by SeqEnd = (9, refl)

  by : (t : Bool) → (k : ℕ) × (reply (Err x) ≡ refused k) → reply (Err x) ≡ cond t (number (min 8 (zeros a b - 7))) (refused 12) → 0 ≡ cond t (min 8 (zeros a b - 7)) 0
  by true (k, s) e = elim (refused_no (min 8 (zeros a b - 7)) k (sym e ∙ s)) [ ]
  by false p e = refl

-- ---- trailing zeros

pub zeros_le : (a b : ℕ) → zeros a b ≤ 32
unfolding zeros
zeros_le a b = greatest_le (λ k. leb a (below (2 ^ k) b)) 32

holds_one : (a b : ℕ) → a < b → Holds 1 a b
holds_one a b h = (a, omega arith, omega arith)

-- k is at most the greatest count of trailing zeros exactly if the range holds a multiple of 2 ^ k
pub zeros_iff : {k a b : ℕ} → k ≤ 32 → a < b → (k ≤ zeros a b) ↔ Holds (2 ^ k) a b
unfolding zeros
zeros_iff {k} {a} {b} hk h =
    let p : ℕ → Bool = λ j. leb a (below (2 ^ j) b) in
    let i : (j : ℕ) → Holds (2 ^ j) a b ↔ (a ≤ below (2 ^ j) b) = λ j. holds_iff (2 ^ j) a b (pow_pos j) (omega arith) in (
      λ l. let z = greatest p 32 in
          let all = (i z).1 (leb→le a _ (greatest_passes p 32 (le→leb a _ ((i 0).0 (holds_one a b h))))) in
          holds_factor (2 ^ k) (2 ^ (z - k)) a b (rw (← pow-add 2 (z - k) k, sub-add_cancel l) all),
      λ g. greatest_reaches p 32 k hk (le→leb a _ ((i k).0 g)),
    )

-- and that says what it is
pub zeros_is : {j a b : ℕ} → j ≤ 32 → a < b → ((k : ℕ) → k ≤ 32 → (k ≤ j) ↔ Holds (2 ^ k) a b) → j ≡ zeros a b
zeros_is {j} {a} {b} hj h f =
    let z = zeros_le a b in
    le_antisymm ((zeros_iff hj h).1 ((f j hj).0 (omega arith))) ((f (zeros a b) z).1 ((zeros_iff z h).0 (omega arith)))

-- 0 is a multiple of every power
pub zeros_zero : {a b : ℕ} → a ≡ 0 → a < b → 32 ≡ zeros a b
zeros_zero e h = zeros_is (omega arith) h (λ k hk. (λ l. (0, omega arith, omega arith), λ g. hk))

-- document 01's words: 32 for a = 0, else the top differing bit of a - 1 and b - 1
pub zeros_top : {a b j : ℕ} → 0 < a → a < b → TopBit (bit_xor (a - 1) (b - 1)) j → j ≡ zeros a b
zeros_top ha h t = let l : _ < 32 = t.0 in zeros_is (omega arith) h (λ k hk. top_holds k ha h t)

-- ---- the spans

-- a test that passes at each number below n
every : (ℕ → Bool) → ℕ → Bool
every p zero = true
every p (suc n) = cond (p n) (every p n) false

every_at : (p : ℕ → Bool) (n : ℕ) → T (every p n) → (k : ℕ) → k < n → T (p k)
unfolding every
every_at p zero t k h = absurd (omega arith)
every_at p (suc n) t k h = go (p n) refl t (λ u l. every_at p n u k l)
  where
    go : (s : Bool) → p n ≡ s → T (cond s (every p n) false) → (T (every p n) → k < n → T (p k)) → T (p k)
    go true e u r = elim (eq-or-lt_of_le h) [ inl q ↦ let same : k ≡ n = omega arith in rw (same, e) tt | inr l ↦ r u (omega arith) ]
    go false e u r = absurd u

-- each entry of the table is 2 to the shift of its link
pub span_shift : (i : ℕ) → i ≤ 8 → span i ≡ 2 ^ shift i
unfolding every span
span_shift i h = eqb→eq (span i) (2 ^ shift i) (every_at (λ k. eqb (span k) (2 ^ shift k)) 9 tt i (omega arith))

pub span_pos : (i : ℕ) → i ≤ 8 → 0 < span i
span_pos i h = rw (span_shift i h) (pow_pos (shift i))

pub span_double : (i : ℕ) → 0 < i → i < 8 → span (suc i) ≡ 2 * span i
span_double zero p h = absurd (omega arith)
span_double (suc i) p h = rw (span_shift (suc (suc i)) (omega arith), span_shift (suc i) (omega arith)) (let e : suc (suc i) + 7 ≡ suc (suc i + 7) = omega arith in rw e (pow-succ' 2 (suc i + 7)))

-- ---- the link's index

pub index_le : (a b : ℕ) → index a b ≤ 8
unfolding index
index_le a b = omega arith

index_shift : (i a b : ℕ) → i ≤ 8 → (i ≤ index a b) ↔ (shift i ≤ zeros a b)
unfolding index
index_shift zero a b h = (λ l. omega arith, λ l. omega arith)
index_shift (suc i) a b h = (λ l. omega arith, λ l. omega arith)

shift_le : (i : ℕ) → i ≤ 8 → shift i ≤ 32
shift_le zero h = omega arith
shift_le (suc i) h = omega arith

-- below the end of a range its level is the index
pub level_below : {a b : ℕ} → a < b → level a b ≡ index a b
unfolding level
level_below {a} {b} h = simp (lt-ltb a b h)

pub level_le : (a b : ℕ) → level a b ≤ 8
unfolding level
level_le a b = go (ltb a b)
  where
    go : (t : Bool) → cond t (index a b) 0 ≤ 8
    go true = index_le a b
    go false = omega arith

-- i is at most the index exactly if the range holds a multiple of span i
pub index_iff : {i a b : ℕ} → i ≤ 8 → a < b → (i ≤ index a b) ↔ Holds (span i) a b
index_iff {i} {a} {b} hi h = rw (span_shift i hi) (Iff.trans (index_shift i a b hi) (zeros_iff (shift_le i hi) h))

-- and exactly if link i's jump from b goes no further than a
pub index_jump : {i a b : ℕ} → i ≤ 8 → a < b → (i ≤ index a b) ↔ (a ≤ below (span i) b)
index_jump {i} {a} {b} hi h = Iff.trans (index_iff hi h) (holds_iff (span i) a b (span_pos i hi) (omega arith))

-- below link 8 a range is shorter than the next span
pub index_short : {a b : ℕ} → a < b → index a b < 8 → b < a + span (suc (index a b))
index_short {a} {b} h l = none_short _ a b (span_pos _ l) (omega arith) (λ g. let n = (index_iff l h).1 g in omega arith)

-- below link 8 and above link 0, whatever the jump does not pass has a lower index
pub index_falls : {a u b : ℕ} → a < b → a < u → u ≤ below (span (index a b)) b → 0 < index a b → index a b < 8 → index a u < index a b
index_falls {a} {u} {b} hb h l p q = lt_of_not-le (λ g.
    let w = span (index a b) in
    let left : Holds w a u = (index_iff (index_le a b) h).0 g in
    let right : Holds w u b = (holds_iff w u b (span_pos _ (index_le a b)) (omega arith)).1 l in
    let both : Holds (span (suc (index a b))) a b = rw (span_double (index a b) p q) (holds_double w a u b left right) in
    let more = (index_iff q hb).1 both in
    omega arith)

-- a longer range has no lower index
pub index_mono : {a u b : ℕ} → a < u → u ≤ b → index a u ≤ index a b
index_mono {a} {u} {b} h l =
    let i = index_le a u in
    let g = (index_iff i h).0 (omega arith) in
    (index_iff {a = a} {b = b} i (omega arith)).1 (g.0, g.1, omega (arith, g.2))
