-- Sequence numbers and the skip list's arithmetic, by document 01, "Numbers" and leaf 2, said in multiples and not in bits;
-- `zeros_top` of proofs/Laws says the bits. Assumes nothing: these are definitions.
use Rattle.std.specs.Prelude.{ℕ, zero, suc, min, ◌+◌, ◌-◌, ◌*◌, ◌/◌, ◌%◌, ◌^◌, ◌≤◌, ◌<◌, Bool, cond, Result, Ok, Err, List, [], ◌∷◌, leb, ltb, eqb, get_or}
use Rattle.seq.specs.declared.numbers.SeqError.{SeqError}
use Rattle.seq.specs.declared.numbers.SeqError.TheVariants.{Range, SeqEnd}

-- a number, or a refusal by document 01's number
pub data Reply : Type 0 where
  number : ℕ → Reply
  refused : ℕ → Reply

abbrev pub reply : Result ℕ SeqError → Reply
reply (Ok n) = number n
reply (Err Range) = refused 12
reply (Err SeqEnd) = refused 9

-- what a sequence number never passes
abbrev pub limit : ℕ
limit = 4294967294

-- ---- multiples

-- the numbers from a up to, not including, b hold a multiple of m
abbrev pub Holds : ℕ → ℕ → ℕ → Type 0
Holds m a b = (q : ℕ) × (a ≤ q * m) × (q * m < b)

-- the greatest multiple of m below c, for a c above 0
unfoldable pub below : ℕ → ℕ → ℕ
below m c = (c - 1) / m * m

-- how many multiples of m stand from a up to, not including, b
unfoldable pub multiples : ℕ → ℕ → ℕ → ℕ
multiples m a zero = zero
multiples m a (suc b) = multiples m a b + cond (leb a b) (cond (eqb (b % m) 0) 1 0) 0

-- the greatest number up to n that passes a test, and 0 where none does
unfoldable pub greatest : (ℕ → Bool) → ℕ → ℕ
greatest p zero = zero
greatest p (suc n) = cond (p (suc n)) (suc n) (greatest p n)

-- ---- the helpers

-- max_trailing_zeros_between: the greatest k, 32 at most, with a multiple of 2 ^ k from a up to, not including, b
unfoldable pub zeros : ℕ → ℕ → ℕ
unfolding greatest below
zeros a b = greatest (λ k. leb a (below (2 ^ k) b)) 32

-- r is the place of the highest set bit of x, a number of 32 bits
abbrev pub TopBit : ℕ → ℕ → Type 0
TopBit x r = (r < 32) × (2 ^ r ≤ x) × (x < 2 ^ suc r)

-- skiplist_index: 7 less, not below 0, and 8 at most
unfoldable pub index : ℕ → ℕ → ℕ
unfolding zeros
index a b = min 8 (zeros a b - 7)

-- the same, and 0 for an empty range: where a search begins
unfoldable pub level : ℕ → ℕ → ℕ
level a b = cond (ltb a b) (index a b) 0

abbrev pub spans : List ℕ
spans = 1 ∷ 256 ∷ 512 ∷ 1024 ∷ 2048 ∷ 4096 ∷ 8192 ∷ 16384 ∷ 32768 ∷ []

unfoldable pub span : ℕ → ℕ
span i = get_or spans i 0

-- how far link i shifts
abbrev pub shift : ℕ → ℕ
shift zero = zero
shift (suc i) = suc i + 7

-- ---- what each function answers

abbrev pub zeros_says : ℕ → ℕ → Reply
zeros_says a b = cond (ltb a b) (number (zeros a b)) (refused 12)

abbrev pub index_says : ℕ → ℕ → Reply
index_says a b = cond (ltb a b) (number (index a b)) (refused 12)

-- skiplist_seq: the greatest multiple of span i below c
abbrev pub jump_says : ℕ → ℕ → Reply
jump_says c i = cond (eqb c 0) (refused 12) (cond (ltb i 9) (number (below (span i) c)) (refused 12))

abbrev pub add_says : ℕ → ℕ → Reply
add_says s n = cond (leb (s + n) limit) (number (s + n)) (refused 9)

abbrev pub sub_says : ℕ → ℕ → Reply
sub_says s o = cond (leb o s) (number (s - o)) (refused 12)
