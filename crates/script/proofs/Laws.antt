-- What the loops of this crate rest on: a list from an index on, a run that is stored byte by byte, and each definition at its next
-- element. Assumes nothing.
use Rattle.std.proofs.Common.{eqb-true, ℕ, zero, suc, ◌+◌, ◌-◌, ◌*◌, ◌/◌, ◌%◌, ◌≤◌, ◌<◌, ◌≡◌, refl, sym, ap, ◌∙◌, List, [], ◌∷◌, ◌++◌, append_assoc, Bool, true, false, cond, add-one, arith, length, take, drop, get_or, set, drop-cons, ltb, eqb, Option, Some, None, MatchOption, ltb-true, ltb-false, lt-ltb, le-ltb}
use mathlib.Core.Bool.{and-false}
use native.Mathlib.Nat.{add-zero}
use lib.ListN.{take-append-drop, length-set}
use lib.Seq.{take-suc-set, drop-set-lt}
use Rattle.std.specs.List.{position_or_len}
use Rattle.runs.specs.Runs.{splice}
use Rattle.runs.proofs.Laws.{rest_drop}
use Rattle.script.specs.Text.{until, has, beyond, rest, words, words_of, hex_digit, hex_digits}
use Rattle.script.specs.Bytes.{more, digits, number_of, digit_of, all_hex, is_run, bytes_of, next_byte, ramp, adler}
use Rattle.script.specs.Command.{Told, told, written, carried, poked, poked_at}
use Rattle.script.specs.declared.command.Buffer.{Buffer}
use Rattle.script.specs.declared.command.Command.TheVariants as C
use Rattle.script.specs.declared.command.Writing.TheVariants.{Write}

-- ---- lists

-- from an index on: the element there, and what is behind it
pub here : (s : List ℕ) (i : ℕ) → i < length s → drop i s ≡ get_or s i 0 ∷ drop (i + 1) s
here s i h = rw add-one (drop-cons s i 0 h)

-- a run is stored by its first byte and then the others behind it
pub splice_more : (l : List ℕ) (o a : ℕ) (r : List ℕ) → o < length l → splice (set l o a) (o + 1) r ≡ splice l o (a ∷ r)
unfolding splice
splice_more l o a r h =
    let k : o < o + 1 + length r = omega arith in
    let e : o + 1 + length r ≡ o + suc (length r) = omega arith in
    let f : take (o + 1) (set l o a) ≡ take o l ++ (a ∷ []) = rw add-one (take-suc-set l o a h) in
    rw (f, drop-set-lt (o + 1 + length r) l o a k, e) (append_assoc (take o l) (a ∷ []) (r ++ drop (o + suc (length r)) l))

-- no run changes nothing
pub splice_none : (l : List ℕ) (o : ℕ) → splice l o [] ≡ l
unfolding splice
splice_none l o = rw add-zero (take-append-drop o l)

-- ---- texts

-- a test, either way
by_test {ℓ} : {X : Type ℓ} (t : Bool) → (t ≡ true → X) → (t ≡ false → X) → X
by_test true f g = f refl
by_test false f g = g refl

-- a text up to the first b, by that byte's place
until_take : (b : ℕ) (s : List ℕ) → until b s ≡ take (position_or_len (λ x. eqb x b) s) s
unfolding until
until_take b [] = refl
until_take b (x ∷ s) =
    let p = position_or_len (λ y. eqb y b) s in
    let one-add : 1 + p ≡ suc p = omega arith in
    by_test (eqb x b) (λ t. rw t) (λ t. rw (t, one-add) (ap (λ r. x ∷ r) (until_take b s)))

length-until : (b : ℕ) (s : List ℕ) → length (until b s) ≡ position_or_len (λ x. eqb x b) s
unfolding until
length-until b [] = refl
length-until b (x ∷ s) =
    let p = position_or_len (λ y. eqb y b) s in
    let one-add : 1 + p ≡ suc p = omega arith in
    by_test (eqb x b) (λ t. rw t) (λ t. rw (t, one-add) (ap suc (length-until b s)))

until_all : (b : ℕ) (s : List ℕ) → length s ≤ length (until b s) → until b s ≡ s
unfolding until
until_all b [] h = refl
until_all b (x ∷ s) h =
    by_test (eqb x b) (λ t. absurd (omega (arith, rw t at h))) (λ t. rw t (ap (λ r. x ∷ r) (until_all b s (omega (arith, rw t at h)))))

-- what the place of the first b says of the text in front of it, and of what is behind it
abbrev place_of : ℕ → List ℕ → Option ℕ
place_of b s = cond (ltb (position_or_len (λ x. eqb x b) s) (length s)) (Some (position_or_len (λ x. eqb x b) s)) None

abbrev Cuts : ℕ → List ℕ → Option ℕ → Type 0
Cuts b s r = MatchOption r ((s ≡ until b s) × (None ≡ rest b s)) (λ i. (take i s ≡ until b s) × (Some (take (length s - (i + 1)) (drop (i + 1) s)) ≡ rest b s))

cut_place : (b : ℕ) (s : List ℕ) → Cuts b s (place_of b s)
cut_place b s =
    let n = length-until b s in
    by_test (ltb (position_or_len (λ x. eqb x b) s) (length s))
    (λ t. rw t (sym (until_take b s), rw (n, t, rest_drop)))
    (λ t. let h : length s ≤ length (until b s) = rw n (ltb-false _ _ t) in rw t (sym (until_all b s h), rw (n, t)))

pub cut_by : (b : ℕ) (s : List ℕ) (r : Option ℕ) → r ≡ place_of b s → Cuts b s r
cut_by b s r e = rw e (cut_place b s)

-- what is behind the first b of a text, by that of its rest
rest_hit : (b x : ℕ) (l : List ℕ) → eqb x b ≡ true → rest b (x ∷ l) ≡ Some l
unfolding until
rest_hit b x l t = let k : 0 < suc (length l) = omega arith in rw (t, lt-ltb _ _ k)

rest_miss : (b x : ℕ) (l : List ℕ) → eqb x b ≡ false → rest b (x ∷ l) ≡ rest b l
unfolding until
rest_miss b x l t =
    let n = length (until b l) in
    let k : suc n + 1 ≡ suc (n + 1) = omega arith in
    by_test (has b l)
    (λ h. let g : n < length l = ltb-true _ _ h in let f : suc n < suc (length l) = omega arith in rw (t, h, lt-ltb _ _ f, k))
    (λ h. let g : length l ≤ n = ltb-false _ _ h in let f : suc (length l) ≤ suc n = omega arith in rw (t, h, le-ltb _ _ f))

first_hit : (x : ℕ) (l : List ℕ) → eqb x 32 ≡ true → words (x ∷ l) ≡ until 32 (x ∷ l) ∷ words l
unfolding words until
first_hit x l t = rw t

-- the first word, and those behind it
pub words_first : (l : List ℕ) → words l ≡ until 32 l ∷ words_of (rest 32 l)
unfolding words until
words_first [] = refl
words_first (x ∷ l) =
    let e = words_first l in
    by_test (eqb x 32)
    (λ t. rw (rest_hit 32 x l t) (first_hit x l t))
    (λ t. rw (rest_miss 32 x l t, t, e))

-- a space is no digit
spaced : (l : List ℕ) → length (until 32 l) < length l → all_hex l ≡ false
unfolding until
spaced [] h = absurd (omega arith)
spaced (x ∷ l) h = by_test (eqb x 32) (λ t. let e : x ≡ 32 = eqb-true _ _ t in rw e refl) (λ t. rw (spaced l (omega (arith, rw t at h)), and-false) refl)

-- what takes one word's digits, and no second word, can be given the text uncut
uncut : (F : List (List ℕ) → Told) (G : List ℕ → Told) (l b : List ℕ) → ((w : List ℕ) → F (w ∷ []) ≡ G w) → ((w x : List ℕ) (ws : List (List ℕ)) → F (w ∷ x ∷ ws) ≡ told None b)
    → (is_run (length b) l ≡ false → G l ≡ told None b) → F (words l) ≡ G l
uncut F G l b one more none =
    by_test (has 32 l)
    (λ t. rw (words_first l, t, words_first (beyond 32 l)) (more _ _ _ ∙ sym (none (rw (spaced l (ltb-true _ _ t)) (simp and-false refl)))))
    (λ t. rw (words_first l, t, until_all 32 l (ltb-false _ _ t)) (one l))

pub write_rest : (l b : List ℕ) → written (words l) b ≡ carried (λ n. C.Writing (Write n)) l b
write_rest l b = uncut (λ ws. written ws b) (λ w. carried (λ n. C.Writing (Write n)) w b) l b (λ w. refl) (λ w x ws. refl) (λ e. rw e refl)

pub poke_rest : (into : Buffer) (at l b : List ℕ) → poked into (at ∷ words l) b ≡ poked_at into (number_of at) l b
poke_rest into at l b = uncut (λ ws. poked into (at ∷ ws) b) (λ w. poked_at into (number_of at) w b) l b (λ w. refl) (λ w x ws. refl) (spoiled (number_of at))
  where
    spoiled : (n : Option ℕ) → is_run (length b) l ≡ false → poked_at into n l b ≡ told None b
    spoiled None e = refl
    spoiled (Some v) e = rw e refl

pub hex_length : (l : List ℕ) → length (hex_digits l) ≡ 2 * length l
unfolding hex_digits
hex_length [] = refl
hex_length (x ∷ l) = let e = hex_length l in omega arith

hex_more : (l : List ℕ) (i : ℕ) → i < length l → hex_digits (drop i l) ≡ hex_digit (get_or l i 0 / 16) ∷ hex_digit (get_or l i 0 % 16) ∷ hex_digits (drop (i + 1) l)
unfolding hex_digits
hex_more l i h = rw (here l i h)

-- a byte's two digits are stored, and the others go behind them
pub hex_stored : (out l : List ℕ) (o p i x y : ℕ) → i < length l → o + 1 < length out → p ≡ o + 2 → x ≡ hex_digit (get_or l i 0 / 16) → y ≡ hex_digit (get_or l i 0 % 16)
    → splice (set (set out o x) (o + 1) y) p (hex_digits (drop (i + 1) l)) ≡ splice out o (hex_digits (drop i l))
hex_stored out l o p i x y h k q e f =
    let r = hex_digits (drop (i + 1) l) in
    let two : p ≡ o + 1 + 1 = omega arith in
    let in₁ : o + 1 < length (set out o x) = simp length-set k in
    let in₀ : o < length out = omega arith in
    rw two (splice_more (set out o x) (o + 1) y r in₁ ∙ splice_more out o x (y ∷ r) in₀ ∙ rw (hex_more l i h, e, f))

-- ---- numbers and runs

pub digits_bad : (l : List ℕ) → digits None l ≡ None
unfolding digits
digits_bad [] = refl
digits_bad (d ∷ l) = refl

pub digits_more : (v : ℕ) (s : List ℕ) (i : ℕ) → i < length s → digits (Some v) (drop i s) ≡ digits (more v (get_or s i 0)) (drop (i + 1) s)
unfolding digits
digits_more v s i h = rw (here s i h)

pub bytes_length : (l : List ℕ) → length (bytes_of l) ≡ length l / 2
unfolding bytes_of
bytes_length [] = refl
bytes_length (a ∷ []) = refl
bytes_length (a ∷ b ∷ l) = let e = bytes_length l in omega arith

bytes_more : (s : List ℕ) (i j : ℕ) → i + 1 < length s → j ≡ i + 2 → bytes_of (drop i s) ≡ (digit_of (get_or s i 0) * 16 + digit_of (get_or s (i + 1) 0)) ∷ bytes_of (drop j s)
unfolding bytes_of
bytes_more s i j h q =
    let k : i < length s = omega arith in
    let e : i + 1 + 1 ≡ j = omega arith in
    rw (here s i k, here s (i + 1) h, e)

-- a pair's byte is stored, and the others go behind it
pub byte_stored : (out s : List ℕ) (o i j x : ℕ) → i + 1 < length s → o < length out → j ≡ i + 2 → x ≡ digit_of (get_or s i 0) * 16 + digit_of (get_or s (i + 1) 0)
    → splice (set out o x) (o + 1) (bytes_of (drop j s)) ≡ splice out o (bytes_of (drop i s))
byte_stored out s o i j x h k q e = splice_more out o x (bytes_of (drop j s)) k ∙ rw (bytes_more s i j h q, e)

pub ramp_length : (n b : ℕ) → length (ramp n b) ≡ n
unfolding ramp
ramp_length zero b = refl
ramp_length (suc n) b = ap suc (ramp_length n (next_byte b))

ramp_more : (n i b : ℕ) → i < n → ramp (n - i) b ≡ b ∷ ramp (n - (i + 1)) (next_byte b)
unfolding ramp
ramp_more n i b h = let e : n - i ≡ suc (n - (i + 1)) = omega arith in rw e

-- a byte of a ramp is stored, and the others go behind it
pub ramp_stored : (out : List ℕ) (i b c : ℕ) → i < length out → c ≡ next_byte b
    → splice (set out i b) (i + 1) (ramp (length (set out i b) - (i + 1)) c) ≡ splice out i (ramp (length out - i) b)
ramp_stored out i b c h e =
    rw (e, length-set, ramp_more (length out) i b h) (splice_more out i b (ramp (length out - (i + 1)) (next_byte b)) h)

pub adler_more : (a b : ℕ) (s : List ℕ) (i : ℕ) → i < length s → adler a b (drop i s) ≡ adler ((a + get_or s i 0) % 65521) ((b + (a + get_or s i 0) % 65521) % 65521) (drop (i + 1) s)
unfolding adler
adler_more a b s i h = rw (here s i h)
