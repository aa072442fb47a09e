-- Numbers, runs of bytes and sums, as the protocol writes them. Assumes nothing: these are definitions.
use Rattle.std.specs.Prelude.{ℕ, zero, suc, ◌+◌, ◌-◌, ◌*◌, ◌/◌, ◌%◌, List, [], ◌∷◌, Bool, true, false, Option, Some, None, is_some, cond, ◌&&◌, not, length, get_or, leb, ltb, eqb}
use Rattle.std.specs.Option.{unwrap_or}
use Rattle.runs.specs.Runs.{placed}

-- v with one digit more: no digit, and no number above 4,294,967,295
abbrev pub more : ℕ → ℕ → Option ℕ
more v d =
    cond (ltb d 48) None
    (cond (ltb 57 d) None
    (cond (ltb 4294967295 (v * 10 + (d - 48))) None
    (Some (v * 10 + (d - 48)))))

-- a number with all digits of a text more
unfoldable pub digits : Option ℕ → List ℕ → Option ℕ
digits n [] = n
digits None (d ∷ l) = None
digits (Some v) (d ∷ l) = digits (more v d) l

-- a zero in front of other digits
abbrev pub zero_in_front : List ℕ → Bool
zero_in_front w = cond (ltb (length w) 2) false (eqb (get_or w 0 0) 48)

-- the number that a word is: digits only, and no zero in front of others
abbrev pub number_of : List ℕ → Option ℕ
number_of w =
    cond (eqb (length w) 0) None
    (cond (zero_in_front w) None
    (digits (Some 0) w))

-- the value of a digit in lower-case hex; any other byte has none
abbrev pub hex_value : ℕ → Option ℕ
hex_value d =
    cond (ltb d 48) None
    (cond (leb d 57) (Some (d - 48))
    (cond (ltb d 97) None
    (cond (leb d 102) (Some (d - 87))
    None)))

abbrev pub all_hex : List ℕ → Bool
all_hex [] = true
all_hex (d ∷ l) = is_some (hex_value d) && all_hex l

-- the bytes that pairs of digits stand for
abbrev pub digit_of : ℕ → ℕ
digit_of d = unwrap_or (hex_value d) 0

unfoldable pub bytes_of : List ℕ → List ℕ
bytes_of [] = []
bytes_of (a ∷ []) = []
bytes_of (a ∷ b ∷ l) = (digit_of a * 16 + digit_of b) ∷ bytes_of l

-- a word that stands for bytes: an even number of digits, not none, and no more than there is room for
abbrev pub is_run : ℕ → List ℕ → Bool
is_run room w = not (eqb (length w) 0) && eqb (length w % 2) 0 && leb (length w / 2) room && all_hex w

-- how many bytes a word stands for, if it does
abbrev pub run_of : ℕ → List ℕ → Option ℕ
run_of room w = cond (is_run room w) (Some (length w / 2)) None

-- a buffer with those bytes at its start
abbrev pub decoded : List ℕ → List ℕ → List ℕ
decoded out w = cond (is_run (length out) w) (placed out 0 (bytes_of w)) out

-- the byte behind b in a fill, and n bytes of one from b on
abbrev pub next_byte : ℕ → ℕ
next_byte b = cond (ltb b 250) (b + 1) 0

unfoldable pub ramp : ℕ → ℕ → List ℕ
ramp zero b = []
ramp (suc n) b = b ∷ ramp n (next_byte b)

-- Adler-32: two sums modulo 65,521
unfoldable pub adler : ℕ → ℕ → List ℕ → ℕ
adler a b [] = b * 65536 + a
adler a b (x ∷ l) = adler ((a + x) % 65521) ((b + (a + x) % 65521) % 65521) l
