-- Parts of a text, and pieces put behind each other into a buffer. Assumes nothing: these are definitions.
use Rattle.std.specs.Prelude.{ℕ, ◌+◌, ◌/◌, ◌%◌, List, [], ◌∷◌, Bool, Option, Some, None, cond, leb, ltb, eqb, length, drop, ◌≡◌}
use Prim.Native.Char.{code}
use Prim.Native.String.{String, [] as end, ◌∷◌ as ◌then◌}
use Rattle.std.specs.Borrow.{MutBor}
use Rattle.runs.specs.Runs.{part_of, placed}
use Rattle.script.specs.declared.text.Output.{Output}

-- the bytes of a text that stands here in quotes
abbrev pub ascii : String → List ℕ
ascii end = []
ascii (c then s) = code c ∷ ascii s

-- the bytes up to the next b, or all of them
unfoldable pub until : ℕ → List ℕ → List ℕ
until b [] = []
until b (x ∷ l) = cond (eqb x b) [] (x ∷ until b l)

-- whether there is a next b, and what is behind it
abbrev pub has : ℕ → List ℕ → Bool
has b l = ltb (length (until b l)) (length l)

abbrev pub beyond : ℕ → List ℕ → List ℕ
beyond b l = drop (length (until b l) + 1) l

abbrev pub rest : ℕ → List ℕ → Option (List ℕ)
rest b l = cond (has b l) (Some (beyond b l)) None

-- the words of a text, separated by one space (32)
abbrev pub glued : ℕ → List (List ℕ) → List (List ℕ)
glued x [] = (x ∷ []) ∷ []
glued x (w ∷ ws) = (x ∷ w) ∷ ws

unfoldable pub words : List ℕ → List (List ℕ)
words [] = [] ∷ []
words (x ∷ l) = cond (eqb x 32) ([] ∷ words l) (glued x (words l))

-- of a text that may be none
abbrev pub words_of : Option (List ℕ) → List (List ℕ)
words_of None = []
words_of (Some l) = words l

-- the first of the words is taken, and none is left behind the last
abbrev pub next_word : List (List ℕ) → Option (List ℕ) → List (List ℕ) → Type 0
next_word ws None vs = (ws ≡ []) × (vs ≡ [])
next_word ws (Some w) vs = ws ≡ w ∷ vs

-- the index behind n bytes that are put at an index, and the buffer's end where they do not fit
abbrev pub behind : ℕ → ℕ → ℕ → ℕ
behind room at n = cond (leb (at + n) room) (at + n) room

-- a lent buffer, and the index in it at which the next text is put
abbrev pub spot : MutBor (List ℕ) → ℕ → Output
spot b i = record { buffer = b; at = i }

-- that index, what stands before it where the buffer has it whole, and the output with nothing in it
abbrev pub place : Output → ℕ
place s = s.at

abbrev pub held : Output → List ℕ
held s = part_of s.buffer.now 0 s.at

abbrev pub cleared : Output → Output
cleared s = spot s.buffer 0

-- a text put there, and nothing where it does not fit: the loan stays, so that its lender knows what the buffer ends as
abbrev pub put : Output → List ℕ → Output
put s t = spot (record s.buffer { now = placed s.buffer.now s.at t }) (behind (length s.buffer.now) s.at (length t))

-- texts put behind each other
abbrev pub puts : Output → List (List ℕ) → Output
puts s [] = s
puts s (t ∷ ts) = puts (put s t) ts

-- a number below 16 in lower-case hex, and each byte as two such digits
abbrev pub hex_digit : ℕ → ℕ
hex_digit n = cond (ltb n 10) (48 + n) (87 + n)

unfoldable pub hex_digits : List ℕ → List ℕ
hex_digits [] = []
hex_digits (x ∷ l) = hex_digit (x / 16) ∷ hex_digit (x % 16) ∷ hex_digits l
