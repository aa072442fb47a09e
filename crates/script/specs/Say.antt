-- What an answer says, by docs/REPLAY.md: texts that are put behind each other. Assumes nothing: these are definitions.
use Rattle.std.specs.Prelude.{ℕ, zero, suc, ◌+◌, ◌/◌, ◌%◌, List, [], ◌∷◌, ◌++◌, cond, ltb, eqb, length}
use Rattle.state.specs.declared.types.Refusal.{Refusal}
use Rattle.state.specs.Refusals.{number, on_done, Done}
use Rattle.script.specs.Text.{ascii, until, has, beyond, hex_digits}

-- the decimal digits of a number that has at most k, without a zero in front; one of 64 bits has at most 20
unfoldable pub digits : ℕ → ℕ → List ℕ
digits zero n = []
digits (suc k) n = cond (ltb n 10) ((48 + n) ∷ []) (digits k (n / 10) ++ ((48 + n % 10) ∷ []))

abbrev pub decimal : ℕ → List ℕ
decimal n = digits 20 n

-- a form with numbers for its marks, each a % (37): behind the last number, what is left up to the next mark
unfoldable pub formed : List ℕ → List ℕ → List (List ℕ)
formed form [] = until 37 form ∷ []
formed form (n ∷ ns) = until 37 form ∷ cond (has 37 form) (decimal n ∷ formed (beyond 37 form) ns) []

abbrev pub ok : List (List ℕ)
ok = ascii "ok\n" ∷ []

abbrev pub bad : List (List ℕ)
bad = ascii "bad\n" ∷ []

abbrev pub refused : Refusal → List (List ℕ)
refused why = formed (ascii "refused %\n") (number why ∷ [])

abbrev pub done : Done → List (List ℕ)
done answer = on_done answer refused ok

-- a word with bytes in hex behind it, or the word alone
abbrev pub hex : List ℕ → List ℕ → List (List ℕ)
hex word bytes =
    cond (eqb (length bytes) 0) (word ∷ ascii "\n" ∷ [])
    (word ∷ ascii " " ∷ hex_digits bytes ∷ ascii "\n" ∷ [])
