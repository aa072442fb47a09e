-- Runs of bytes: a part of a list, a run stored over a part, and little-endian fields. A byte past the end counts as 0.
-- Assumes nothing.
use Rattle.std.specs.Prelude.{ℕ, ◌+◌, ◌*◌, ◌/◌, ◌%◌, List, [], ◌∷◌, ◌++◌, Bool, true, false, cond, length, take, drop, get_or, leb, eqb}

-- the n bytes of l from at on
unfoldable pub part : List ℕ → ℕ → ℕ → List ℕ
part l at n = take n (drop at l)

-- the same, and nothing where l has not so many
unfoldable pub part_of : List ℕ → ℕ → ℕ → List ℕ
part_of l at n = cond (leb (at + n) (length l)) (part l at n) []

-- l with the run r in the place of its bytes from at on
unfoldable pub splice : List ℕ → ℕ → List ℕ → List ℕ
splice l at r = take at l ++ (r ++ drop (at + length r) l)

-- the same, and l where the run passes the end
unfoldable pub placed : List ℕ → ℕ → List ℕ → List ℕ
placed l at r = cond (leb (at + length r) (length l)) (splice l at r) l

-- the little-endian fields of two and of four bytes at an offset
unfoldable pub le16 : List ℕ → ℕ → ℕ
le16 l at = get_or l at 0 + get_or l (at + 1) 0 * 256

unfoldable pub le32 : List ℕ → ℕ → ℕ
le32 l at = le16 l at + le16 l (at + 2) * 65536

-- the same fields as bytes, in front of what follows
abbrev pub by16 : ℕ → List ℕ → List ℕ
by16 n t = n % 256 ∷ n / 256 % 256 ∷ t

abbrev pub by32 : ℕ → List ℕ → List ℕ
by32 n t = n % 256 ∷ n / 256 % 256 ∷ n / 65536 % 256 ∷ n / 16777216 % 256 ∷ t

-- whether all is 0xFF
abbrev pub all_erased : List ℕ → Bool
all_erased [] = true
all_erased (x ∷ bs) = cond (eqb x 255) (all_erased bs) false
