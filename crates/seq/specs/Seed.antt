-- The seed, by document 01, leaf 3, with its three answers. Assumes nothing.
use Rattle.std.specs.Prelude.{ℕ, ◌*◌, ◌%◌, ◌^◌, ◌≡◌, refl, [], ◌∷◌, map}

-- multiplied by 1750509587, keeping the low 32 bits
abbrev pub seed_after : ℕ → ℕ
seed_after s = s * 1750509587 % 2 ^ 32

pub seeds_hold : map seed_after (1 ∷ 3 ∷ 0 ∷ []) ≡ 1750509587 ∷ 956561465 ∷ 0 ∷ []
seeds_hold = refl
