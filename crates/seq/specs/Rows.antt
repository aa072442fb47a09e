-- The checked rows of document 01 that are marked P: one list; `rows_hold` of proofs/Rows is its one claim. Assumes nothing.
use Rattle.std.specs.Prelude.{List, [], ◌∷◌, ℕ}
use Rattle.seq.specs.Seq.{Reply, zeros_says, index_says, jump_says}

-- what is asked, of which two numbers, and the number to be number
pub record Row : Type 0 where
  pub says : ℕ → ℕ → Reply
  pub left : ℕ
  pub right : ℕ
  pub gives : ℕ

abbrev row : (ℕ → ℕ → Reply) → ℕ → ℕ → ℕ → Row
row f a b n = record { says = f; left = a; right = b; gives = n }

unfoldable pub rows : List Row
rows =
    row zeros_says 0 1 32
    ∷ row zeros_says 1 2 0
    ∷ row zeros_says 500 2016 10
    ∷ row zeros_says 500 896 9
    ∷ row zeros_says 1 4294967295 31
    ∷ row index_says 0 1 8
    ∷ row index_says 256 257 1
    ∷ row index_says 257 300 0
    ∷ row index_says 500 2016 3
    ∷ row jump_says 2016 0 2015
    ∷ row jump_says 2016 2 1536
    ∷ row jump_says 2016 4 0
    ∷ row jump_says 1 8 0
    ∷ []
