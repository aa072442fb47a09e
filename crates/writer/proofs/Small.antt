-- Facts that the small functions' answers cite. Assumes nothing.
use Prim.Native.Nat.{ℕ, ◌+◌, ◌*◌, min, ◌≤◌}
use mathlib.Core.Path.{◌≡◌, sym, ◌∙◌}
use mathlib.Core.List.{List}
use native.Mathlib.Omega.{arith}
use lib.ListN.{length, drop, drop_of_length-le}
use Rattle.runs.specs.Runs.{part, part_of}
use Rattle.runs.proofs.Laws.{part_of_in}
use Rattle.page.specs.Page.{page_of}
use Rattle.page.proofs.Laws.{split, page_length}

-- what is dropped of no more than all
pub drop_min : (k : ℕ) (l : List ℕ) → drop (min k (length l)) l ≡ drop k l
drop_min k l =
    split k (length l) (λ h. let e : min k (length l) ≡ k = omega arith in rw e)
    (λ h.
    let e : length l ≤ min k (length l) = omega arith in
    let g : length l ≤ k = omega arith in
    drop_of_length-le l e ∙ sym (drop_of_length-le l g))

-- the bytes of a page that is there
pub payload_part : (img : List ℕ) (p n : ℕ) → p * 256 + 256 ≤ length img → n ≤ 224 → part_of (page_of img p) 32 n ≡ part (page_of img p) 32 n
payload_part img p n h k = let l = page_length img p (omega arith) in part_of_in (page_of img p) 32 n (omega arith)
