-- `search::hunt::target_of` meets its contract: a jump from above 0 by one of nine links is a number.
-- Assumes nothing.
use mathlib.Core.Path.{ap, ◌∙◌}
use Prim.Native.Nat.{ℕ}
use native.Mathlib.Omega.{arith}
use Rattle.std.specs.Prelude.{Result}
use Rattle.std.specs.Result.{result_unwrap_or}
use Rattle.seq.specs.declared.numbers.SeqError.{SeqError}
use Rattle.search.proofs.Levels.{jumped, number_below}
use Rattle.search.proofs.hunt.target_of.Goals as goal

pub returns : goal.returns
returns c =
    let a = c.args in
    let e = c.unwrap_or.ensures ∙ ap (λ (r : Result ℕ SeqError). result_unwrap_or r 0) (jumped a.right a.level c.requires.0 c.requires.1 c.skiplist_seq.result c.skiplist_seq.ensures) in
    let l = number_below a.right a.level c.requires.1 c.requires.0 in
    record { number = e; bound = omega (arith, e, l, c.ranges.right) }
