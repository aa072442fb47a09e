-- `search::hunt::aim_at` meets its contract: the tests that led to each return say which case it is.
-- Assumes nothing.
use Rattle.std.specs.Prelude.{ℕ, Some, get_or}
use mathlib.Core.Path.{◌∙◌, ap}
use native.Mathlib.Omega.{arith}
use Rattle.search.proofs.Levels.{aim_empty, aim_none, aim_low, aim_tries}
use Rattle.search.proofs.hunt.aim_at.Goals as goal

pub returns-then-s-left-clause-aim : goal.returns-then-s-left-clause-aim
returns-then-s-left-clause-aim c = let s = c.args.s.now in aim_empty c.args.left s.right s.links c.args.level c.if-s-left.true

pub returns-then-id-clause-aim : goal.returns-then-id-clause-aim
returns-then-id-clause-aim c = let s = c.args.s.now in aim_none c.args.left s.right s.links c.args.level c.if-s-left.false c.if-id.true

pub returns-then-target-left-clause-aim : goal.returns-then-target-left-clause-aim
returns-then-target-left-clause-aim c =
    let s = c.args.s.now in
    aim_low c.args.left s.right s.links c.args.level c.if-s-left.false c.if-id.false (omega (arith, c.target_of-target.ensures.number, c.if-target-left.true))

pub returns-clause-aim : goal.returns-clause-aim
returns-clause-aim c =
    let s = c.args.s.now in
    ap (λ (n : ℕ). Some (record { id = get_or s.links c.args.level 0; target = n })) c.target_of-target.ensures.number
    ∙ aim_tries c.args.left s.right s.links c.args.level c.if-s-left.false c.if-id.false (omega (arith, c.target_of-target.ensures.number, c.if-target-left.false))
