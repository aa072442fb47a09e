-- `runs::u32_at` meets its contract.
-- Assumes nothing.
use Rattle.std.proofs.Common.{◌≡◌, ◌+◌, ◌*◌, ◌≤◌, length, arith, tests, rules, sym, ap, ◌∙◌}
use Rattle.runs.specs.Runs.{le32}
use Rattle.runs.proofs.Laws.{le32_past, le32_here, rest_drop}
use Rattle.runs.proofs.u32_at.Goals as goal

pub returns-in_default : goal.returns-in_default
returns-in_default c =
    let a = c.args in
    let h : length a.s.now ≤ a.at = grind (arith, c.in_default.ensures.lookup) in
    sym (le32_past a.s.now a.at h)

pub returns : goal.returns
unfolding le32
returns c =
    let a = c.args in
    let f = c.in-Some.ensures.lookup.0.2 ∙ rest_drop a.at a.s.now in
    let e : c.from.result + c.from-2.result * 65536 ≡ le32 c.in-Some.rest.now 0 = search (rules, tests) in
    e ∙ ap (λ l. le32 l 0) f ∙ le32_here a.s.now a.at
