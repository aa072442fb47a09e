-- `runs::u16_at` meets its contract.
-- Assumes nothing.
use Rattle.std.proofs.Common.{◌≤◌, length, arith, sym, ap, ◌∙◌}
use Rattle.runs.specs.Runs.{le16}
use lib.ListN.{get_or-eq_default}
use Rattle.runs.proofs.Laws.{le16_past, le16_here, rest_drop}
use Rattle.runs.proofs.u16_at.Goals as goal

pub returns-in_default : goal.returns-in_default
returns-in_default c =
    let a = c.args in
    let h : length a.s.now ≤ a.at = grind (arith, c.in_default.ensures.lookup) in
    sym (le16_past a.s.now a.at h)

pub returns-in-empty : goal.returns-in-empty
returns-in-empty c =
    let a = c.args in
    let f = c.in-Some.ensures.lookup in
    let h : length a.s.now ≤ a.at = omega (arith, f.0.3, c.in-empty.len_below) in
    sym (le16_past a.s.now a.at h)

pub returns-in-len1 : goal.returns-in-len1
unfolding le16
returns-in-len1 c =
    let a = c.args in
    let r = c.in-Some.rest.now in
    let f = c.in-Some.ensures.lookup.0.2 ∙ rest_drop a.at a.s.now in
    let p : length r ≤ 1 = omega (arith, c.in-len1.len_below) in
    let z = get_or-eq_default r 0 p in
    let e = ap (λ l. le16 l 0) f ∙ le16_here a.s.now a.at in
    omega (arith, c.from.ensures, e, z)

pub returns-in-len2-up : goal.returns-in-len2-up
unfolding le16
returns-in-len2-up c =
    let a = c.args in
    let r = c.in-Some.rest.now in
    let f = c.in-Some.ensures.lookup.0.2 ∙ rest_drop a.at a.s.now in
    let e = ap (λ l. le16 l 0) f ∙ le16_here a.s.now a.at in
    c.from_le_bytes.ensures ∙ e
