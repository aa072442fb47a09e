-- `runs::part_of` meets its contract.
-- Assumes nothing.
use Rattle.std.proofs.Common.{◌≡◌, ℕ, ◌+◌, ◌-◌, ◌≤◌, ◌<◌, List, [], length, take, drop, Bor, Option, Some, None, arith, sym, refl, ap, ◌∙◌}
use Rattle.std.specs.Slice.{IsGetRangeResult}
use Rattle.std.specs.Option.{unwrap_or}
use native.Mathlib.Nat.{sub-zero}
use lib.ListN.{length-drop}
use Rattle.runs.proofs.Laws.{part_of_in, part_of_out, rest_drop}
use Rattle.runs.specs.Runs.{part, part_of}
use Rattle.runs.proofs.part_of.Goals as goal

-- the first n of what is left from at on
part_rest : (s rest : List ℕ) (at n : ℕ) (d : Bor (List ℕ)) (r : Option (Bor (List ℕ))) → at ≤ length s → rest ≡ take (length s - at) (drop at s) → d.now ≡ []
    → IsGetRangeResult rest 0 n r → (unwrap_or r d).now ≡ part_of s at n
unfolding part
part_rest s rest at n d None h e z g =
    let l : length rest ≡ length s - at = rw (e, rest_drop at s) (length-drop at s) in
    let k : length s < at + n = grind (arith, g.0) in
    z ∙ sym (part_of_out s at n k)
part_rest s rest at n d (Some x) h e z g =
    let l : length rest ≡ length s - at = rw (e, rest_drop at s) (length-drop at s) in
    let f = e ∙ rest_drop at s in
    g.0.2 ∙ ap (λ (k : ℕ). take k rest) (sub-zero n) ∙ ap (take n) f ∙ sym (part_of_in s at n (omega (arith, g.0.1)))

pub returns-in_default : goal.returns-in_default
returns-in_default c =
    let a = c.args in
    let h : length a.s.now < a.at + a.n = grind (arith, c.in_default.ensures.lookup) in
    sym (part_of_out a.s.now a.at a.n h)

pub returns : goal.returns
returns c =
    let a = c.args in
    let h = c.in-Some.ensures.lookup in
    ap (λ x. x.now) c.unwrap_or.ensures ∙ part_rest a.s.now c.in-Some.rest.now a.at a.n _ c.get-2.result h.0.0 h.0.2 refl c.get-2.ensures.lookup
