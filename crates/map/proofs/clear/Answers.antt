-- `map::clear` meets its contract.
-- Assumes nothing.
use Rattle.std.proofs.Common.{rules, ◌≡◌, ℕ, List, length, replicate, ◌++◌, ◌-◌, min}
use mathlib.Core.Path.{ap₂}
use Rattle.map.specs.Map.{cleared}
use Rattle.map.proofs.clear.Goals as goal

pub returns : goal.returns
unfolding cleared
returns c =
    let a = c.args in
    let s = c.split_at_mut-inside in
    let i : c.fill.new.self ≡ replicate (min a.count (length a.m.now)) 0 = search rules in
    let o : c.fill-2.new.self ≡ replicate (length a.m.now - min a.count (length a.m.now)) 3 = search rules in
    ap₂ (λ (x y : List ℕ). x ++ y) i o
