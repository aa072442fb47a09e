-- `chain::new_links` meets its contract: the part that was filled, and the rest as it was.
-- Assumes nothing.
use mathlib.Core.Path.{◌≡◌, ◌∙◌, ap}
use mathlib.Core.List.{List, ◌++◌}
use Prim.Native.Nat.{ℕ, ◌+◌}
use borrow.Author.Rules.{rules}
use lib.ListN.{length, take, drop, replicate}
use Rattle.chain.specs.Links.{filled, linked}
use Rattle.chain.proofs.Links.{filled_split, filled_capped}
use Rattle.chain.proofs.new_links.Goals as goal

pub returns : goal.returns
unfolding linked
returns c =
    let a = c.args in
    let n : length a.links ≡ 9 = search rules in
    let m : c.fill.new.self ≡ replicate (length (take (c.min-named.result + 1) a.links)) a.id = search rules in
    ap (λ (l : List ℕ). l ++ drop (c.min-named.result + 1) a.links) m
    ∙ filled_split (c.min-named.result + 1) a.id a.links
    ∙ ap (λ (k : ℕ). filled (k + 1) a.id a.links) c.min-named.ensures
    ∙ filled_capped a.top a.id a.links n
