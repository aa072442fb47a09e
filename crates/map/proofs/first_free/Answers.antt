-- `map::first_free` meets its contract.
-- Assumes nothing.
use Rattle.std.proofs.Common.{rules, tests, arith, ◌≡◌, ℕ, ◌+◌, List, ◌∷◌}
use Rattle.std.proofs.lemmas.Iterator.{YieldsList-from_slice, IsFirst-from_position, index_from_first}
use borrow.Author.Tests.{eq-eqb, ne_eqb}
use mathlib.Core.Logic.{◌≢◌}
use mathlib.Core.Path.{refl, sym}
use Rattle.map.specs.Map.{first_free}
use Rattle.map.proofs.first_free.Goals as goal

hit : (x : ℕ) (xs : List ℕ) → x ≡ 0 → first_free (x ∷ xs) ≡ 0
hit x xs e = rw (eq-eqb x 0 e)

miss : (x : ℕ) (xs : List ℕ) → x ≢ 0 → first_free (x ∷ xs) ≡ first_free xs + 1
miss x xs e = rw (ne_eqb x 0 e) (omega arith)

pub returns-clause-index : goal.returns-clause-index
returns-clause-index c =
    let p = IsFirst-from_position _ _ c.position.result (λ x. x ≡ 0) (λ x. x ≢ 0) c.position.ensures.ran (YieldsList-from_slice c.args.m.now cc)
    (λ x q k. search (rules, tests)) (λ x q k. search (rules, tests)) in
    sym (index_from_first first_free (λ x. x ≡ 0) (λ x. x ≢ 0) refl hit miss c.args.m.now c.position.result p)
