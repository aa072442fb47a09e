-- `script::text::cut` meets its contract.
-- Assumes nothing.
use Rattle.std.proofs.Common.{eqb, rules, tests}
use Rattle.std.proofs.lemmas.Iterator.{YieldsList-from_slice}
use Rattle.std.proofs.lemmas.Iterator.Search.{position_from_yields_List}
use Rattle.script.proofs.Laws.{cut_by}
use Rattle.script.proofs.text.cut.Goals as goal

pub returns-in-Some : goal.returns-in-Some
returns-in-Some c =
    let e = position_from_yields_List (λ x. eqb x c.args.b) _ _ _ c.position.ensures.ran (YieldsList-from_slice c.args.s.now cc) (λ x b q k. search (rules, tests)) in
    rw c.in-Some.is at (cut_by c.args.b c.args.s.now _ e)

pub returns-in-None : goal.returns-in-None
returns-in-None c =
    let e = position_from_yields_List (λ x. eqb x c.args.b) _ _ _ c.position.ensures.ran (YieldsList-from_slice c.args.s.now cc) (λ x b q k. search (rules, tests)) in
    rw c.in-None.is at (cut_by c.args.b c.args.s.now _ e)
