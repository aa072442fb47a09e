-- `map::allocate` meets its contract.
-- Assumes nothing.
use Rattle.map.proofs.Turns.{takes_page, takes_none}
use Rattle.map.proofs.allocate.Goals as goal

pub returns-in-Some : goal.returns-in-Some
returns-in-Some c =
    let a = c.args in
    takes_page a.m.now _ a.count a.cursor _ _ c.find_free-found.ensures c.in-Some.is c.use_page.ensures

pub returns-in_default : goal.returns-in_default
returns-in_default c =
    let a = c.args in
    takes_none a.m.now a.count a.cursor c.find_free-found.result c.find_free-found.ensures c.in_default.is
