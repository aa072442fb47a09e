-- `map::find_free` meets its contract.
-- Assumes nothing.
use Rattle.map.proofs.Turns.{upper, lower, find_up, find_low}
use mathlib.Core.Path.{◌∙◌}
use Rattle.map.proofs.find_free.Goals as goal

pub returns-in-Some : goal.returns-in-Some
returns-in-Some c =
    let a = c.args in
    let s = c.split_at in
    find_up a.m.now a.count a.cursor s.result.0.now s.result.1.now (s.ensures.front ∙ lower a.m.now a.count a.cursor c.min-n.result c.min.result c.min-n.ensures c.min.ensures)
    (s.ensures.back ∙ upper a.m.now a.count a.cursor c.min-n.result c.min.result c.min-n.ensures c.min.ensures) c.in-Some.i c.in-Some.ensures.index c.in-Some.ensures.bound

pub returns-in-None : goal.returns-in-None
returns-in-None c =
    let a = c.args in
    let s = c.split_at in
    let f = c.first_free-in-None in
    find_low a.m.now a.count a.cursor s.result.0.now s.result.1.now (s.ensures.front ∙ lower a.m.now a.count a.cursor c.min-n.result c.min.result c.min-n.ensures c.min.ensures)
    (s.ensures.back ∙ upper a.m.now a.count a.cursor c.min-n.result c.min.result c.min-n.ensures c.min.ensures) f.result c.in-None.ensures.index f.ensures.index f.ensures.bound
