-- `answers::world::World::read` meets its contract.
-- Assumes nothing.
use Rattle.std.proofs.Common.{◌≡◌, length, take, rules, le-ltb}
use Rattle.state.specs.Refusals.{on_done}
use Rattle.state.specs.World.{before}
use Rattle.reader.specs.Read.{read}
use Rattle.script.specs.Text.{ascii, puts}
use Rattle.script.specs.Say as say
use Rattle.answers.proofs.Turns.{back_part, read_left}
use Rattle.answers.proofs.world.World.read.Goals as goal

pub returns-in-Ok : goal.returns-in-Ok
returns-in-Ok c = let a = c.args in
    let b = a.bytes.now in
    let r = c.read in
    let o = r.new.out in
    let k : length o ≡ a.n = search rules in
    let f : c.hex.new.output ≡ puts a.output.now (on_done r.result say.refused (say.hex (ascii "bytes") o)) = rw (c.in-Ok.is, ← back_part b o a.n k) c.hex.ensures in
    rw (le-ltb _ _ c.if-bytes-n.false) (read_left b o a.n k a.output.now _ r.result r.new.reader (read (before a.image.now a.map.now a.self.now.table a.self.now.state) a.from (take a.n b)) r.ensures f)

pub returns-in-Err : goal.returns-in-Err
returns-in-Err c = let a = c.args in
    let b = a.bytes.now in
    let r = c.read in
    let o = r.new.out in
    let k : length o ≡ a.n = search rules in
    let f : c.refused.new.output ≡ puts a.output.now (on_done r.result say.refused (say.hex (ascii "bytes") o)) = rw c.in-Err.is c.refused.ensures in
    rw (le-ltb _ _ c.if-bytes-n.false) (read_left b o a.n k a.output.now _ r.result r.new.reader (read (before a.image.now a.map.now a.self.now.table a.self.now.state) a.from (take a.n b)) r.ensures f)
