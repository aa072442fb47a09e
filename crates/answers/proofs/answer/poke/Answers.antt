-- `answers::answer::poke` meets its contract.
-- Assumes nothing.
use Rattle.std.proofs.Common.{arith, ◌+◌, ◌<◌, length}
use Rattle.std.proofs.lemmas.Bool.{lt-leb}
use Rattle.runs.proofs.Laws.{placed_out}
use Rattle.answers.proofs.answer.poke.Goals as goal
use Rattle.answers.proofs.answer.poke.Goals.{then-target-offset-via-then-target-offset, then-target-offset-via-else-target-offset+then-target-offset-2}

pub returns-then-target-offset : goal.returns-then-target-offset
returns-then-target-offset c = let a = c.args in
    let h : length a.target.now < a.offset + length a.run.now =
    elim c.then-target-offset.branch [
      | then-target-offset-via-then-target-offset w ↦ omega arith
      | then-target-offset-via-else-target-offset+then-target-offset-2 w ↦ omega arith
    ] in
    rw (placed_out a.target.now a.offset a.run.now h, lt-leb _ _ h) (cc (c.bad.ensures))
