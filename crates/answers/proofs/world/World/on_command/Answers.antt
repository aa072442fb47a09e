-- `answers::world::World::on_command` meets its contract.
-- Assumes nothing.
use Rattle.answers.proofs.Turns.{other, lent_back}
use Rattle.answers.proofs.world.World.on_command.Goals as goal

pub returns : goal.returns
returns c = rw (other c.args.command _ _ _ _ _ c.in_default.not-Setup) (lent_back _ _ _ _ _ _ _ _ _ _ _ _ c.min-i.ensures c.min-m.ensures c.on_lent.ensures)
