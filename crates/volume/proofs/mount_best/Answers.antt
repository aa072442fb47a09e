-- `volume::mount_best` meets its contract.
-- Assumes nothing.
use Rattle.volume.proofs.Calls.{mount_done, mount_damaged}
use Rattle.volume.proofs.mount_best.Goals as goal

pub returns-in_default : goal.returns-in_default
returns-in_default c =
    mount_damaged _ _ _ _ _ _ c.load_best.auto.map (rw c.in_default.is at c.load_best.ensures) _ (c.fill.ensures.after (λ y e. e)) _ c.new_state.ensures

pub returns : goal.returns
returns c =
    mount_done _ _ _ _ _ _ c.load_best.auto.map _ (rw c.in-Some.is at c.load_best.ensures) _ c.seed_step-seed.ensures _ c.settle.ensures
