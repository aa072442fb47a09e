-- `script::show::show_state` meets its contract.
-- Assumes nothing.
use Rattle.script.proofs.Pieces.{puts_more}
use Rattle.script.proofs.show.show_state.Goals as goal

pub returns : goal.returns
returns c = rw (← c.is_mounted.ensures, c.if-not-is_mounted.false, puts_more, puts_more) (cc (c.show_mounted.ensures, c.show_writer.ensures, c.show_search.ensures))

pub returns-then-not-is_mounted : goal.returns-then-not-is_mounted
returns-then-not-is_mounted c = rw (← c.is_mounted.ensures, c.if-not-is_mounted.true) (cc c.form.ensures)
