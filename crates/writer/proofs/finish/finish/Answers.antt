-- `writer::finish::finish` meets its contract: the checks say that the writer's file is in the table.
-- Assumes nothing.
use mathlib.Core.Path.{sym, ◌∙◌}
use Rattle.state.proofs.Laws.{checks_pass}
use Rattle.writer.proofs.Exits.{passed_ends}
use Rattle.writer.proofs.finish.finish.Goals as goal

pub finish_page-requires : goal.finish_page-requires
finish_page-requires c =
    passed_ends _ (checks_pass _ _ _ _ _ (sym c.check.ensures ∙ c.in_ok-check.was)) c.in_ok-require_open.ensures
