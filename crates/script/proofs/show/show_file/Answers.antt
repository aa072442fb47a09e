-- `script::show::show_file` meets its contract.
-- Assumes nothing.
use Rattle.script.specs.Show.{fields_shown, links_shown}
use Rattle.script.proofs.Pieces.{puts_more}
use Rattle.script.proofs.show.show_file.Goals as goal

pub returns : goal.returns
returns c = let f = c.args.f.now in
    rw (puts_more c.args.output.now (fields_shown c.args.i f) (links_shown f.header.skiplist)) (cc (c.form.ensures, c.show_links.ensures))
