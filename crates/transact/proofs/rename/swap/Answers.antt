-- `transact::rename::swap` meets its contract: the files are swapped before they are marked.
-- Assumes nothing.
use mathlib.Core.Path.{refl, sym, ◌∙◌, ap}
use mathlib.Core.List.{List}
use Rattle.std.proofs.Common.{rules}
use Rattle.std.proofs.lemmas.List.Edits.{swap_is}
use Rattle.state.specs.declared.types.FileRecord.{FileRecord}
use Rattle.state.specs.Values.{absent, with_file}
use Rattle.transact.specs.Truncate.{dirtied}
use Rattle.transact.specs.Rename.{swapped}
use Rattle.transact.proofs.Entries.{marked_swap}
use Rattle.transact.proofs.rename.swap.Goals as goal

pub returns : goal.returns
unfolding swapped with_file dirtied
returns c =
    let a = c.args in
    ap (λ (l : List FileRecord). record { files = l })
    (marked_swap dirtied (λ x. refl) a.table.now.files a.i a.j absent (search rules) (search rules) c.swap.new.self
    (c.swap.ensures.after ∙ sym (swap_is a.table.now.files a.i a.j absent (search rules) (search rules))))
