-- `chain::links_after` meets its contract: the links are filled up to the index that was found.
-- Assumes nothing.
use mathlib.Core.Path.{◌∙◌}
use Rattle.chain.specs.Links.{links_after}
use Rattle.chain.proofs.links_after.Goals as goal

pub returns : goal.returns
unfolding links_after
returns c = c.new_links.ensures ∙ rw c.link_index-top.ensures
