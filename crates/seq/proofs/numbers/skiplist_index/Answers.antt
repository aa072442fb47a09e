-- `seq::numbers::skiplist_index` meets its contract: the index is made of the zeros. Assumes nothing.
use Rattle.seq.proofs.Laws.{index_by}
use Rattle.seq.proofs.numbers.skiplist_index.Goals as goal

pub returns : goal.returns
returns c = rw c.link_of.ensures (index_by _ _ _ c.in_ok-max_trailing_zeros_between.ensures)
