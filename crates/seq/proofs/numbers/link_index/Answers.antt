-- `seq::numbers::link_index` meets its contract: where there is no index the level is 0. Assumes nothing.
use Rattle.seq.proofs.Laws.{level_by}
use Rattle.seq.proofs.numbers.link_index.Goals as goal

pub returns : goal.returns
returns c = rw c.unwrap_or.ensures (level_by _ _ _ c.skiplist_index.ensures)
