-- A level counts 2 ^ 33, a page on the way back its limit, and trying a level 2 ^ 32, more than any limit at that level.
use Prim.Native.Nat.{◌+◌, ◌*◌}
use Rattle.search.proofs.hunt.+really_seek_seek_to_page.Given as goal

abbrev pub decreases-really_seek : goal.decreases-really_seek
decreases-really_seek l = l.level * 8589934592 + 4294967296

abbrev pub decreases-seek_to_page : goal.decreases-seek_to_page
decreases-seek_to_page l = l.level * 8589934592 + l.limit
