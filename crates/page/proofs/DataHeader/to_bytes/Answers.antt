-- `page::DataHeader::to_bytes` meets its contract.
-- Assumes nothing.
use Rattle.std.proofs.Common.{rules}
use lib.Dec.{lit≤}
use mathlib.Core.Path.{refl}
use Rattle.page.specs.Page.{header_bytes}
use Rattle.page.proofs.Headers.{pairs_nine}
use Rattle.page.proofs.DataHeader.to_bytes.Goals as goal

pub slice_bounds-bytes-end-5 : goal.slice_bounds-bytes-end-5
slice_bounds-bytes-end-5 c = rw (c.copy_from_slice.ensures.after, c.copy_from_slice-2.ensures.after, c.copy_from_slice-3.ensures.after, c.copy_from_slice-4.ensures.after, c.to_le_bytes.ensures, c.to_le_bytes-2.ensures, c.to_le_bytes-3.ensures, c.links_bytes.ensures, pairs_nine c.args.self.skiplist (search rules)) (lit≤ tt)

pub slice_bounds-bytes-end-6 : goal.slice_bounds-bytes-end-6
slice_bounds-bytes-end-6 c = rw (c.copy_from_slice.ensures.after, c.copy_from_slice-2.ensures.after, c.copy_from_slice-3.ensures.after, c.copy_from_slice-4.ensures.after, c.copy_from_slice-5.ensures.after, c.to_le_bytes.ensures, c.to_le_bytes-2.ensures, c.to_le_bytes-3.ensures, c.to_le_bytes-4.ensures, c.links_bytes.ensures, pairs_nine c.args.self.skiplist (search rules)) (lit≤ tt)

pub returns : goal.returns
unfolding header_bytes
returns c = rw (c.copy_from_slice.ensures.after, c.copy_from_slice-2.ensures.after, c.copy_from_slice-3.ensures.after, c.copy_from_slice-4.ensures.after, c.copy_from_slice-5.ensures.after, c.copy_from_slice-6.ensures.after, c.to_le_bytes.ensures, c.to_le_bytes-2.ensures, c.to_le_bytes-3.ensures, c.to_le_bytes-4.ensures, c.to_le_bytes-5.ensures, c.links_bytes.ensures, pairs_nine c.args.self.skiplist (search rules)) refl
