-- `script::text::Output::put_number` meets its contract.
-- Assumes nothing.
use Rattle.script.proofs.Pieces.{decimal_is}
use Rattle.script.proofs.text.Output.put_number.Goals as goal

pub returns : goal.returns
returns c = let d = c.decimal-k in cc (c.put.ensures, d.ensures.digits, decimal_is c.args.n d.result c.ranges.n.fits d.ensures.len)
