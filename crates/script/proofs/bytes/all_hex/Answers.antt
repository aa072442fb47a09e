-- `script::bytes::all_hex` meets its contract.
-- Assumes nothing.
use Rattle.std.proofs.Common.{rules, tests, is_some}
use Rattle.std.proofs.lemmas.Iterator.{YieldsList-from_slice}
use Rattle.std.proofs.lemmas.Iterator.Search.{all_from_yields_List}
use Rattle.script.specs.Bytes.{hex_value}
use Rattle.script.proofs.bytes.all_hex.Goals as goal

pub returns : goal.returns
returns c = all_from_yields_List (λ d. is_some (hex_value d)) _ _ _ c.all.ensures.ran (YieldsList-from_slice c.args.word.now cc) (λ x b q k. search (rules, tests))
