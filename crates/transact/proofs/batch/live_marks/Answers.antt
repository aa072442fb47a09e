-- `transact::batch::live_marks` meets its contract: each of the eight marks is a file's.
-- Assumes nothing.
use Rattle.std.specs.Prelude.{not}
use Rattle.std.proofs.Common.{rules}
use Rattle.state.specs.declared.types.FileRecord.{FileRecord}
use Rattle.state.specs.Values.{is_empty}
use Rattle.transact.proofs.Entries.{made_fields}
use Rattle.transact.proofs.batch.live_marks.Goals as goal

pub returns : goal.returns
returns c = made_fields c.args.table.now.files (λ (f : FileRecord). not (is_empty f)) c.from_fn.ensures.items (search rules) (λ i y q h. search rules)
