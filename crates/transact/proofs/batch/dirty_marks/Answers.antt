-- `transact::batch::dirty_marks` meets its contract: each of the eight marks is a file's.
-- Assumes nothing.
use Rattle.std.proofs.Common.{rules}
use Rattle.state.specs.declared.types.FileRecord.{FileRecord}
use Rattle.transact.proofs.Entries.{made_fields}
use Rattle.transact.proofs.batch.dirty_marks.Goals as goal

pub returns : goal.returns
returns c = made_fields c.args.table.now.files (λ (f : FileRecord). f.dirty) c.from_fn.ensures.items (search rules) (λ i y q h. search rules)
