-- `transact::batch::files_of` meets its contract: each of the eight values of an array is a file's.
-- Assumes nothing.
use Rattle.std.proofs.Common.{rules}
use Rattle.state.specs.declared.types.FileRecord.{FileRecord}
use Rattle.transact.proofs.Entries.{made_fields}
use Rattle.transact.proofs.batch.files_of.Goals as goal

pub returns : goal.returns
returns c =
    let fs = c.args.table.now.files in
    λ i. record {
      last = made_fields fs (λ (f : FileRecord). f.last_page) c.from_fn.ensures.items (search rules) (λ i y q h. search rules) i;
      first = made_fields fs (λ (f : FileRecord). f.first_seq) c.from_fn-2.ensures.items (search rules) (λ i y q h. search rules) i;
      flags = made_fields fs (λ (f : FileRecord). f.flags) c.from_fn-3.ensures.items (search rules) (λ i y q h. search rules) i;
    }
