-- The log read a batch at a time, as the code goes over it. For the private functions only: `by_step` ties it to `log_of`.
-- Assumes nothing.
use Rattle.std.specs.Prelude.{ℕ, ◌≡◌, ◌*◌, List, drop, Option, MatchOption}
use Rattle.std.specs.Borrow.{Bor}
use Rattle.runs.specs.Runs.{part}
use Rattle.metalog.specs.declared.Batch.TheVariants.{End, Entries, Bad}
use Rattle.metalog.specs.declared.Batches.{Batches}
use Rattle.metalog.specs.Log.{pair_size, entry_size, batch_size, batch_at}

-- b has the bytes of the entries of the batch that bs begins with, and rest follows it
pub record IsFirst (bs b rest : List ℕ) : Type 0 where
  pub n : ℕ
  pub is : batch_at bs ≡ Entries n
  pub bytes : b ≡ part bs pair_size (entry_size * n)
  pub follows : rest ≡ drop (batch_size n) bs

-- what one call gives: None where the log ends, and inside that None for a bad batch
abbrev pub FirstBatch : Batches → Option (Option (Bor (List ℕ))) → Batches → Type 0
FirstBatch s r t =
    MatchOption r (batch_at s.rest.now ≡ End)
    (λ batch. MatchOption batch (batch_at s.rest.now ≡ Bad) (λ b. IsFirst s.rest.now b.now t.rest.now))
