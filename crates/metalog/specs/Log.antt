-- The log of a metadata page, by document 01, "Layout" and "Mount": what the bytes after the page's header say, as a list of
-- entries and the offset where the log ends, or that they are damaged; and the replay of the entries.
-- Assumes nothing.
use Rattle.std.specs.Prelude.{ℕ, zero, suc, ◌+◌, ◌-◌, ◌*◌, List, [], ◌∷◌, ◌++◌, Bool, true, false, cond, ◌&&◌, length, drop, get_or, set, replicate, leb, ltb, eqb, Option, Some, None}
use Rattle.runs.specs.Runs.{part, part_of, le16, le32, all_erased}
use Rattle.page.specs.Page.{page_of}
use Rattle.metalog.specs.declared.Entry.{Entry}
use Rattle.metalog.specs.declared.Batch.{Batch}
use Rattle.metalog.specs.declared.Batch.TheVariants.{End, Entries, Bad}
use Rattle.metalog.specs.declared.Files.{Files}

-- where on its page the log begins, and how long it may become; the bytes of a count pair, and of an entry
abbrev pub log_start : ℕ
log_start = 12

abbrev pub log_size : ℕ
log_size = 244

abbrev pub pair_size : ℕ
pair_size = 4

abbrev pub entry_size : ℕ
entry_size = 8

-- the bytes of a batch of n entries
abbrev pub batch_size : ℕ → ℕ
batch_size n = pair_size + entry_size * n

-- ---- reading

-- the two numbers agree, and the count is 1 to 8
unfoldable pub good_pair : ℕ → ℕ → Bool
good_pair n m = eqb m (65535 - n) && leb 1 n && leb n 8

-- what stands at a place of the log, by its first four bytes, the two numbers that they are, and how many bytes are left there:
-- four 0xFF bytes, or fewer than four left, end the log; any other bad pair, or a batch past the end, is bad
unfoldable pub batch_of : ℕ → ℕ → ℕ → ℕ → Batch
batch_of four n m left =
    cond (ltb left pair_size) End
    (cond (eqb four 0xffff_ffff) End
    (cond (good_pair n m) (cond (leb (batch_size n) left) (Entries n) Bad) Bad))

unfoldable pub batch_at : List ℕ → Batch
batch_at bs = batch_of (le32 bs 0) (le16 bs 0) (le16 bs 2) (length bs)

-- one entry, and n of them
unfoldable pub entry_of : List ℕ → Entry
entry_of bs = record { file = get_or bs 0 0; flags = get_or bs 1 0; last = le16 bs 2; first = le32 bs 4 }

abbrev pub entries : ℕ → List ℕ → List Entry
entries zero bs = []
entries (suc n) bs = entry_of bs ∷ entries n (drop entry_size bs)

-- the entries in order, with the offset where the log ends; or damaged
pub data Log : Type 0 where
  ended : List Entry → ℕ → Log
  damaged : Log

-- a log after some entries in k bytes
abbrev pub after : List Entry → ℕ → Log → Log
after es k (ended fs e) = ended (es ++ fs) (k + e)
after es k damaged = damaged

abbrev pub log_by : Batch → List ℕ → (ℕ → Log) → Log
log_by End bs go = ended [] 0
log_by (Entries n) bs go = after (entries n (part bs pair_size (entry_size * n))) (batch_size n) (go (3 + entry_size * n))
log_by Bad bs go = damaged

-- the log from the byte on that stands after `skip` bytes
abbrev pub log_from : List ℕ → ℕ → Log
log_from [] skip = ended [] 0
log_from (x ∷ bs) (suc skip) = log_from bs skip
log_from (x ∷ bs) zero = log_by (batch_at (x ∷ bs)) (x ∷ bs) (λ k. log_from bs k)

unfoldable pub log_of : List ℕ → Log
log_of bs = log_from bs 0

-- the bytes of page p in which its log stands, and what they say
unfoldable pub area_of : List ℕ → ℕ → List ℕ
area_of img p = part_of (page_of img p) log_start log_size

abbrev pub log_at : List ℕ → ℕ → Log
log_at img p = log_of (area_of img p)

-- where the log of page p ends, if it can be read
abbrev pub end_of : Log → Option ℕ
end_of (ended es e) = Some e
end_of damaged = None

-- the answer in document 01's numbers: 0 and the offset, or 5, Damaged
abbrev pub end_numbers : Option ℕ → List ℕ
end_numbers (Some e) = 0 ∷ e ∷ []
end_numbers None = 5 ∷ []

unfoldable pub log_end : List ℕ → ℕ → Option ℕ
log_end img p = end_of (log_at img p)

-- whether the rest of the page is all 0xFF, and whether a batch of n entries fits there
unfoldable pub rest_erased : List ℕ → ℕ → ℕ → Bool
rest_erased img p end = all_erased (drop end (area_of img p))

unfoldable pub fits : ℕ → ℕ → Bool
fits end n = leb (log_start + (end + batch_size n)) 256

-- ---- replay

-- an entry that mount takes: a file id up to 7; with no last page first_seq 0, else the last page below page_count
unfoldable pub sound : ℕ → Entry → Bool
sound count e = ltb e.file 8 && cond (eqb e.last 65535) (eqb e.first 0) (ltb e.last count)

-- eight empty files
abbrev pub no_files : Files
no_files = record { last = replicate 8 65535; first = replicate 8 0; flags = replicate 8 0 }

-- a later entry replaces an earlier one of the same file
abbrev pub put_in : Files → Entry → Files
put_in f e =
    record {
      last = set f.last e.file e.last;
      first = set f.first e.file e.first;
      flags = set f.flags e.file e.flags;
    }

unfoldable pub put : Files → Entry → Files
put f e = cond (ltb e.file 8) (put_in f e) f

-- the files as the log left them, and whether it reads and every entry is sound
pub record Replay : Type 0 where
  pub ok : Bool
  pub files : Files

-- an unsound entry spoils the replay
abbrev pub add : ℕ → Replay → Entry → Replay
add count r e = record { ok = r.ok && sound count e; files = put r.files e }

abbrev pub adds : ℕ → Replay → List Entry → Replay
adds count r [] = r
adds count r (e ∷ es) = adds count (add count r e) es

-- a replay that is good so far
abbrev pub good : Files → Replay
good f = record { ok = true; files = f }

abbrev pub fresh : Bool → Replay
fresh b = record { ok = b; files = no_files }

abbrev pub replayed : ℕ → Replay → Log → Replay
replayed count r (ended es e) = adds count r es
replayed count r damaged = fresh false

unfoldable pub replay_of : ℕ → List ℕ → ℕ → Replay
replay_of count img p = replayed count (fresh true) (log_at img p)

-- what mount takes of it: the files, if all was sound
abbrev pub taken : Replay → Option Files
taken r = cond r.ok (Some r.files) None
