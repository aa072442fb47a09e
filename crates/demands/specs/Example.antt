-- The statements speak of something: worlds made by a few calls, computed, and the theorems applied to them. Assumes nothing.
use Rattle.state.specs.Refusals.{fine}
use Rattle.std.specs.Prelude.{ℕ, ◌≡◌, refl, true, false, List, [], ◌∷◌, ◌++◌, map, length, replicate}
use Rattle.std.proofs.Common.{subst, inr, arith, rules}
use Rattle.page.specs.Page.{Bytes, header_bytes, meta_bytes}
use Rattle.page.proofs.Laws.{bytes_replicate, bytes_append}
use Rattle.page.proofs.Back.{bytes_header, bytes_meta}
use Rattle.state.specs.declared.types.FileRecord.{FileRecord}
use Rattle.state.specs.Checks.{is_mounted}
use Rattle.state.specs.Values.{file_at, empty_table, unmounted}
use Rattle.state.specs.World.{World, after_call}
use Rattle.reader.specs.Locate.{located_at}
use Rattle.reader.specs.declared.Reader.{Reader}
use Rattle.calls.specs.Calls as calls
use Rattle.calls.specs.Calls.{step, powered, FromEither, FromFormat, Formatted}
use Rattle.reached.specs.Asked.{One, afresh, Again, Locates, Reads}
use Rattle.reached.specs.Ledger.{Noted, Ledger, nothing, note, Written, starts, goes, AsNoted}
use Rattle.demands.specs.Demands.{partition, one_of_both, only_such, demand_2, demand_2_read, demand_3_locate, demand_3_read, power_up}
use Rattle.reader.specs.Locate as ReaderLocate
use Rattle.seq.specs.Seq as SeqSeq
use Rattle.runs.specs.Runs as RunsRuns
use Rattle.page.specs.Page as PagePage
use Rattle.page.specs.Store as PageStore
use Rattle.map.specs.Map as MapMap
use Rattle.metalog.specs.Batch as LogBatch
use Rattle.metalog.specs.Log as LogLog
use Rattle.state.specs.Checks as StateChecks
use Rattle.state.specs.Values as StateValues
use Rattle.chain.specs.Links as ChainLinks
use Rattle.chain.specs.Steps as ChainSteps
use Rattle.volume.specs.Format as VolumeFormat
use Rattle.volume.specs.Mount as VolumeMount
use Rattle.volume.specs.Scan as VolumeScan
use Rattle.writer.specs.Finish as WriterFinish
use Rattle.writer.specs.Open as WriterOpen
use Rattle.writer.specs.Staging as WriterStaging
use Rattle.writer.specs.Write as WriterWrite
use Rattle.transact.specs.Commit as TransactCommit
use Rattle.transact.specs.Rename as TransactRename
use Rattle.transact.specs.Truncate as TransactTruncate

-- what the worlds are computed by
abbrev computing : Unit {0}
unfolding ReaderLocate.locate ReaderLocate.locate_in SeqSeq.index SeqSeq.level RunsRuns.part RunsRuns.part_of RunsRuns.splice RunsRuns.placed RunsRuns.le16 RunsRuns.le32 PagePage.page_of PagePage.begins PagePage.pair_reads PagePage.fields_of PagePage.header_of PagePage.header_bytes PagePage.meta_of PagePage.meta_bytes PageStore.stored MapMap.alloc_of MapMap.released MapMap.cleared LogBatch.chosen LogBatch.batch_stores LogLog.good_pair LogLog.batch_of LogLog.batch_at LogLog.entry_of LogLog.log_of LogLog.area_of LogLog.log_end LogLog.rest_erased LogLog.fits LogLog.sound LogLog.put LogLog.replay_of StateChecks.sizes StateChecks.writer_ok StateChecks.search_ok StateChecks.is_mounted StateChecks.wrong_size StateChecks.checks StateValues.empty_record StateValues.empty_table StateValues.with_file StateValues.in_shape StateValues.no_writer StateValues.no_search StateValues.unmounted StateValues.settled StateValues.opened StateValues.closed StateValues.with_cursor StateValues.with_writer ChainLinks.filled ChainLinks.linked ChainLinks.links_after ChainSteps.is_page ChainSteps.towards ChainSteps.falls ChainSteps.seek_rule ChainSteps.back_rule ChainSteps.go ChainSteps.trace VolumeFormat.erasures VolumeFormat.formatted VolumeFormat.format VolumeMount.claim VolumeMount.load VolumeMount.load_from VolumeMount.best_ok VolumeMount.mount_from VolumeMount.mount_best VolumeMount.mount VolumeMount.mount_with VolumeScan.better VolumeScan.scan WriterFinish.grown WriterFinish.finished WriterFinish.finish WriterOpen.ready_writer WriterOpen.open_in WriterOpen.open_writer WriterStaging.staged_links WriterStaging.staged_header WriterStaging.flushed WriterStaging.on_page WriterStaging.filled_by WriterStaging.space WriterStaging.pages_for WriterStaging.too_few WriterWrite.flush WriterWrite.next_page WriterWrite.ready WriterWrite.write_from WriterWrite.write_in WriterWrite.write TransactCommit.commit_batch TransactCommit.commit TransactRename.swapped TransactRename.rename TransactTruncate.dirtied TransactTruncate.unreached TransactTruncate.truncate_in TransactTruncate.truncate step note
computing = tt

-- ---- FROM A FORMAT

-- eight erased pages, nothing mounted, seed 1
abbrev pub blank : World
blank = record { image = replicate 2048 255; map = replicate 8 0; table = empty_table; state = unmounted 1 }

abbrev pub formatted : World
formatted = step calls.format blank

abbrev bytes : Bytes (replicate 300 5)
bytes = bytes_replicate 300 5 (omega arith)

-- 300 bytes in file 0: two pages
abbrev pub opened : World
opened = step (calls.open_writer 0) formatted

abbrev pub filled : World
filled = step (calls.write (replicate 300 5) bytes) opened

abbrev pub written : World
written = step calls.finish filled

abbrev pub committed : World
committed = step calls.commit written

-- the first page is held after a truncation, and a writer has one
abbrev pub shortened : World
shortened = step (calls.truncate 0 224) committed

abbrev pub busy : World
busy = step (calls.write (7 ∷ []) (omega arith, tt)) (step (calls.open_writer 1) shortened)

formats : (VolumeFormat.format blank).answer ≡ fine
unfolding computing
formats = refl

start : Formatted formatted
unfolding step
start = record { from = blank; bytes = bytes_replicate 2048 255 (omega arith); done = formats; left = refl }

-- what was written, and that calls reach them
abbrev pub ledger_written : Ledger
ledger_written = note calls.finish filled (note (calls.write (replicate 300 5) bytes) opened (note (calls.open_writer 0) formatted nothing))

told_written : Written written ledger_written
told_written = goes calls.finish (goes (calls.write (replicate 300 5) bytes) (goes (calls.open_writer 0) (starts start)))

abbrev pub ledger_busy : Ledger
ledger_busy =
    note (calls.write (7 ∷ []) (omega arith, tt)) (step (calls.open_writer 1) shortened)
    (note (calls.open_writer 1) shortened (note (calls.truncate 0 224) committed (note calls.commit written ledger_written)))

told_committed : Written committed (note calls.commit written ledger_written)
told_committed = goes calls.commit told_written

told_busy : Written busy ledger_busy
told_busy = goes (calls.write (7 ∷ []) (omega arith, tt)) (goes (calls.open_writer 1) (goes (calls.truncate 0 224) told_committed))

pub reached_written : FromFormat written
reached_written = only_such written ledger_written told_written

pub reached_committed : FromFormat committed
reached_committed = only_such committed _ told_committed

-- DEMAND 3, a seek: with no transaction open, number 5 of a file of two pages is on the older one, one header away
idle : committed.state.transaction ≡ false
unfolding computing
idle = refl

located : ReaderLocate.locate committed 0 5 ≡ located_at 4 1
unfolding computing
located = refl

numbers : map (λ (f : FileRecord). f.last_seq) committed.table.files ≡ 300 ∷ 0 ∷ 0 ∷ 0 ∷ 0 ∷ 0 ∷ 0 ∷ 0 ∷ []
unfolding computing
numbers = refl

first_0 : (file_at committed.table 0).first_seq ≡ 0
unfolding computing
first_0 = refl

last_0 : (file_at committed.table 0).last_seq ≡ 300
unfolding computing
last_0 = refl

seek_5 : Locates committed 0 5
seek_5 = demand_3_locate committed reached_committed idle 0 5 (omega arith) (omega (arith, first_0)) (omega (arith, last_0))

-- a read of ten bytes, over what stood in the output
abbrev from_220 : Reader
from_220 = record { file = 0; seq = 220 }

read_220 : Reads committed committed from_220 (replicate 10 9)
read_220 = demand_3_read committed reached_committed idle from_220 (replicate 10 9) (omega arith) (omega arith) (omega (arith, first_0)) (omega (arith, last_0))

-- DEMAND 2: a commit that succeeds, of a file with bytes, and a mount with another map, table and state; and a read after it
abbrev any_map : List ℕ
any_map = replicate 8 7

commits : (after_call TransactCommit.commit written).answer ≡ fine
unfolding computing
commits = refl

eight : length any_map ≡ length written.map
unfolding computing
eight = refl

first_w : (file_at written.table 0).first_seq ≡ 0
unfolding computing
first_w = refl

last_w : (file_at written.table 0).last_seq ≡ 300
unfolding computing
last_w = refl

again : Again written any_map empty_table (unmounted 9)
again = demand_2 written (one_of_both written reached_written) commits any_map empty_table (unmounted 9) eight

read_again : Reads written (after_call VolumeMount.mount (afresh written any_map empty_table (unmounted 9))).world from_220 (replicate 10 9)
read_again = demand_2_read written reached_written commits any_map empty_table (unmounted 9) eight from_220 (replicate 10 9) (omega arith) (omega arith) (omega (arith, first_w)) (omega (arith, last_w))

-- PARTITION of pages of every kind: used, held and free
kinds : busy.map ≡ 0 ∷ 0 ∷ 0 ∷ 1 ∷ 2 ∷ 1 ∷ 1 ∷ 0 ∷ []
unfolding computing
kinds = refl

-- POWER-UP in the midst of it: the truncation and the second file were not committed, and all 300 bytes are there again
eight_busy : length any_map ≡ length busy.map
unfolding computing
eight_busy = refl

abbrev all_300 : Noted
all_300 = record { first = 0; bytes = replicate 300 5 }

noted : ledger_busy.committed 0 ≡ all_300
unfolding computing
noted = refl

powers : (VolumeMount.mount (powered busy any_map empty_table (unmounted 9))).answer ≡ fine
powers = (power_up busy ledger_busy told_busy any_map empty_table (unmounted 9) eight_busy).mounts

all_there : AsNoted (step calls.mount (powered busy any_map empty_table (unmounted 9))) 0 all_300
all_there = subst (AsNoted (step calls.mount (powered busy any_map empty_table (unmounted 9))) 0) noted ((power_up busy ledger_busy told_busy any_map empty_table (unmounted 9) eight_busy).files 0 (omega arith))

-- ---- FROM A MOUNT of an image that no call here made: page_count 3 of four pages, and file 2 begins at number 100

abbrev page_0 : List ℕ
page_0 = header_bytes (record { seq = 100; skiplist = replicate 9 65535; record_boundary = 65535; length = 3 }) ++ (replicate 3 7 ++ replicate 221 255)

abbrev batch : List ℕ
batch = 1 ∷ 0 ∷ 254 ∷ 255 ∷ 2 ∷ 0 ∷ 0 ∷ 0 ∷ 100 ∷ 0 ∷ 0 ∷ 0 ∷ []

abbrev page_1 : List ℕ
page_1 = meta_bytes (record { page_count = 3; seq = 7 }) ++ (batch ++ replicate 232 255)

abbrev pub foreign : World
foreign = record { image = page_0 ++ (page_1 ++ replicate 512 255); map = replicate 4 9; table = empty_table; state = unmounted 3 }

of_bytes : Bytes (page_0 ++ (page_1 ++ replicate 512 255))
of_bytes =
    bytes_append page_0 (page_1 ++ replicate 512 255)
    (bytes_append (header_bytes _) (replicate 3 7 ++ replicate 221 255) (bytes_header _) (bytes_append (replicate 3 7) (replicate 221 255) (bytes_replicate 3 7 (omega arith)) (bytes_replicate 221 255 (omega arith))))
    (bytes_append page_1 (replicate 512 255)
    (bytes_append (meta_bytes _) (batch ++ replicate 232 255) (bytes_meta _) (bytes_append batch (replicate 232 255) (search rules) (bytes_replicate 232 255 (omega arith)))) (bytes_replicate 512 255 (omega arith)))

mounts : (VolumeMount.mount foreign).answer ≡ fine
unfolding computing
mounts = refl

abbrev pub mounted : World
mounted = step calls.mount foreign

-- file 2 becomes file 5
abbrev pub renamed : World
renamed = step (calls.rename 2 5) mounted

pub reached_renamed : FromEither renamed
unfolding step
reached_renamed = calls.goes (calls.rename 2 5) (calls.starts (inr (record { from = foreign; bytes = of_bytes; done = mounts; left = refl })))

lasts : map (λ (f : FileRecord). f.last_seq) renamed.table.files ≡ 0 ∷ 0 ∷ 0 ∷ 0 ∷ 0 ∷ 103 ∷ 0 ∷ 0 ∷ []
unfolding computing
lasts = refl

stands : is_mounted renamed.state ≡ true
unfolding computing
stands = refl

count_3 : renamed.state.page_count ≡ 3
unfolding computing
count_3 = refl

-- page 0 is on one chain, and nothing else
page_of_5 : One renamed 0
page_of_5 = partition renamed reached_renamed stands 0 (omega (arith, count_3))

abbrev any_four : List ℕ
any_four = replicate 4 7

commits_too : (after_call TransactCommit.commit renamed).answer ≡ fine
unfolding computing
commits_too = refl

four : length any_four ≡ length renamed.map
unfolding computing
four = refl

again_too : Again renamed any_four empty_table (unmounted 9)
again_too = demand_2 renamed reached_renamed commits_too any_four empty_table (unmounted 9) four
