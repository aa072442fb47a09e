-- The demands, over every call and every world that calls reach. Assumes nothing: each is proved by the line that cites its proof.
--
-- A world is image, map, table and state (crate state, World). A call is any of document 01's with any arguments (crate calls, Call); `step`
-- and `answer` make it by the very definition that the call's public function promises. FromEither are the worlds that calls reach, refused
-- ones too, from a successful format or mount of any image of bytes with any map, table and state; FromFormat those from a format, where power
-- may also be lost between two calls and come back.
use Rattle.state.specs.Refusals.{fine}
use Rattle.std.specs.Prelude.{ℕ, ◌+◌, ◌≤◌, ◌<◌, ◌≡◌, true, false, ◌⊎◌, List, length, Err}
use Rattle.state.specs.declared.types.Table.{Table}
use Rattle.state.specs.declared.types.State.{State}
use Rattle.state.specs.declared.types.Refusal.{Refusal}
use Rattle.state.specs.Checks.{is_mounted}
use Rattle.state.specs.Values.{file_at, unmounted}
use Rattle.state.specs.World.{World, after_call}
use Rattle.volume.specs.Mount as VolumeMount
use Rattle.transact.specs.Commit.{commit}
use Rattle.reader.specs.declared.Reader.{Reader}
use Rattle.reader.specs.Locate.{locate}
use Rattle.reader.specs.Read.{read, read_kept}
use Rattle.calls.specs.Calls as calls
use Rattle.calls.specs.Calls.{Call, step, answer, FromEither, FromFormat}
use Rattle.calls.specs.Order.{first, conditions, mount_leaves, output_left}
use Rattle.calls.proofs.First.{first_refusal}
use Rattle.calls.proofs.Kept.{refused_leaves, mount_leaves_lem, read_leaves}
use Rattle.reached.specs.Asked.{Whole, One, afresh, Again, Locates, with_image, AgreesOnPath, Reads}
use Rattle.reached.specs.Ledger.{Ledger, Written, AsNoted, PowersUp}
use Rattle.reached.proofs.Reach.{either_sound, sound_whole}
use Rattle.reached.proofs.Partition.{sound_partition}
use Rattle.reached.proofs.Demand2.{sound_commit}
use Rattle.reached.proofs.Held.{format_reached, format_mounted}
use Rattle.reached.proofs.Demand3.{held_locates, held_reads}
use Rattle.reached.proofs.Written.{written_file, written_format, ledger_of}
use Rattle.reached.proofs.Power.{path_alone, powers_up, format_either, commit_reads}

-- ---- DEMAND 1. Every call ends: each public function is proved, and none has a `requires`.

-- What cannot be done is refused by the first number, in the order 1, 2, 3, 4, 12, 11, 6, 7, 9, 8, 10, 5, whose condition holds.
pub demand_1_order : (c : Call) (w : World) → answer c w ≡ first (conditions c w)
demand_1_order c w = first_refusal c w

-- A refusal leaves image, map, table and state as they were, of every call but mount.
pub demand_1_leaves : (c : Call) (w : World) (why : Refusal) → ¬ (c ≡ calls.mount) → answer c w ≡ Err why → step c w ≡ w
demand_1_leaves c w why other refused = refused_leaves c w why other refused

-- A Damaged mount leaves the state unmounted with its seed, the map all zero, image and table; any other refused one leaves all.
pub demand_1_mount : (w : World) (why : Refusal) → answer calls.mount w ≡ Err why → step calls.mount w ≡ mount_leaves why w
demand_1_mount w why refused = mount_leaves_lem w why refused

-- A Damaged read leaves the whole output zero, whatever stood in it; any other refused one leaves the output. The reader stays.
pub demand_1_read : (w : World) (r : Reader) (out : List ℕ) (why : Refusal) → (read w r out).answer ≡ Err why → read w r out ≡ read_kept r (output_left why out) (Err why)
demand_1_read w r out why refused = read_leaves w r out why refused

-- ---- WHAT A REACHED WORLD IS

-- It counts as mounted, or its state is exactly the unmounted one of its seed.
pub mounted_or_not : (w : World) → FromEither w → (is_mounted w.state ≡ true) ⊎ (w.state ≡ unmounted w.state.seed)
mounted_or_not w reached = (either_sound reached).else

-- While mounted, image, map and table are as long as what follows reads of them.
pub whole : (w : World) → FromEither w → is_mounted w.state ≡ true → Whole w
whole w reached mounted = sound_whole (either_sound reached) mounted

-- PARTITION. While mounted, each page below page_count is exactly one of: free, held, the metadata page, on one file's chain from last
-- page to the page of first_seq, or of the open writer.
pub partition : (w : World) → FromEither w → is_mounted w.state ≡ true → (p : ℕ) → p < w.state.page_count → One w p
partition w reached mounted p below = sound_partition (either_sound reached) mounted p below

-- From a format it counts as mounted, whatever was called, and is one of demand 2's worlds too.
pub always_mounted : (w : World) → FromFormat w → is_mounted w.state ≡ true
always_mounted w reached = format_mounted reached

pub one_of_both : (w : World) → FromFormat w → FromEither w
one_of_both w reached = format_either reached

-- ---- DEMAND 2

-- Where commit succeeds, mount of the image that it leaves, with any map of that length, any table and any state, succeeds and gives the same
-- eight files: last page and header, first_seq, last_seq, flags, and the same byte at every live number.
pub demand_2 : (w : World) → FromEither w → (after_call commit w).answer ≡ fine → (m : List ℕ) (t : Table) (s : State) → length m ≡ length w.map → Again w m t s
demand_2 w reached done m t s size = sound_commit (either_sound reached) done m t s size

-- From a format, with a transaction open or not, read of live numbers after that commit and mount gives the bytes that the files held before.
pub demand_2_read : (w : World) → FromFormat w → (after_call commit w).answer ≡ fine → (m : List ℕ) (t : Table) (s : State) → length m ≡ length w.map
    → (r : Reader) (out : List ℕ) → r.file < 8 → 0 < length out → (file_at w.table r.file).first_seq ≤ r.seq
    → r.seq + length out ≤ (file_at w.table r.file).last_seq → Reads w (after_call VolumeMount.mount (afresh w m t s)).world r out
demand_2_read w reached done m t s size r out file some first last = commit_reads (format_reached reached) done m t s size r out file some first last

-- ---- DEMAND 3

-- In any world from a format with no transaction open, for each file and each seq with first_seq ≤ seq < last_seq: locate succeeds and gives
-- the one page of that file's chain that holds seq, the same that stepping back page by page gives; its count is the length of the rule's
-- path, and at most 9 plus the multiples of 32,768 from seq up to but excluding the last page's first number.
pub demand_3_locate : (w : World) → FromFormat w → w.state.transaction ≡ false → (i n : ℕ) → i < 8 → (file_at w.table i).first_seq ≤ n → n < (file_at w.table i).last_seq → Locates w i n
demand_3_locate w reached idle i n file first last = held_locates (format_reached reached) idle i n file first last

-- It reads exactly the headers on that path: in any world at all, on any other image of the same length that agrees on them, with the same map,
-- table and state, answer and count are the same.
pub demand_3_path : (w : World) (i n : ℕ) (img : List ℕ) → AgreesOnPath w i n img → locate (with_image w img) i n ≡ locate w i n
demand_3_path w i n img agrees = path_alone w i n img agrees

-- Read of live numbers never refuses, and gives each number's byte.
pub demand_3_read : (w : World) → FromFormat w → w.state.transaction ≡ false → (r : Reader) (out : List ℕ) → r.file < 8 → 0 < length out
    → (file_at w.table r.file).first_seq ≤ r.seq → r.seq + length out ≤ (file_at w.table r.file).last_seq → Reads w w r out
demand_3_read w reached idle r out file some first last = held_reads (format_reached reached) idle r out file some first last

-- Every world from a format has a ledger of what was written (crate reached, Ledger: only a write adds bytes, a finish makes them the file's,
-- truncation advances the first number, mount goes back to what was committed), and only such a world has one.
pub ledger : (w : World) → FromFormat w → (g : Ledger) × Written w g
ledger w reached = ledger_of reached

pub only_such : (w : World) (g : Ledger) → Written w g → FromFormat w
only_such w g written = written_format written

-- Each file is as the ledger has it: first_seq, exactly last_seq bytes, and at each live number the byte last written there.
pub demand_3_written : (w : World) (g : Ledger) → Written w g → (i : ℕ) → i < 8 → AsNoted w i (g.files i)
demand_3_written w g written i file = written_file written i file

-- ---- AFTER POWER-UP. The image that calls from a format left, at any moment between two calls, mounted with any map of that length, any table
-- and any state: the mount succeeds and each file is as it was last committed, bytes included. What it leaves is a world from a format
-- (FromFormat's and Written's `boots`), so all of demand 3 holds there and in every world that calls reach from it.
pub power_up : (w : World) (g : Ledger) → Written w g → (m : List ℕ) (t : Table) (s : State) → length m ≡ length w.map → PowersUp w g m t s
power_up w g written m t s size = powers_up written m t s size
