-- When each call gives each refusal, by document 01, "Refusal numbers": a condition for each, and the order in which they are checked. The
-- answer is the first in that order whose condition holds, so a condition need not shut out those before it. Last, what a refusal leaves.
-- Assumes nothing: these are definitions.
use Rattle.std.specs.Prelude.{ℕ, ◌+◌, Bool, true, false, cond, ◌&&◌, ◌||◌, not, List, [], ◌∷◌, eqb, leb, ltb, length, replicate, Option, Some, None, Err}
use Rattle.seq.specs.Seq.{limit}
use Rattle.metalog.specs.Log.{log_end, rest_erased, fits}
use Rattle.metalog.specs.declared.Entry.{Entry}
use Rattle.map.specs.Map.{alloc_of}
use Rattle.chain.specs.Files.{last_of}
use Rattle.chain.specs.Steps.{read_at, Sought, damaged, at, walk, Stepped, stays, reaches, breaks}
use Rattle.state.specs.declared.types.FileRecord.{FileRecord}
use Rattle.state.specs.declared.types.Refusal.{Refusal}
use Rattle.state.specs.declared.types.Refusal.TheVariants.{BadSize, NotMounted, Busy, BadFile, Damaged, Eof, Short, NoRoom, SeqEnd, NoSearch, Gone, Range}
use Rattle.state.specs.Values.{file_at, is_empty, in_shape, unmounted}
use Rattle.state.specs.Refusals.{number, Done, fine}
use Rattle.state.specs.Checks.{sizes, is_mounted, wrong_size}
use Rattle.state.specs.World.{World}
use Rattle.volume.specs.Scan.{scan}
use Rattle.volume.specs.Mount.{Maybe, bad, good, mount_from}
use Rattle.reader.specs.Locate.{path_of}
use Rattle.reader.specs.Read as R
use Rattle.writer.specs.Staging.{space, pages_for, too_few}
use Rattle.writer.specs.Open.{step_from}
use Rattle.writer.specs.Staging.{previous_of}
use Rattle.writer.specs.Finish.{Back, lost, pages, back_from}
use Rattle.transact.specs.Commit.{dirty_files}
use Rattle.search.specs.Hunt as H
use Rattle.search.specs.declared.search.Stand.{Stand}
use Rattle.search.specs.Search.{start_of, left_of, right_of}
use Rattle.calls.specs.Calls.{Call, format, mount, locate, read, skip, seek, search, left, right, open_writer, write, record_end, finish, discard, truncate, rename, flags, commit}

-- ---- the order

abbrev pub order : List Refusal
order = BadSize ∷ NotMounted ∷ Busy ∷ BadFile ∷ Range ∷ Gone ∷ Eof ∷ Short ∷ SeqEnd ∷ NoRoom ∷ NoSearch ∷ Damaged ∷ []

-- which refusals' conditions hold; none of these calls gives Range
pub record Conditions : Type 0 where
  pub bad_size : Bool
  pub not_mounted : Bool
  pub busy : Bool
  pub bad_file : Bool
  pub gone : Bool
  pub eof : Bool
  pub short : Bool
  pub seq_end : Bool
  pub no_room : Bool
  pub no_search : Bool
  pub damaged : Bool

abbrev pub holds : Conditions → Refusal → Bool
holds c BadSize = c.bad_size
holds c NotMounted = c.not_mounted
holds c Busy = c.busy
holds c BadFile = c.bad_file
holds c Range = false
holds c Gone = c.gone
holds c Eof = c.eof
holds c Short = c.short
holds c SeqEnd = c.seq_end
holds c NoRoom = c.no_room
holds c NoSearch = c.no_search
holds c Damaged = c.damaged

-- the first refusal of a list whose condition holds
abbrev pub first_of : List Refusal → (Refusal → Bool) → Done
first_of [] p = fine
first_of (r ∷ l) p = cond (p r) (Err r) (first_of l p)

abbrev pub first : Conditions → Done
first c = first_of order (holds c)

-- ---- what the conditions are made of

abbrev pub wrong : World → Bool
wrong w = wrong_size (length w.image) (length w.map) (is_mounted w.state) w.state.pages

-- those of a call that can give 1 to 4 and Damaged alone
abbrev pub plain : World → Bool → Bool → Bool → Conditions
plain w busy file damage =
    record {
      bad_size = wrong w;
      not_mounted = not (is_mounted w.state);
      busy = busy;
      bad_file = file;
      gone = false;
      eof = false;
      short = false;
      seq_end = false;
      no_room = false;
      no_search = false;
      damaged = damage;
    }

-- of format and mount: never NotMounted or Busy
abbrev pub at_start : World → Bool → Conditions
at_start w damage =
    record {
      bad_size = not (sizes (length w.image) (length w.map));
      not_mounted = false;
      busy = false;
      bad_file = false;
      gone = false;
      eof = false;
      short = false;
      seq_end = false;
      no_room = false;
      no_search = false;
      damaged = damage;
    }

-- of a reader's call from seq on, with n wanted: Gone below first_seq, Eof at or past last_seq, Short where fewer remain
abbrev pub reading : World → ℕ → ℕ → ℕ → Bool → Conditions
reading w file seq n damage =
    record {
      bad_size = wrong w;
      not_mounted = not (is_mounted w.state);
      busy = w.state.transaction;
      bad_file = ltb 7 file;
      gone = not (eqb n 0) && ltb seq (file_at w.table file).first_seq;
      eof = not (eqb n 0) && leb (file_at w.table file).last_seq seq;
      short = not (eqb n 0) && ltb (file_at w.table file).last_seq (seq + n);
      seq_end = false;
      no_room = false;
      no_search = false;
      damaged = not (eqb n 0) && damage;
    }

-- of locate: one number is wanted
abbrev pub locating : World → ℕ → ℕ → Bool → Conditions
locating w file seq damage =
    record {
      bad_size = wrong w;
      not_mounted = not (is_mounted w.state);
      busy = w.state.transaction;
      bad_file = ltb 7 file;
      gone = ltb seq (file_at w.table file).first_seq;
      eof = leb (file_at w.table file).last_seq seq;
      short = false;
      seq_end = false;
      no_room = false;
      no_search = false;
      damaged = damage;
    }

-- of a call on the open writer or search: NoSearch where there is none
abbrev pub on_open : World → Bool → Bool → Bool → Bool → Bool → Conditions
on_open w busy active end room damage =
    record {
      bad_size = wrong w;
      not_mounted = not (is_mounted w.state);
      busy = busy;
      bad_file = false;
      gone = false;
      eof = false;
      short = false;
      seq_end = active && end;
      no_room = active && room;
      no_search = not active;
      damaged = active && damage;
    }

-- ---- Damaged, by what was found

abbrev pub mount_bad : {A : Type 0} → Maybe A → Bool
mount_bad bad = true
mount_bad (good x) = false

abbrev pub path_bad : Sought → Bool
path_bad damaged = true
path_bad (at q) = false

abbrev pub read_bad : R.Bytes → Bool
read_bad R.none = true
read_bad (R.some l) = false

abbrev pub open_bad : R.Opened → Bool
open_bad R.shut = true
open_bad (R.shown p) = false

abbrev pub step_bad : Stepped → Bool
step_bad stays = false
step_bad (reaches q) = false
step_bad breaks = true

abbrev pub back_bad : Back → Bool
back_bad lost = true
back_bad (pages l) = false

abbrev pub hunt_bad : H.Sought → Bool
hunt_bad (H.offered l o) = false
hunt_bad H.ended = false
hunt_bad H.broken = true

abbrev pub log_bad : Option ℕ → Bool
log_bad None = true
log_bad (Some e) = false

-- a commit of a batch needs a new metadata page
abbrev pub moves : World → List Entry → Option ℕ → Bool
moves w b None = false
moves w b (Some e) = not (fits e (length b) && rest_erased w.image w.state.meta_page e)

abbrev pub is_full : Option ℕ → Bool
is_full None = true
is_full (Some p) = false

-- ---- each call's conditions

abbrev pub count_of : World → ℕ
count_of w = w.state.page_count

abbrev pub record_at : World → ℕ → FileRecord
record_at w file = file_at w.table file

-- a record that cannot be followed. An empty file's cannot: where that is no damage, the condition asks for a file that is not empty too
abbrev pub misshapen : World → ℕ → Bool
misshapen w file = not (in_shape (count_of w) (record_at w file))

abbrev pub hunted : World → Stand → H.Sought
hunted w s = H.hunt (count_of w) (read_at w.image) s.left s.right s.links

-- skipping lands on last_seq unopened
abbrev pub land_bad : World → ℕ → ℕ → Bool
land_bad w file seq =
    not (eqb seq (record_at w file).last_seq) && (misshapen w file || open_bad (R.open_at w.image (count_of w) (record_at w file) seq))

-- opening a writer copies a last page that is not full
abbrev pub copies : World → ℕ → Bool
copies w file = not (is_empty (record_at w file)) && not (eqb (record_at w file).header.length 224)

abbrev pub opening : World → ℕ → Conditions
opening w file =
    record {
      bad_size = wrong w;
      not_mounted = not (is_mounted w.state);
      busy = w.state.writer.active;
      bad_file = ltb 7 file;
      gone = false;
      eof = false;
      short = false;
      seq_end = ltb limit (record_at w file).last_seq;
      no_room = copies w file && too_few w.map (count_of w) 1;
      no_search = false;
      damaged = not (is_empty (record_at w file)) && (misshapen w file || copies w file && step_bad (step_from w (record_at w file)));
    }

abbrev pub writing : World → List ℕ → Conditions
writing w l =
    record {
      bad_size = wrong w;
      not_mounted = not (is_mounted w.state);
      busy = false;
      bad_file = false;
      gone = false;
      eof = false;
      short = false;
      seq_end = not (eqb (length l) 0) && w.state.writer.active && ltb limit (w.state.writer.seq + w.state.writer.length + length l);
      no_room = not (eqb (length l) 0) && w.state.writer.active && too_few w.map (count_of w) (pages_for (space w.state.writer) (length l));
      no_search = not (eqb (length l) 0) && not w.state.writer.active;
      damaged = false;
    }

abbrev pub committing : World → List Entry → Option ℕ → Conditions
committing w b e =
    record {
      bad_size = wrong w;
      not_mounted = not (is_mounted w.state);
      busy = w.state.writer.active;
      bad_file = false;
      gone = false;
      eof = false;
      short = false;
      seq_end = not (eqb (length b) 0) && moves w b e && eqb w.state.meta_seq 4294967295;
      no_room = not (eqb (length b) 0) && moves w b e && is_full (alloc_of w.map (count_of w) w.state.cursor);
      no_search = false;
      damaged = not (eqb (length b) 0) && log_bad e;
    }

unfoldable pub conditions : Call → World → Conditions
conditions format w = at_start w false
conditions mount w = at_start w (mount_bad (mount_from w.image (length w.map) (scan w.image (length w.map))))
conditions (locate file seq) w = locating w file seq (misshapen w file || path_bad (path_of w.image (count_of w) (record_at w file) seq).ends)
conditions (read r out) w =
    reading w r.file r.seq (length out)
    (misshapen w r.file || read_bad (R.bytes_from w.image (count_of w) (record_at w r.file) (length out) r.seq (length out)))
conditions (skip r n) w = reading w r.file r.seq n (land_bad w r.file (r.seq + n))
conditions (seek file n) w = reading w file (record_at w file).first_seq n (land_bad w file ((record_at w file).first_seq + n))
conditions (search file) w =
    plain w w.state.transaction (ltb 7 file)
    (not (is_empty (record_at w file)) && (misshapen w file || hunt_bad (hunted w (start_of file (record_at w file)))))
conditions left w = on_open w w.state.transaction w.state.search.active false false (hunt_bad (hunted w (left_of w.state.search)))
conditions right w = on_open w w.state.transaction w.state.search.active false false (hunt_bad (hunted w (right_of w.state.search)))
conditions (open_writer file) w = opening w file
conditions (write l ok) w = writing w l
conditions record_end w = on_open w false w.state.writer.active false false false
conditions finish w = on_open w false w.state.writer.active false false false
conditions discard w =
    on_open w false w.state.writer.active false false
    (back_bad (back_from (count_of w) (read_at w.image) w.state.writer.stored (previous_of w.state.writer)))
conditions (truncate file n) w =
    plain w w.state.writer.active (ltb 7 file)
    (not (eqb n 0) && not (is_empty (record_at w file))
    && (misshapen w file || path_bad (walk (count_of w) (read_at w.image) (record_at w file).first_seq (last_of (record_at w file))).ends))
conditions (rename i j) w = plain w w.state.writer.active (ltb 7 i || ltb 7 j) false
conditions (flags file n ok) w = plain w w.state.writer.active (ltb 7 file) false
conditions commit w = committing w (dirty_files w.table) (log_end w.image w.state.meta_page)

-- ---- what a refusal leaves

-- of a Damaged mount: the state unmounted with its seed, the map all zero, image and table as they were
abbrev pub after_damaged : World → World
after_damaged w = record { image = w.image; map = replicate (length w.map) 0; table = w.table; state = unmounted w.state.seed }

-- one of two, by whether the refusal is Damaged
abbrev pub if_damaged : {A : Type 0} → Refusal → A → A → A
if_damaged why x y = cond (eqb (number why) 5) x y

-- of a mount
abbrev pub mount_leaves : Refusal → World → World
mount_leaves why w = if_damaged why (after_damaged w) w

-- of a read, of its output: all zero where it is Damaged
abbrev pub output_left : Refusal → List ℕ → List ℕ
output_left why out = if_damaged why (replicate (length out) 0) out
