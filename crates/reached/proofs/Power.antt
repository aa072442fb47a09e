-- After power-up, and demand 2 by reading; and that an answer of locate depends on the headers of its path alone. Assumes nothing.
use Rattle.std.specs.Prelude.{Err}
use Prim.Native.Nat.{ℕ, ◌+◌, ◌≤◌, ◌<◌}
use mathlib.Core.Path.{◌≡◌, refl, ap, ◌∙◌}
use mathlib.Core.List.{List}
use mathlib.Core.Logic.{inl, inr}
use native.Mathlib.Omega.{arith}
use lib.ListN.{length}
use Rattle.page.proofs.Laws.{ran_length}
use Rattle.state.specs.declared.types.Table.{Table}
use Rattle.state.specs.declared.types.State.{State}
use Rattle.state.specs.Refusals.{on_done, fine}
use Rattle.state.specs.Checks.{checks}
use Rattle.state.specs.Values.{file_at}
use Rattle.state.specs.World.{World, after_call}
use Rattle.volume.specs.Mount as VolumeMount
use Rattle.transact.specs.Commit.{commit}
use Rattle.reader.specs.declared.Reader.{Reader}
use Rattle.reader.specs.Locate.{locate_in, locate}
use Rattle.reader.proofs.Live.{locate_depends}
use Rattle.calls.specs.Calls as calls
use Rattle.calls.specs.Calls.{step, FromEither, FromFormat, starts, goes, formats, reaches, boots, powered}
use Rattle.reached.specs.Asked.{with_image, AgreesOnPath, afresh, Reads}
use Rattle.reached.specs.Ledger as ledger
use Rattle.reached.specs.Ledger.{Ledger, Written, PowersUp}
use Rattle.reached.proofs.Boots.{boot_fine, boot_idle}
use Rattle.reached.proofs.Held.{Held, boot_held, step_held, format_reached}
use Rattle.reached.proofs.Demand2.{mounted_again}
use Rattle.reached.proofs.Demand3.{held_reads}
use Rattle.reached.proofs.Written.{written_holds, written_file}

-- ---- LOCATE on another image

pub path_alone : (w : World) (i n : ℕ) (img : List ℕ) → AgreesOnPath w i n img → locate (with_image w img) i n ≡ locate w i n
unfolding locate
path_alone w i n img a =
    ap (λ (k : ℕ). on_done (checks k (length w.map) w.state w.state.transaction i) Err (locate_in img w.state.page_count (file_at w.table i) n)) a.size
    ∙ ap (on_done (checks (length w.image) (length w.map) w.state w.state.transaction i) Err) (locate_depends w.image img w.state.page_count (file_at w.table i) n a.headers)

-- ---- AFTER POWER-UP

pub powers_up : {w : World} {g : Ledger} → Written w g → (m : List ℕ) (t : Table) (s : State) → length m ≡ length w.map → PowersUp w g m t s
powers_up r m t s same = record { mounts = boot_fine (written_holds r).held.good m t s same; files = λ i h. written_file (ledger.boots m t s same r) i h }

-- such a world is one of demand 2's too
pub format_either : {w : World} → FromFormat w → FromEither w
unfolding step
format_either (formats f) = starts (inl f)
format_either (reaches c r) = goes c (format_either r)
format_either (boots {w = w} m t s same r) =
    let k = format_reached r in
    starts (inr (record { from = powered w m t s; bytes = k.good.sees.bytes; done = boot_fine k.good m t s same; left = refl }))

-- ---- DEMAND 2 BY READING

module _ {w : World} (k : Held w) (ok : (commit w).answer ≡ fine) (m : List ℕ) (t : Table) (s : State) (same : length m ≡ length w.map) where
  abbrev v : World
  v = (after_call VolumeMount.mount (afresh w m t s)).world

  later : Held (after_call commit w).world
  unfolding step
  later = step_held calls.commit w k

  same' : length m ≡ length (after_call commit w).world.map
  same' = omega (arith, k.good.sees.size, later.good.sees.size, ran_length w.image (commit w).stores)

  pub commit_reads : (r : Reader) (out : List ℕ) → r.file < 8 → 0 < length out → (file_at w.table r.file).first_seq ≤ r.seq
      → r.seq + length out ≤ (file_at w.table r.file).last_seq → Reads w (after_call VolumeMount.mount (afresh w m t s)).world r out
  commit_reads r out i8 some low high =
      let a = (mounted_again k.good ok m t s same).files r.file i8 in
      let R = held_reads (boot_held later m t s same') (boot_idle later.good m t s same') r out i8 some (omega (arith, a.first_seq)) (omega (arith, a.last_seq)) in
      record { bytes = R.bytes; gives = R.gives; size = R.size; each = λ j h. a.bytes (r.seq + j) (omega arith) (omega arith) ∙ R.each j h }
