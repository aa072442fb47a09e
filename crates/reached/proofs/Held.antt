-- In every world that calls reach from a format the invariant holds with the link rule, so that it counts as mounted. Assumes nothing.
use Rattle.state.specs.Refusals.{Done, fine}
use Rattle.state.specs.World.{World, Outcome, ended, after_call}
use Rattle.state.specs.declared.types.Table.{Table}
use Rattle.state.specs.declared.types.State.{State}
use Rattle.seq.specs.Seed.{seed_after}
use Rattle.volume.specs.Format as VolumeFormat
use Rattle.volume.specs.Mount as VolumeMount
use Rattle.volume.specs.Mount.{good}
use Rattle.volume.specs.Scan.{scan}
use Rattle.calls.specs.Calls as calls
use Rattle.calls.specs.Calls.{Call, step, FromFormat, formats, reaches, boots, powered}
use Prim.Native.Nat.{ℕ}
use mathlib.Core.Path.{◌≡◌, refl, sym, subst}
use mathlib.Core.Bool.{true}
use mathlib.Core.List.{List}
use lib.ListN.{length}
use Rattle.agree.specs.Good.{Known}
use Rattle.agree.specs.Rules.{ChainOf}
use Rattle.agree.specs.View.{view}
use Rattle.agree.proofs.Commit.{commit_keeps}
use Rattle.agree.proofs.Counts.{good_mounted}
use Rattle.agree.proofs.Finish.{finish_keeps, discard_keeps}
use Rattle.agree.proofs.Format.{format_known}
use Rattle.reached.proofs.Boots.{found, finds, sizes_ok, boots_as}
use Rattle.agree.proofs.Found.{mount_finds}
use Rattle.agree.proofs.Keeps.{cond_by, start_keeps, left_keeps, right_keeps, flags_keeps, rename_keeps, record_end_keeps}
use Rattle.agree.proofs.Mount.{mount_known}
use Rattle.agree.proofs.Open.{open_keeps}
use Rattle.agree.proofs.Pages.{clash}
use Rattle.agree.proofs.Truncate.{truncate_keeps}
use Rattle.agree.proofs.Writes.{write_keeps}
use Rattle.owners.specs.State.{Base, Mounted}
use Rattle.owners.proofs.Finding.{mounted_one}
use Rattle.page.specs.Page.{Bytes}
use Rattle.state.specs.Checks.{sizes, is_mounted}
use Rattle.state.proofs.Laws.{sizes_say}

abbrev pub Held : World → Type 0
Held w = Known (Unit {0}) (length w.map) w

known_held : {N : ℕ} {w : World} → Known (Unit {0}) N w → Held w
known_held {N} {w} k = subst (λ (n : ℕ). Known (Unit {0}) n w) (sym k.good.sees.owners.size) k

-- ---- FORMAT

formatted_held : (w : World) → Bytes w.image → sizes (length w.image) (length w.map) ≡ true → Held (ended w (VolumeFormat.formatted w (length w.map) (seed_after w.state.seed))).world
formatted_held w bs e =
    let z = sizes_say (length w.image) (length w.map) e in
    known_held (format_known (Unit {0}) w bs (length w.map) (seed_after w.state.seed) refl z.2 z.0 z.1)

starts_held : (w : World) → Bytes w.image → (VolumeFormat.format w).answer ≡ fine → Held (after_call VolumeFormat.format w).world
unfolding VolumeFormat.format
starts_held w bs =
    cond_by (λ (o : Outcome Done). o.answer ≡ fine → Held (ended w o).world) (sizes (length w.image) (length w.map)) _ _ (λ e h. formatted_held w bs e) (λ e h. clash cc)

format_held : (w : World) → Held w → Held (after_call VolumeFormat.format w).world
unfolding VolumeFormat.format
format_held w k =
    cond_by (λ (o : Outcome Done). Held (ended w o).world) (sizes (length w.image) (length w.map)) _ _ (λ e. formatted_held w k.good.sees.bytes e) (λ e. k)

-- ---- MOUNT: it finds what was committed, with any map of that length, table and state

module _ {w : World} (k : Held w) (m : List ℕ) (t : Table) (s : State) (same : length m ≡ length w.map) where
  -- a known world, with the link rule where it is asked
  pub boot_known : (D : Type 0) → Known D (length m) (ended (powered w m t s) (VolumeMount.mounted_as (powered w m t s) (length m) (seed_after s.seed) (scan w.image (length m)) (good (mount_finds w.image k.good.inv.mounted k.good.sees.bytes).loaded))).world
  boot_known D =
      let z = sizes_say (length w.image) (length m) (sizes_ok k.good m t s same) in
      mount_known D (powered w m t s) k.good.sees.bytes (length m) (seed_after s.seed) (found k.good m t s same).loaded rules z.2 z.0 z.1 (finds k.good m t s same)
    where
      rules : D → (b : Base) → Mounted (length m) (view w.image) b → (i : ℕ) → ChainOf w.image b.pc (b.tab i)
      rules d b M i =
          let a = mounted_one k.good.inv.mounted (subst (λ (n : ℕ). Mounted n (view w.image) b) same M) in
          subst (λ (c : ℕ). ChainOf w.image c (b.tab i)) a.pc (subst (ChainOf w.image k.base.pc) (a.tab i) ((k.good.rules tt).base i))

  pub boot_held : Held (after_call VolumeMount.mount (powered w m t s)).world
  boot_held = subst (λ (o : Outcome Done). Held (ended (powered w m t s) o).world) (sym (boots_as k.good m t s same)) (known_held (boot_known (Unit {0})))

-- ---- EVERY CALL

pub step_held : (c : Call) (w : World) → Held w → Held (step c w)
unfolding step
step_held calls.format w k = format_held w k
step_held calls.mount w k = boot_held k w.map w.table w.state refl
step_held (calls.locate i n) w k = k
step_held (calls.read r n) w k = k
step_held (calls.skip r n) w k = k
step_held (calls.seek i n) w k = k
step_held (calls.search i) w k = known_held (start_keeps k.good i)
step_held calls.left w k = known_held (left_keeps k.good)
step_held calls.right w k = known_held (right_keeps k.good)
step_held (calls.open_writer i) w k = known_held (open_keeps k.good i)
step_held (calls.write l ok) w k = known_held (write_keeps k.good l ok)
step_held calls.record_end w k = known_held (record_end_keeps k.good)
step_held calls.finish w k = known_held (finish_keeps k.good)
step_held calls.discard w k = known_held (discard_keeps k.good)
step_held (calls.truncate i n) w k = known_held (truncate_keeps k.good i n)
step_held (calls.rename i j) w k = known_held (rename_keeps k.good i j)
step_held (calls.flags i n ok) w k = known_held (flags_keeps k.good i n ok)
step_held calls.commit w k = known_held (commit_keeps k.good).known

-- demand 3's worlds
pub format_reached : {w : World} → FromFormat w → Held w
unfolding step
format_reached (formats f) = subst Held (sym f.left) (starts_held f.from f.bytes f.done)
format_reached (reaches {w = w} c r) = step_held c w (format_reached r)
format_reached (boots m t s same r) = boot_held (format_reached r) m t s same

-- they all count as mounted
pub format_mounted : {w : World} → FromFormat w → is_mounted w.state ≡ true
format_mounted r = good_mounted (format_reached r).good
