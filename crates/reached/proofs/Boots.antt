-- Mount of an image for which the invariant holds, with any map of that length, any table and any state: it succeeds. Assumes nothing.
use Rattle.state.specs.Refusals.{Done, fine}
use Prim.Native.Nat.{ℕ, ◌*◌, ◌≤◌}
use mathlib.Core.Path.{◌≡◌, sym, ap, subst, ◌∙◌}
use mathlib.Core.Bool.{Bool, true, false, cond}
use mathlib.Core.List.{List}
use native.Mathlib.Omega.{arith}
use lib.ListN.{length}
use borrow.Author.Tests.{eq-eqb, le-leb}
use Rattle.seq.specs.Seed.{seed_after}
use Rattle.state.specs.declared.types.Table.{Table}
use Rattle.state.specs.declared.types.State.{State}
use Rattle.state.specs.declared.types.Refusal.TheVariants.{BadSize}
use Rattle.state.specs.Checks.{sizes}
use Rattle.state.specs.Values.{settled}
use Rattle.state.specs.World.{World, Outcome, refuse}
use Rattle.volume.specs.declared.Best.{Best}
use Rattle.volume.specs.Mount as VolumeMount
use Rattle.volume.specs.Mount.{good}
use Rattle.volume.specs.Scan.{scan}
use Rattle.calls.specs.Calls.{powered}
use Rattle.owners.specs.State.{Base}
use Rattle.owners.specs.Store.{Owner}
use Rattle.agree.specs.Good.{Good}
use Rattle.agree.proofs.Found.{Finds, mount_finds}

module _ {D : Type 0} {N : ℕ} {w : World} {b : Base} {own : ℕ → Owner} (g : Good D N w b own) (m : List ℕ) (t : Table) (s : State) (size : length m ≡ N) where
  abbrev v : World
  v = powered w m t s

  abbrev best : Best
  best = scan w.image (length m)

  -- what the mount finds
  abbrev pub found : Finds w.image g.inv.mounted
  found = mount_finds w.image g.inv.mounted g.sees.bytes

  pub finds : VolumeMount.mount_from w.image (length m) (scan w.image (length m)) ≡ good (mount_finds w.image g.inv.mounted g.sees.bytes).loaded
  finds = subst (λ (n : ℕ). VolumeMount.mount_from w.image n (scan w.image n) ≡ good found.loaded) (sym size) found.is

  pub sizes_ok : sizes (length w.image) (length m) ≡ true
  unfolding sizes
  sizes_ok =
      let lo : 4 ≤ length m = omega (arith, g.sees.big) in
      let hi : length m ≤ 1024 = omega (arith, g.sees.small) in
      let e : length w.image ≡ 256 * length m = g.sees.size ∙ ap (λ (n : ℕ). 256 * n) (sym size) in
      rw (le-leb 4 (length m) lo, le-leb (length m) 1024 hi, eq-eqb (length w.image) (256 * length m) e)

  pub boots_as : VolumeMount.mount (powered w m t s) ≡ VolumeMount.mounted_as (powered w m t s) (length m) (seed_after s.seed) (scan w.image (length m)) (good (mount_finds w.image g.inv.mounted g.sees.bytes).loaded)
  unfolding VolumeMount.mount VolumeMount.mount_with VolumeMount.mount_best
  boots_as =
      ap (λ (c : Bool). cond c (VolumeMount.mounted_as v (length m) (seed_after s.seed) best (VolumeMount.mount_from w.image (length m) best)) (refuse v BadSize)) sizes_ok
      ∙ ap (VolumeMount.mounted_as v (length m) (seed_after s.seed) best) finds

  -- nothing is open then
  pub boot_fine : (VolumeMount.mount (powered w m t s)).answer ≡ fine
  boot_fine = ap (λ (o : Outcome Done). o.answer) boots_as

  pub boot_idle : (VolumeMount.mount (powered w m t s)).state.transaction ≡ false
  unfolding settled
  boot_idle = ap (λ (o : Outcome Done). o.state.transaction) boots_as
