-- What the exits of format and mount come to. Assumes nothing.
use Rattle.std.specs.Prelude.{Some, None, Err}
use Rattle.state.specs.Refusals.{fine}
use mathlib.Core.Path.{◌≡◌}
use mathlib.Core.Bool.{true, false}
use mathlib.Core.List.{List}
use Prim.Native.Nat.{ℕ, ◌%◌}
use lib.ListN.{length, set, replicate}
use Rattle.seq.specs.Seed.{seed_after}
use Rattle.page.specs.Store.{ran}
use Rattle.map.specs.Map.{cleared, used, beyond}
use Rattle.state.specs.declared.types.Table.{Table}
use Rattle.state.specs.declared.types.State.{State}
use Rattle.state.specs.declared.types.Refusal.TheVariants.{BadSize, Damaged}
use Rattle.state.specs.Values.{empty_table, settled, unmounted}
use Rattle.state.specs.Checks.{sizes}
use Rattle.state.specs.World.{before, after, after_call}
use Rattle.volume.specs.declared.Best.{Best}
use Rattle.volume.specs.Scan.{scan}
use Rattle.volume.specs.Format.{format_stores, formatted, format}
use Rattle.volume.specs.Mount.{mount_from, mount_best, mount_with, mount}
use Rattle.volume.specs.Loads.{all_as}

module _ (img map : List ℕ) (t : Table) (s : State) where
  -- ---- format

  pub format_refused : sizes (length img) (length map) ≡ false
      → after (Err BadSize) img map t s ≡ after_call format (before img map t s)
  unfolding format
  format_refused e = rw e

  pub format_done : sizes (length img) (length map) ≡ true → (seed : ℕ) → seed ≡ seed_after s.seed
      → (img' map' : List ℕ) (t' : Table) (s' : State) (cursor : ℕ)
      → img' ≡ ran img (format_stores img (seed % length map) (length map)) → map' ≡ set (cleared (length map) (length map)) (seed % length map) used
      → t' ≡ empty_table → cursor ≡ beyond (length map) (seed % length map) → s' ≡ settled (length map) (length map) (seed % length map) 1 cursor seed
      → after fine img' map' t' s' ≡ after_call format (before img map t s)
  unfolding format formatted
  format_done e seed es img' map' t' s' cursor a b c d f = rw (a, b, c, f, d, es, e)

  -- ---- mount from a best page

  module _ (b : Best) (map' : List ℕ) (same : length map' ≡ length map) where
    pub mount_done : (t' : Table) → all_as (Some t') map' ≡ mount_from img (length map) b → (seed : ℕ) → seed ≡ seed_after s.seed → (s' : State)
        → s' ≡ settled (length map') b.page_count b.page b.seq (seed % b.page_count) seed
        → after fine img map' t' s' ≡ after_call (λ w. mount_best w b) (before img map t s)
    unfolding mount_best
    mount_done t' e seed es s' f = rw (← e, f, same, es)

    pub mount_damaged : all_as None map' ≡ mount_from img (length map) b → (map'' : List ℕ) → map'' ≡ replicate (length map') 0 → (s' : State) → s' ≡ unmounted s.seed
        → after (Err Damaged) img map'' t s' ≡ after_call (λ w. mount_best w b) (before img map t s)
    unfolding mount_best
    mount_damaged e map'' z s' f = rw (← e, f, z, same)

  -- ---- the calls

  pub mount_refused : sizes (length img) (length map) ≡ false → after (Err BadSize) img map t s ≡ after_call mount (before img map t s)
  unfolding mount mount_with
  mount_refused e = rw e

  pub mount_is : sizes (length img) (length map) ≡ true → (b : Best) → b ≡ scan img (length map)
      → after_call (λ w. mount_best w b) (before img map t s) ≡ after_call mount (before img map t s)
  unfolding mount mount_with
  mount_is e b i = rw (i, e)
