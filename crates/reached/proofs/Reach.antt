-- Every world that calls reach is sound: its image is of bytes, and while mounted the invariant holds. Assumes nothing.
use Rattle.state.specs.Refusals.{Done, fine}
use Rattle.state.specs.World.{World, Outcome, ended, after_call}
use Rattle.seq.specs.Seed.{seed_after}
use Rattle.volume.specs.Format as VolumeFormat
use Rattle.volume.specs.Mount as VolumeMount
use Rattle.volume.specs.Mount.{Maybe, bad, good, LoadedAll}
use Rattle.volume.specs.Scan.{scan}
use Rattle.calls.specs.Calls as calls
use Rattle.calls.specs.Calls.{Call, step, starts, goes, FromEither}
use Prim.Native.Nat.{ℕ}
use mathlib.Core.Path.{◌≡◌, refl, sym, subst}
use mathlib.Core.Bool.{Bool, true, false}
use mathlib.Core.Logic.{◌⊎◌, inl, inr}
use lib.ListN.{length}
use native.Mathlib.Omega.{arith}
use Rattle.reached.specs.Asked.{Whole}
use Rattle.agree.specs.Good.{Known}
use Rattle.agree.proofs.Commit.{commit_keeps}
use Rattle.agree.proofs.Counts.{good_mounted}
use Rattle.agree.proofs.Finish.{finish_keeps, discard_keeps}
use Rattle.agree.proofs.Format.{format_known}
use Rattle.agree.proofs.Idle.{open_stays, write_stays, record_end_stays, finish_stays, discard_stays, truncate_stays, rename_stays, flags_stays, commit_stays, start_stays, answered_stays}
use Rattle.agree.proofs.Keeps.{cond_by, start_keeps, left_keeps, right_keeps, flags_keeps, rename_keeps, record_end_keeps}
use Rattle.agree.proofs.Mount.{mount_known}
use Rattle.agree.proofs.Open.{open_keeps}
use Rattle.agree.proofs.Pages.{clash}
use Rattle.agree.proofs.Truncate.{truncate_keeps}
use Rattle.agree.proofs.Writes.{write_keeps}
use Rattle.page.specs.Page.{Bytes}
use Rattle.state.specs.Checks.{sizes, is_mounted}
use Rattle.state.specs.Values.{unmounted}
use Rattle.state.proofs.Laws.{sizes_say, mounted_says}

pub record Sound (w : World) : Type 0 where
  pub bytes : Bytes w.image
  pub mounted : is_mounted w.state ≡ true → Known ⊥ (length w.map) w
  pub else : (is_mounted w.state ≡ true) ⊎ (w.state ≡ unmounted w.state.seed)

-- an invariant says so
pub known_sound : {N : ℕ} {w : World} → Known ⊥ N w → Sound w
known_sound {N} {w} k =
    record {
      bytes = k.good.sees.bytes;
      mounted = λ e. subst (λ (n : ℕ). Known ⊥ n w) (sym k.good.sees.owners.size) k;
      else = inl (good_mounted k.good);
    }

-- a call that keeps the invariant, and leaves the world as it was where nothing is mounted
kept_sound : (w w' : World) → Sound w → (is_mounted w.state ≡ false → w' ≡ w) → (Known ⊥ (length w.map) w → Known ⊥ (length w.map) w') → Sound w'
kept_sound w w' s f g = by (is_mounted w.state) refl
  where
    by : (m : Bool) → is_mounted w.state ≡ m → Sound w'
    by true e = known_sound (g (s.mounted e))
    by false e = subst Sound (sym (f e)) s

-- ---- FORMAT and MOUNT, of any world of bytes

pub format_sound : (w : World) → Bytes w.image → Sound w → Sound (after_call VolumeFormat.format w).world
unfolding VolumeFormat.format
format_sound w bs s =
    cond_by (λ (o : Outcome Done). Sound (ended w o).world) (sizes (length w.image) (length w.map)) _ _
    (λ e. let z = sizes_say (length w.image) (length w.map) e in known_sound (format_known ⊥ w bs (length w.map) (seed_after w.state.seed) refl z.2 z.0 z.1))
    (λ e. s)

-- where it succeeds nothing need be known before
pub formatted_sound : (w : World) → Bytes w.image → (VolumeFormat.format w).answer ≡ fine → Sound (after_call VolumeFormat.format w).world
unfolding VolumeFormat.format
formatted_sound w bs =
    cond_by (λ (o : Outcome Done). o.answer ≡ fine → Sound (ended w o).world) (sizes (length w.image) (length w.map)) _ _
    (λ e h. let z = sizes_say (length w.image) (length w.map) e in known_sound (format_known ⊥ w bs (length w.map) (seed_after w.state.seed) refl z.2 z.0 z.1))
    (λ e h. clash cc)

unmounted_is : (seed : ℕ) → is_mounted (unmounted seed) ≡ false
unfolding is_mounted unmounted
unmounted_is seed = refl

unmounted_seed : (seed : ℕ) → unmounted seed ≡ unmounted (unmounted seed).seed
unfolding unmounted
unmounted_seed seed = refl

best_sound : (w : World) → Bytes w.image → sizes (length w.image) (length w.map) ≡ true → Sound (ended w (VolumeMount.mount_best w (scan w.image (length w.map)))).world
unfolding VolumeMount.mount_best
best_sound w bs e = by (VolumeMount.mount_from w.image (length w.map) (scan w.image (length w.map))) refl
  where
    by : (x : Maybe LoadedAll) → VolumeMount.mount_from w.image (length w.map) (scan w.image (length w.map)) ≡ x
        → Sound (ended w (VolumeMount.mounted_as w (length w.map) (seed_after w.state.seed) (scan w.image (length w.map)) x)).world
    by bad h = record { bytes = bs; mounted = λ k. clash (cc (unmounted_is w.state.seed)); else = inr (unmounted_seed w.state.seed) }
    by (good x) h = let z = sizes_say (length w.image) (length w.map) e in known_sound (mount_known ⊥ w bs (length w.map) (seed_after w.state.seed) x (λ d. absurd d) z.2 z.0 z.1 h)

pub mount_sound : (w : World) → Sound w → Sound (after_call VolumeMount.mount w).world
unfolding VolumeMount.mount VolumeMount.mount_with
mount_sound w s =
    cond_by (λ (o : Outcome Done). Sound (ended w o).world) (sizes (length w.image) (length w.map)) _ _ (λ e. best_sound w s.bytes e) (λ e. s)

pub mounted_sound : (w : World) → Bytes w.image → (VolumeMount.mount w).answer ≡ fine → Sound (after_call VolumeMount.mount w).world
unfolding VolumeMount.mount VolumeMount.mount_with
mounted_sound w bs =
    cond_by (λ (o : Outcome Done). o.answer ≡ fine → Sound (ended w o).world) (sizes (length w.image) (length w.map)) _ _ (λ e h. best_sound w bs e) (λ e h. clash cc)

-- ---- EVERY CALL

pub step_sound : (c : Call) (w : World) → Sound w → Sound (step c w)
unfolding step
step_sound calls.format w s = format_sound w s.bytes s
step_sound calls.mount w s = mount_sound w s
step_sound (calls.locate i n) w s = s
step_sound (calls.read r n) w s = s
step_sound (calls.skip r n) w s = s
step_sound (calls.seek i n) w s = s
step_sound (calls.search i) w s = kept_sound w _ s (λ e. start_stays w e i) (λ k. start_keeps k.good i)
step_sound calls.left w s = kept_sound w _ s (λ e. answered_stays w e _) (λ k. left_keeps k.good)
step_sound calls.right w s = kept_sound w _ s (λ e. answered_stays w e _) (λ k. right_keeps k.good)
step_sound (calls.open_writer i) w s = kept_sound w _ s (λ e. open_stays w e i) (λ k. open_keeps k.good i)
step_sound (calls.write l ok) w s = kept_sound w _ s (λ e. write_stays w e l) (λ k. write_keeps k.good l ok)
step_sound calls.record_end w s = kept_sound w _ s (λ e. record_end_stays w e) (λ k. record_end_keeps k.good)
step_sound calls.finish w s = kept_sound w _ s (λ e. finish_stays w e) (λ k. finish_keeps k.good)
step_sound calls.discard w s = kept_sound w _ s (λ e. discard_stays w e) (λ k. discard_keeps k.good)
step_sound (calls.truncate i n) w s = kept_sound w _ s (λ e. truncate_stays w e i n) (λ k. truncate_keeps k.good i n)
step_sound (calls.rename i j) w s = kept_sound w _ s (λ e. rename_stays w e i j) (λ k. rename_keeps k.good i j)
step_sound (calls.flags i n ok) w s = kept_sound w _ s (λ e. flags_stays w e i n) (λ k. flags_keeps k.good i n ok)
step_sound calls.commit w s = kept_sound w _ s (λ e. commit_stays w e) (λ k. (commit_keeps k.good).known)

-- while mounted, nothing is missing
pub sound_whole : {w : World} → Sound w → is_mounted w.state ≡ true → Whole w
sound_whole {w} s e =
    let g = (s.mounted e).good.sees in
    let m = mounted_says w.state e in
    record { image = g.size; count = omega (arith, m.inside, g.pages); table = g.eight }

-- demand 2's worlds, and demand 3's
pub either_sound : {w : World} → FromEither w → Sound w
either_sound (starts (inl f)) = subst Sound (sym f.left) (formatted_sound f.from f.bytes f.done)
either_sound (starts (inr m)) = subst Sound (sym m.left) (mounted_sound m.from m.bytes m.done)
either_sound (goes {w = w} c r) = step_sound c w (either_sound r)
