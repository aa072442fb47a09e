-- Two writes are one: where a write of l ++ l' succeeds, a write of l and then one of l' succeed, and leave the same image, map,
-- table and state. Assumes nothing.
use Rattle.std.specs.Prelude.{Ok, Err}
use Rattle.state.specs.Refusals.{Done, fine}
use Prim.Native.Nat.{ℕ, ◌<◌}
use mathlib.Core.Path.{◌≡◌, refl, sym, ap, subst, ◌∙◌}
use mathlib.Core.Bool.{true, false}
use mathlib.Core.List.{List, ◌++◌}
use native.Mathlib.Omega.{arith}
use lib.ListN.{length, length-append}
use Rattle.page.specs.Store.{ran}
use Rattle.page.proofs.Laws.{ran_length}
use Rattle.state.specs.declared.types.State.{State}
use Rattle.state.specs.declared.types.Refusal.{Refusal}
use Rattle.state.specs.Values.{with_cursor, with_writer}
use Rattle.state.specs.Checks.{is_mounted, checks}
use Rattle.state.specs.World.{World, Outcome, After, ended, after_call}
use Rattle.state.proofs.Laws.{OpenWriter, writer_says, Passed, checks_pass}
use Rattle.writer.specs.Write.{Writing, write_from, begun, written_as, write}
use Rattle.writer.specs.Inner.{Made, makes, may_write}
use Rattle.writer.proofs.Sounds.{SoundAt, less_sound}
use Rattle.writer.proofs.Turns.{resume}
use Rattle.writer.proofs.Exits.{write_done, write_refused, may_sound, may_active, checked_refused}
use Rattle.writer.proofs.Cuts.{cut}
use Rattle.writer.proofs.Kept.{Known, write_keeps, still_mounted, checks_same, checks_mounted, sound_may}

never : {why : Refusal} → Err why ≡ fine → ⊥
never e = let z : ◌≡◌ {A = ℕ} 0 1 = cc in omega arith

-- a write that is not refused
pub record Wrote (w : World) (l : List ℕ) : Type 0 where
  pub checks : checks (length w.image) (length w.map) w.state false 0 ≡ fine
  pub may : may_write w.map w.state (length l) ≡ fine

-- any that succeeds is such
pub wrote_says : (w : World) (l : List ℕ) → 0 < length l → (write w l).answer ≡ fine → Wrote w l
unfolding write
wrote_says w l some h = by (checks (length w.image) (length w.map) w.state false 0) refl
  where
    by : (d : Done) → checks (length w.image) (length w.map) w.state false 0 ≡ d → Wrote w l
    by (Err why) e =
        absurd (never (ap (λ (a : After Done). a.answer) (checked_refused w false 0 _ (Err why) (sym e) why refl) ∙ h))
    by (Ok u) e = go (may_write w.map w.state (length l)) refl
      where
        go : (m : Done) → may_write w.map w.state (length l) ≡ m → Wrote w l
        go (Err why) f =
            absurd (never (ap (λ (a : After Done). a.answer) (write_refused w fine (sym e) refl l (λ z. omega arith) (Err why) (sym f) why refl) ∙ h))
        go (Ok u) f = record { checks = e; may = f }

wrote_is : (w : World) (l : List ℕ) → 0 < length l → Wrote w l
    → write w l ≡ written_as w (write_from w.state.page_count (length l) l (begun w))
wrote_is w l some g = write_done w fine (sym g.checks) refl l (λ e. omega arith) fine (sym g.may) refl

module _ (w : World) (l l' : List ℕ) (some : 0 < length l) (some' : 0 < length l') (full : length w.state.writer.staged ≡ 224)
    (g : Wrote w (l ++ l')) where
  abbrev count : ℕ
  count = w.state.page_count

  pass : Passed (length w.image) (length w.map) w.state false 0
  pass = checks_pass (length w.image) (length w.map) w.state false 0 g.checks

  on : w.state.writer.active ≡ true
  on = may_active w.map w.state (length (l ++ l')) g.may

  sound : SoundAt w.state.page_count (length (l ++ l')) (begun w)
  sound = may_sound w.map w.state (length (l ++ l')) pass.mounted g.may

  was : OpenWriter w.state.page_count w.state.writer
  was = writer_says w.state.page_count w.state.writer pass.mounted.writer on

  known : Known w.state.page_count (begun w) (begun w)
  known = record { active = refl; file = refl; copied = refl; page = was.page; previous = was.previous; map = refl }

  abbrev first : Writing
  first = write_from w.state.page_count (length l) l (begun w)

  kept : SoundAt w.state.page_count (length l') first × Known w.state.page_count (begun w) first
  kept =
      write_keeps w.state.page_count (length l') l (begun w)
      (subst (λ (n : ℕ). SoundAt w.state.page_count n (begun w)) (length-append l l') sound) known

  -- the first write is not refused
  wrote_first : Wrote w l
  wrote_first =
      record {
        checks = g.checks;
        may = sound_may w.map w.state (length l) on (less_sound w.state.writer (length l) (omega (arith, length-append l l')) sound);
      }

  abbrev state' : State
  state' = with_writer (with_cursor w.state first.cursor) first.writer

  abbrev world' : World
  world' = record { image = ran w.image first.stores; map = first.map; table = w.table; state = state' }

  writer' : OpenWriter w.state.page_count first.writer
  writer' =
      record {
        file = rw kept.1.file was.file;
        length = kept.0.able.length;
        page = kept.1.page;
        copied = rw kept.1.copied was.copied;
        previous = kept.1.previous;
        end = kept.0.able.end;
        stored = kept.0.able.stored;
      }

  mounted : is_mounted w.state ≡ true
  mounted = checks_mounted (length w.image) (length w.map) w.state false 0 g.checks

  -- nor is the second
  wrote_second : Wrote world' l'
  unfolding with_writer with_cursor
  wrote_second =
      let e : is_mounted state' ≡ is_mounted w.state = still_mounted w.state first.cursor first.writer mounted kept.0.able.cursor writer' ∙ sym mounted in
      let i = ran_length w.image first.stores in
      let m = kept.1.map in
      record {
        checks = rw (i, m) (checks_same (length w.image) (length w.map) w.state state' false 0 e refl ∙ g.checks);
        may = sound_may first.map state' (length l') (kept.1.active ∙ on) kept.0;
      }

  abbrev leave : Made → After Done
  leave z = record { answer = fine; world = record { image = z.image; map = z.map; table = w.table; state = with_writer (with_cursor w.state z.cursor) z.writer } }

  pub two_writes : after_call (λ v. write v l') (after_call (λ v. write v l) w).world ≡ after_call (λ v. write v (l ++ l')) w
  unfolding with_writer with_cursor
  two_writes =
      let a : (after_call (λ v. write v l) w).world ≡ world' = ap (λ (o : Outcome Done). (ended w o).world) (wrote_is w l some wrote_first) in
      ap (after_call (λ v. write v l')) a
      ∙ ap (ended world') (wrote_is world' l' some' wrote_second)
      ∙ ap leave (sym (resume w.image w.state.page_count (length l') l' first))
      ∙ ap (λ (x : Writing). leave (makes w.image x)) (sym (cut w.state.page_count l l' (begun w) sound full))
      ∙ sym (ap (ended w) (wrote_is w (l ++ l') (omega (arith, length-append l l')) g))
