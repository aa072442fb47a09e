-- While nothing is mounted every call but format and mount leaves the world as it was. Assumes nothing.
use Rattle.std.specs.Prelude.{Err}
use Rattle.state.specs.declared.types.Refusal.TheVariants.{BadSize, NotMounted, Busy, BadFile}
use Rattle.state.specs.World.{World, Outcome, ended, checked}
use Rattle.writer.specs.Open as OpenCalls
use Rattle.writer.specs.Write as WriteCalls
use Rattle.writer.specs.Finish as FinishCalls
use Rattle.transact.specs.Truncate as TruncateCalls
use Rattle.transact.specs.Rename as RenameCalls
use Rattle.transact.specs.Commit as CommitCalls
use Rattle.search.specs.declared.search.Stand.{Stand as Stood}
use Rattle.search.specs.Search as SearchCalls
use Rattle.state.specs.declared.types.Search.{Search}
use Prim.Native.Nat.{ℕ}
use mathlib.Core.Path.{◌≡◌, refl}
use mathlib.Core.Bool.{Bool, true, false, cond}
use mathlib.Core.List.{List}
use lib.ListN.{length}
use lib.Dec.{ltb}
use Rattle.state.specs.declared.types.Refusal.{Refusal}
use Rattle.agree.proofs.Pages.{clash}
use Rattle.state.specs.Checks.{is_mounted, wrong_size, checks}
use Rattle.state.specs.Refusals.{on_done, fine}

abbrev pub Stays : {A : Type 0} → World → Outcome A → Type 0
Stays w o = (ended w o).world ≡ w

-- checks 1 to 4 do not pass
pub checked_off : {A : Type 0} (P : A → Type 0) (w : World) (busy : Bool) (k : ℕ) (no_go : Refusal → A) (go : A) → is_mounted w.state ≡ false → ((why : Refusal) → P (no_go why)) → P (checked w busy k no_go go)
unfolding checks
checked_off P w busy k no_go go e f = by (wrong_size (length w.image) (length w.map) (is_mounted w.state) w.state.pages) (is_mounted w.state) e
  where
    by : (a m : Bool) → m ≡ false → P (on_done (cond a (Err BadSize) (cond m (cond busy (Err Busy) (cond (ltb 7 k) (Err BadFile) fine)) (Err NotMounted))) no_go go)
    by true m e = f BadSize
    by false true e = clash cc
    by false false e = f NotMounted

module _ (w : World) (e : is_mounted w.state ≡ false) where
  pub open_stays : (i : ℕ) → Stays w (OpenCalls.open_writer w i)
  unfolding OpenCalls.open_writer
  open_stays i = checked_off (Stays w) w _ _ _ _ e (λ why. refl)

  pub write_stays : (l : List ℕ) → Stays w (WriteCalls.write w l)
  unfolding WriteCalls.write
  write_stays l = checked_off (Stays w) w _ _ _ _ e (λ why. refl)

  pub record_end_stays : Stays w (WriteCalls.record_end w)
  unfolding WriteCalls.record_end
  record_end_stays = checked_off (Stays w) w _ _ _ _ e (λ why. refl)

  pub finish_stays : Stays w (FinishCalls.finish w)
  unfolding FinishCalls.finish
  finish_stays = checked_off (Stays w) w _ _ _ _ e (λ why. refl)

  pub discard_stays : Stays w (FinishCalls.discard w)
  unfolding FinishCalls.discard
  discard_stays = checked_off (Stays w) w _ _ _ _ e (λ why. refl)

  pub truncate_stays : (i n : ℕ) → Stays w (TruncateCalls.truncate w i n)
  unfolding TruncateCalls.truncate
  truncate_stays i n = checked_off (Stays w) w _ _ _ _ e (λ why. refl)

  pub rename_stays : (i j : ℕ) → Stays w (RenameCalls.rename w i j)
  unfolding RenameCalls.rename
  rename_stays i j = checked_off (Stays w) w _ _ _ _ e (λ why. refl)

  pub flags_stays : (i n : ℕ) → Stays w (RenameCalls.flags w i n)
  unfolding RenameCalls.flags
  flags_stays i n = checked_off (Stays w) w _ _ _ _ e (λ why. refl)

  pub commit_stays : Stays w (CommitCalls.commit w)
  unfolding CommitCalls.commit
  commit_stays = checked_off (Stays w) w _ _ _ _ e (λ why. refl)

  pub start_stays : (i : ℕ) → Stays w (SearchCalls.start w i)
  unfolding SearchCalls.start
  start_stays i = checked_off (Stays w) w _ _ _ _ e (λ why. refl)

  pub answered_stays : (f : Search → Stood) → Stays w (SearchCalls.answered w f)
  unfolding SearchCalls.answered
  answered_stays f = checked_off (Stays w) w _ _ _ _ e (λ why. refl)
