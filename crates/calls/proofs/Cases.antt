-- Cascades of tests: an outcome's answer, and checks 1 to 4 as part of the order. Assumes nothing.
use Rattle.std.specs.Prelude.{Ok, Err}
use Prim.Native.Nat.{ℕ}
use mathlib.Core.Path.{◌≡◌, refl, ◌∙◌}
use mathlib.Core.Bool.{Bool, true, false, cond, not}
use lib.Dec.{ltb}
use lib.ListN.{length}
use Rattle.state.specs.declared.types.Refusal.{Refusal}
use Rattle.state.specs.declared.types.Refusal.TheVariants.{BadSize, NotMounted, Busy, BadFile}
use Rattle.state.specs.Refusals.{on_done, Done, fine}
use Rattle.state.specs.Checks.{is_mounted, checks}
use Rattle.state.specs.World.{World, checked}
use Rattle.calls.specs.Order.{wrong}

-- a function of a choice is the choice of its values
pub cond_map : {A B : Type 0} (f : A → B) (b : Bool) (x y : A) → f (cond b x y) ≡ cond b (f x) (f y)
cond_map f true x y = refl
cond_map f false x y = refl

pub on_done_map : {A B : Type 0} (f : A → B) (d : Done) (r : Refusal → A) (x : A) → f (on_done d r x) ≡ on_done d (λ why. f (r why)) (f x)
on_done_map f (Ok u) r x = refl
on_done_map f (Err why) r x = refl

-- checks 1 to 4, written as the order has them
abbrev pub fourth : World → Bool → Bool → Done → Done
fourth w busy file rest =
    cond (wrong w) (Err BadSize)
    (cond (not (is_mounted w.state)) (Err NotMounted)
    (cond busy (Err Busy)
    (cond file (Err BadFile)
    rest)))

pub four : (w : World) (busy : Bool) (file : ℕ) (rest : Done) → checked w busy file Err rest ≡ fourth w busy (ltb 7 file) rest
unfolding checks
four w busy file rest = go (wrong w) (is_mounted w.state) busy (ltb 7 file)
  where
    go : (a m b f : Bool)
        → on_done (cond a (Err BadSize) (cond m (cond b (Err Busy) (cond f (Err BadFile) fine)) (Err NotMounted))) Err rest
        ≡ cond a (Err BadSize) (cond (not m) (Err NotMounted) (cond b (Err Busy) (cond f (Err BadFile) rest)))
    go true m b f = refl
    go false false b f = refl
    go false true true f = refl
    go false true false true = refl
    go false true false false = refl

-- a call whose answers after checks 1 to 4 are `rest`
pub answered : {A : Type 0} (f : A → Done) (w : World) (busy : Bool) (file : ℕ) (r : Refusal → A) (x : A) → ((why : Refusal) → f (r why) ≡ Err why)
    → f (checked w busy file r x) ≡ fourth w busy (ltb 7 file) (f x)
answered f w busy file r x e = by (checks (length w.image) (length w.map) w.state busy file) ∙ four w busy file (f x)
  where
    by : (d : Done) → f (on_done d r x) ≡ on_done d Err (f x)
    by (Ok u) = refl
    by (Err why) = e why
