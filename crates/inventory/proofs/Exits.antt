-- The ways out of the inventory of an image. Assumes nothing.
use Rattle.std.specs.Prelude.{Ok, Err}
use mathlib.Core.Path.{◌≡◌, sym, ap, ◌∙◌}
use mathlib.Core.List.{List}
use Prim.Native.Nat.{ℕ, ◌/◌, ◌≤◌, ◌<◌}
use native.Mathlib.Omega.{arith}
use borrow.Author.Tests.{lt-ltb, le-ltb}
use lib.ListN.{length, take, replicate}
use Rattle.page.proofs.Laws.{take_replicate}
use Rattle.state.specs.declared.types.Table.{Table}
use Rattle.state.specs.declared.types.State.{State}
use Rattle.state.specs.declared.types.Refusal.{Refusal}
use Rattle.state.specs.declared.types.Refusal.TheVariants.{BadSize}
use Rattle.state.specs.Refusals.{Done, fine}
use Rattle.state.specs.Values.{empty_table, unmounted}
use Rattle.state.specs.World.{World, After, before, after, after_call, yields, promised}
use Rattle.state.proofs.Numbers.{promise_same}
use Rattle.volume.specs.Mount.{mount}
use Rattle.inventory.specs.Inventory.{lines_of, mounted, refused_by, inventory_of}

-- too long an image
pub list_long : (img : List ℕ) → 65536 < length img → inventory_of img ≡ Err BadSize
unfolding inventory_of
list_long img h = rw (lt-ltb _ _ h)

-- what mount answered and left, where it was handed a free map, an empty table and a fresh state
pub record Handed (img : List ℕ) (a : Done) (t : Table) (s : State) : Type 0 where
  pub answer : (mounted img).answer ≡ a
  pub table : (mounted img).table ≡ t
  pub state : (mounted img).state ≡ s

module _ (img : List ℕ) (h : length img ≤ 65536) where
  module _ (m : List ℕ) (t₀ t : Table) (s₀ s : State) (et : t₀ ≡ empty_table) (es : s₀ ≡ unmounted 1) where
    pub handed : (a : Done) → yields a img m t s ≡ promised mount (before img (take (length img / 256) (replicate 256 0)) t₀ s₀) → Handed img a t s
    handed a e =
        let k : length img / 256 ≤ 256 = omega arith in
        let w : before img (take (length img / 256) (replicate 256 0)) t₀ s₀ ≡ before img (replicate (length img / 256) 0) empty_table (unmounted 1) =
        rw (et, es, take_replicate (length img / 256) 256 0 k) in
        let g : after a img m t s ≡ after_call mount (before img (replicate (length img / 256) 0) empty_table (unmounted 1)) =
        promise_same mount _ a img m t s e ∙ ap (λ (v : World). after_call mount v) w in
        record {
          answer = sym (ap (λ (x : After Done). x.answer) g);
          table = sym (ap (λ (x : After Done). x.world.table) g);
          state = sym (ap (λ (x : After Done). x.world.state) g);
        }

  module _ (t : Table) (s : State) where
    -- a refusal
    pub list_refused : (why : Refusal) → Handed img (Err why) t s → refused_by why ≡ inventory_of img
    unfolding inventory_of
    list_refused why o = rw (le-ltb _ _ h, o.answer)

    -- the files
    pub list_files : Handed img fine t s → Ok (lines_of img s.page_count t) ≡ inventory_of img
    unfolding inventory_of
    list_files o = rw (le-ltb _ _ h, o.answer, o.table, o.state)
