-- What format erases: each page once, in ascending order, so that what stands on a page is still there when its turn comes.
-- Assumes nothing.
use Rattle.std.specs.Prelude.{Option, Some, None}
use mathlib.Core.Path.{◌≡◌, refl, sym, ap}
use mathlib.Core.Bool.{Bool, true, false, cond}
use mathlib.Core.List.{List, [], ◌∷◌}
use Prim.Native.Nat.{ℕ, zero, suc, ◌+◌, ◌≤◌, ◌<◌}
use native.Mathlib.Numerals.{add-one}
use native.Mathlib.Omega.{arith}
use lib.Dec.{eqb}
use Rattle.page.specs.declared.MetaHeader.{MetaHeader}
use Rattle.page.specs.Page.{page_of, meta_of}
use Rattle.page.specs.Store.{erase, page_at, stored, ran, meta_store}
use Rattle.page.proofs.Laws.{Every, every_map, every_append, Off, untouched, ran_append}
use Rattle.volume.specs.Format.{erased_if, erasures, first_meta, format_stores}

-- ---- one page

module _ (p n : ℕ) (x : Option MetaHeader) where
  -- it is an erase of that page, or nothing
  pub erased_on : Every (λ s. s ≡ erase n) (erased_if p n x)
  erased_on = by x
    where
      test : (b : Bool) → Every (λ s. s ≡ erase n) (cond b (erase n ∷ []) [])
      test true = (refl, tt)
      test false = tt

      by : (x : Option MetaHeader) → Every (λ s. s ≡ erase n) (erased_if p n x)
      by (Some m) = (refl, tt)
      by None = test (eqb n p)

-- ---- the pages below n

module _ (img : List ℕ) (p : ℕ) where
  pub erasures_below : (n : ℕ) → Every (λ s. page_at s < n) (erasures img p n)
  unfolding erasures
  erasures_below zero = tt
  erasures_below (suc n) =
      every_append (λ s. page_at s < suc n) (erasures img p n) (erased_if p n (meta_of (page_of img n)))
      (every_map (λ s. page_at s < n) (λ s. page_at s < suc n) (λ s h. omega arith) (erasures img p n) (erasures_below n))
      (every_map (λ s. s ≡ erase n) (λ s. page_at s < suc n) (λ s e. omega (arith, ap page_at e)) (erased_if p n (meta_of (page_of img n))) (erased_on p n (meta_of (page_of img n))))

  -- a page at or above n is as it was
  pub erasures_above : (n q : ℕ) → n ≤ q → page_of (ran img (erasures img p n)) q ≡ page_of img q
  erasures_above n q h =
      untouched img q (erasures img p n) (every_map (λ s. page_at s < n) (Off q) (λ s k e. omega arith) (erasures img p n) (erasures_below n))

  -- one page more
  pub erasures_more : (n : ℕ) (now : List ℕ) → now ≡ ran img (erasures img p n)
      → ran now (erased_if p n (meta_of (page_of now n))) ≡ ran img (erasures img p (n + 1))
  unfolding erasures
  erasures_more n now e =
      rw (add-one n, ran_append img (erasures img p n) (erased_if p n (meta_of (page_of img n))), e, erasures_above n n (omega arith))

-- the header's store after them
pub format_stores_lem : (img : List ℕ) (p n : ℕ) → stored (ran img (erasures img p n)) (meta_store p (first_meta n)) ≡ ran img (format_stores img p n)
format_stores_lem img p n = sym (ran_append img (erasures img p n) (meta_store p (first_meta n) ∷ []))
