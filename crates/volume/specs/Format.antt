-- Format, by document 01, "Mount", its last sentence, and leaves 3 and 4; DECISIONS 9. Assumes nothing: these are definitions.
use Rattle.state.specs.Refusals.{Done, fine}
use Rattle.std.specs.Prelude.{ℕ, zero, suc, ◌%◌, cond, List, [], ◌∷◌, ◌++◌, eqb, length, set, Option, Some, None}
use Rattle.seq.specs.Seed.{seed_after}
use Rattle.page.specs.declared.MetaHeader.{MetaHeader}
use Rattle.page.specs.Page.{page_of, meta_of}
use Rattle.page.specs.Store.{Store, erase, meta_store}
use Rattle.map.specs.Map.{cleared, used, beyond}
use Rattle.state.specs.declared.types.Refusal.TheVariants.{BadSize}
use Rattle.state.specs.Values.{empty_table, settled}
use Rattle.state.specs.Checks.{sizes}
use Rattle.state.specs.World.{World, Outcome, refuse}

-- the metadata pages of the first n pages, and page p, in ascending order
abbrev pub erased_if : ℕ → ℕ → Option MetaHeader → List Store
erased_if p n (Some m) = erase n ∷ []
erased_if p n None = cond (eqb n p) (erase n ∷ []) []

unfoldable pub erasures : List ℕ → ℕ → ℕ → List Store
erasures img p zero = []
erasures img p (suc n) = erasures img p n ++ erased_if p n (meta_of (page_of img n))

-- the first metadata header of an image of n pages
abbrev pub first_meta : ℕ → MetaHeader
first_meta n = record { page_count = n; seq = 1 }

-- its stores, with page p allocated
abbrev pub format_stores : List ℕ → ℕ → ℕ → List Store
format_stores img p n = erasures img p n ++ meta_store p (first_meta n) ∷ []

-- of an image of n pages, with the seed after its step: the map is free, so that the cursor's page is allocated
unfoldable pub formatted : World → ℕ → ℕ → Outcome Done
formatted w n seed =
    record {
      answer = fine;
      stores = format_stores w.image (seed % n) n;
      map = set (cleared n n) (seed % n) used;
      table = empty_table;
      state = settled n n (seed % n) 1 (beyond n (seed % n)) seed;
    }

unfoldable pub format : World → Outcome Done
format w =
    cond (sizes (length w.image) (length w.map))
    (formatted w (length w.map) (seed_after w.state.seed))
    (refuse w BadSize)
