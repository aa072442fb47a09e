-- Full pages one behind the other, linked by the rule, are a chain; and document 01's run over ten of them. Assumes nothing.
use mathlib.Core.Path.{◌≡◌, refl}
use mathlib.Core.List.{List, [], ◌∷◌, map}
use Prim.Native.Nat.{ℕ, zero, suc, ◌≤◌, ◌<◌}
use native.Mathlib.Omega.{arith}
use lib.ListN.{length}
use Rattle.seq.specs.Ids.{none}
use Rattle.seq.specs.Seq.{index, level}
use Rattle.page.specs.Page.{Read, readable}
use Rattle.chain.specs.declared.PagePointer.{PagePointer}
use Rattle.chain.specs.Links.{start, end, no_links, filled, linked, links_after, Linked, Stand, Chain}
use Rattle.chain.specs.Steps.{is_page, towards, falls, seek_rule, at, go, trace, seek}
use Rattle.chain.proofs.Links.{links_nine, links_follow}

-- page k, behind those before it
unfoldable pub written : ℕ → PagePointer
written zero = record { page_id = 0; header = record { seq = 0; skiplist = no_links; record_boundary = none; length = 224 } }
written (suc k) =
    let q = written k in record {
      page_id = suc k;
      header = record { seq = end q; skiplist = links_after q (end q); record_boundary = none; length = 224 };
    }

unfoldable pub before : ℕ → List PagePointer
before zero = []
before (suc k) = written k ∷ before k

unfoldable pub image : ℕ → Read
image j = readable (written j).header

nine : (k : ℕ) → length (written k).header.skiplist ≡ 9
unfolding written
nine zero = refl
nine (suc k) = links_nine (written k) (end (written k)) (nine k)

id_of : (k : ℕ) → (written k).page_id ≡ k
unfolding written
id_of zero = refl
id_of (suc k) = refl

full : (k : ℕ) → (written k).header.length ≡ 224
unfolding written
full zero = refl
full (suc k) = refl

written_linked : (count k : ℕ) → k ≤ count → k < none → Linked count 224 (written k) (before k)
unfolding written before
written_linked count zero h n = tt
written_linked count (suc k) h n =
    let i = id_of k in
    let f = full k in
    (links_follow count 224 (written k) (written (suc k)) (omega arith) (omega arith) (omega arith) (omega arith) refl (nine k) refl, written_linked count k (omega arith) (omega arith))

written_stand : (k : ℕ) → Stand image (before k)
unfolding image before
written_stand zero = tt
written_stand (suc k) = (rw (id_of k), written_stand k)

-- the theory is about something
pub written_chain : (count k : ℕ) → k ≤ count → k < none → Chain count 224 image (written k) (before k)
written_chain count k h n = record { linked = written_linked count k h n; stand = written_stand k }

-- ten full pages, the last at 2016, seek 500: the page at 896, then the page at 448, two headers
pub run_ten : seek 10 image 500 (written 9) ≡ record { path = 4 ∷ 2 ∷ []; ends = at (written 2) }
unfolding seek_rule towards is_page falls trace go index level written image links_after linked filled
run_ten = refl

pub run_starts : map (λ k. start (written k)) (9 ∷ 4 ∷ 2 ∷ []) ≡ 2016 ∷ 896 ∷ 448 ∷ []
unfolding written
run_starts = refl
