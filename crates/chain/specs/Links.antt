-- The links of a new page, and chains whose pages have them, by document 01, "Links". Assumes nothing: these are definitions.
use Rattle.std.specs.Prelude.{◌≡◌, cond, List, [], ◌∷◌, map, ◌⊎◌, ℕ, zero, suc, ◌+◌, ◌≤◌, ◌<◌, leb, get_or, replicate}
use Rattle.seq.specs.Ids.{none}
use Rattle.seq.specs.Seq.{index, level}
use Rattle.page.specs.Page.{Read, readable}
use Rattle.chain.specs.declared.PagePointer.{PagePointer}

-- ---- a page and its header

abbrev pub start : PagePointer → ℕ
start p = p.header.seq

abbrev pub end : PagePointer → ℕ
end p = p.header.seq + p.header.length

abbrev pub link : PagePointer → ℕ → ℕ
link p i = get_or p.header.skiplist i 0

-- ---- links of a new page

-- the first k entries become x
unfoldable pub filled : ℕ → ℕ → List ℕ → List ℕ
filled zero x l = l
filled (suc k) x [] = []
filled (suc k) x (y ∷ l) = x ∷ filled k x l

-- every index from 0 up to top names the page, the remaining links stay
unfoldable pub linked : List ℕ → ℕ → ℕ → List ℕ
linked links top id = filled (top + 1) id links

-- of a page that starts at s behind page p
unfoldable pub links_after : PagePointer → ℕ → List ℕ
links_after p s = linked p.header.skiplist (level (start p) s) p.page_id

-- with no page before it
abbrev pub no_links : List ℕ
no_links = replicate 9 none

-- ---- a chain: its last page, and the older ones from the one before it back

-- p is right behind q, which is a page below count of d numbers at least, and p's links are those of the rule
pub record Follows (count d : ℕ) (q p : PagePointer) : Type 0 where
  pub inside : q.page_id < count
  pub page : q.page_id < none
  pub long : d ≤ q.header.length
  pub meets : end q ≡ start p
  pub rule : (i : ℕ) → i ≤ 8 → link p i ≡ cond (leb i (index (start q) (start p))) q.page_id (link q i)

abbrev pub Linked : ℕ → ℕ → PagePointer → List PagePointer → Type 0
Linked count d p [] = Unit {0}
Linked count d p (q ∷ l) = Follows count d q p × Linked count d q l

-- the pages stand in the image, as reading their headers finds it
abbrev pub Stand : (ℕ → Read) → List PagePointer → Type 0
Stand read [] = Unit {0}
Stand read (p ∷ l) = (read p.page_id ≡ readable p.header) × Stand read l

-- the last page p, whose header is at hand, and the older pages l, which stand in the image
pub record Chain (count d : ℕ) (read : ℕ → Read) (p : PagePointer) (l : List PagePointer) : Type 0 where
  pub linked : Linked count d p l
  pub stand : Stand read l

abbrev pub oldest : PagePointer → List PagePointer → PagePointer
oldest p [] = p
oldest p (q ∷ l) = oldest q l

-- the first page from the last one back that starts at or before t
unfoldable pub holder : ℕ → PagePointer → List PagePointer → PagePointer
holder t p [] = p
holder t p (q ∷ l) = cond (leb (start p) t) p (holder t q l)

-- the pages before p back to the holder of t
unfoldable pub older : ℕ → PagePointer → List PagePointer → List PagePointer
older t p [] = []
older t p (q ∷ l) = cond (leb (start p) t) [] (q ∷ older t q l)

abbrev pub ids : List PagePointer → List ℕ
ids l = map (λ (p : PagePointer). p.page_id) l

abbrev pub Among : PagePointer → PagePointer → List PagePointer → Type 0
Among x p [] = x ≡ p
Among x p (q ∷ l) = (x ≡ p) ⊎ Among x q l
