-- What a walk back visits, on any image. Assumes nothing: these are definitions.
use Rattle.std.specs.Prelude.{◌≡◌, List, [], ◌∷◌, ◌⊎◌, ℕ, ◌≤◌, ◌<◌}
use Rattle.seq.specs.Ids.{none}
use Rattle.page.specs.Page.{Read, readable}
use Rattle.chain.specs.declared.PagePointer.{PagePointer}
use Rattle.chain.specs.Links.{start, link, oldest, ids}
use Rattle.chain.specs.Steps.{at, walk}

-- each is so
abbrev pub Each : (ℕ → Type 0) → List ℕ → Type 0
Each P [] = Unit {0}
Each P (j ∷ l) = P j × Each P l

-- no two are the same
abbrev pub Distinct : List ℕ → Type 0
Distinct [] = Unit {0}
Distinct (j ∷ l) = Each (λ k. k ≡ j → ⊥) l × Distinct l

-- a step from p, which starts above t, to q: a page below count that stands in the image and starts before p
pub record Onward (count : ℕ) (read : ℕ → Read) (t : ℕ) (p q : PagePointer) : Type 0 where
  pub above : t < start p
  pub falls : start q < start p
  pub inside : q.page_id < count
  pub page : q.page_id ≡ none → ⊥
  pub stands : read q.page_id ≡ readable q.header

-- such steps from p over the pages l
abbrev pub Back : ℕ → (ℕ → Read) → ℕ → PagePointer → List PagePointer → Type 0
Back count read t p [] = Unit {0}
Back count read t p (q ∷ l) = Onward count read t p q × Back count read t q l

-- what a walk back to t that ends at a page visits after p: it stops at seq ≤ t or at a link of none, and reads no page twice
pub record Visits (count : ℕ) (read : ℕ → Read) (t : ℕ) (p : PagePointer) : Type 0 where
  pub pages : List PagePointer
  pub is : walk count read t p ≡ record { path = ids pages; ends = at (oldest p pages) }
  pub back : Back count read t p pages
  pub stops : (start (oldest p pages) ≤ t) ⊎ (link (oldest p pages) 0 ≡ none)
  pub distinct : Distinct (ids pages)
