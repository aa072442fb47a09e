-- What a writer's pages hold, and how its writer stands behind them. Assumes nothing: these are definitions.
use Rattle.std.specs.Prelude.{ℕ, ◌*◌, ◌≤◌, ◌<◌, ◌≡◌, List, [], ◌∷◌, ◌++◌, length, take, drop, get_or}
use Rattle.seq.specs.Ids.{none}
use Rattle.page.specs.Page.{readable, page_of, payload_of, Written}
use Rattle.map.specs.Map.{free}
use Rattle.chain.specs.declared.PagePointer.{PagePointer}
use Rattle.chain.specs.Links.{end, Chain, ids}
use Rattle.chain.specs.Steps.{read_at}
use Rattle.chain.specs.Walk.{Each}
use Rattle.state.specs.declared.types.Writer.{Writer}
use Rattle.writer.specs.Staging.{previous_of}
use Rattle.writer.specs.Finish.{marked, freed}
use Rattle.writer.specs.Inner.{Made}

-- the bytes of pages, newest first, in the order of their numbers
abbrev pub payloads : List ℕ → List PagePointer → List ℕ
payloads img [] = []
payloads img (p ∷ l) = payloads img l ++ payload_of (page_of img p.page_id)

-- the page q is the last of a chain with the older pages l, which stand in the image, and x writes right behind it
pub record After (count d : ℕ) (img : List ℕ) (x : Writer) (q : PagePointer) (l : List PagePointer) : Type 0 where
  pub is : previous_of x ≡ q
  pub chain : Chain count d (read_at img) q l
  pub stands : read_at img q.page_id ≡ readable q.header
  pub meets : end q ≡ x.seq
  pub inside : q.page_id < count
  pub long : d ≤ q.header.length
  pub written : Written q.header

abbrev pub Trails : ℕ → ℕ → List ℕ → Writer → List PagePointer → Type 0
Trails count d img x [] = x.previous ≡ none
Trails count d img x (q ∷ l) = After count d img x q l

-- a page is taken, and none of these pages
pub record Apart (count : ℕ) (map : List ℕ) (p : ℕ) (l : List PagePointer) : Type 0 where
  pub inside : p < count
  pub taken : get_or map p 1 ≡ 0 → ⊥
  pub apart : Each (λ j. j ≡ p → ⊥) (ids l)

-- the pages behind x and its staged page hold these bytes, and no page of them is free
pub record Holds (count d : ℕ) (z : Made) (l : List PagePointer) (b : List ℕ) : Type 0 where
  pub room : count ≤ 1024
  pub image : count * 256 ≤ length z.image
  pub trails : Trails count d z.image z.writer l
  pub taken : Each (λ j. get_or z.map j 1 ≡ 0 → ⊥) (ids l)
  pub staged : (z.writer.page ≡ none → ⊥) → Apart count z.map z.writer.page l
  pub idle : z.writer.page ≡ none → z.writer.length ≡ 0
  pub array : length z.writer.staged ≡ 224
  pub bytes : payloads z.image l ++ take z.writer.length z.writer.staged ≡ b

-- of the pages behind x, those that it stored come before the base, which was there when it was opened; and with them and its staged
-- page freed the map is as it was then
pub record Undoes (old : List PagePointer) (was map : List ℕ) (x : Writer) (l : List PagePointer) : Type 0 where
  pub base : drop x.stored l ≡ old
  pub most : x.stored ≤ length l
  pub undo : marked (freed map (ids (take x.stored l))) x.page free ≡ was
