-- What the code's structs say of a step and of a seek, and what is right of a seek. Assumes nothing: these are definitions.
use Rattle.std.specs.Prelude.{◌≡◌, Bool, true, false, Option, Some, None, List, [], ◌∷◌, ℕ, ◌+◌, ◌≤◌, ◌<◌, length}
use Rattle.seq.specs.Seq.{multiples}
use Rattle.page.specs.Page.{Read}
use Rattle.chain.specs.declared.PagePointer.{PagePointer}
use Rattle.chain.specs.declared.Step.{Step}
use Rattle.chain.specs.declared.Step.TheVariants.{Stays, Reaches, Breaks}
use Rattle.chain.specs.declared.Found.{Found}
use Rattle.chain.specs.Links.{start, end, Among}
use Rattle.chain.specs.Steps.{Stepped, stays, reaches, breaks, Sought, damaged, at, Trace, seek, walk}

-- where a step ends
abbrev pub told : Stepped → Step PagePointer
told stays = Stays
told (reaches q) = Reaches q
told breaks = Breaks

-- the page that a seek ends at with the headers read on the way, if it ends at one
abbrev pub located_by : ℕ → Sought → Option Found
located_by n damaged = None
located_by n (at q) = Some (record { count = n; page = q })

abbrev pub located : Trace → Option Found
located t = located_by (length t.path) t.ends

-- the same with a page at hand in any case: a damaged one gives the page that it began at, and 0
pub record Ending : Type 0 where
  pub ok : Bool
  pub count : ℕ
  pub page : PagePointer

abbrev pub found_by : PagePointer → ℕ → Sought → Ending
found_by p n damaged = record { ok = false; count = 0; page = p }
found_by p n (at q) = record { ok = true; count = n; page = q }

abbrev pub found : PagePointer → Trace → Ending
found p t = found_by p (length t.path) t.ends

-- two images agree on the headers of some pages
abbrev pub Agree : (ℕ → Read) → (ℕ → Read) → List ℕ → Type 0
Agree read other [] = Unit {0}
Agree read other (j ∷ l) = (other j ≡ read j) × Agree read other l

-- what a seek of t from p over the older pages l finds: the one page of the chain that holds t, which stepping back page by page finds too
pub record Right (count : ℕ) (read : ℕ → Read) (t : ℕ) (p : PagePointer) (l : List PagePointer) (q : PagePointer) : Type 0 where
  pub sought : (seek count read t p).ends ≡ at q
  pub stepped : (walk count read t p).ends ≡ at q
  pub among : Among q p l
  pub holds : (start q ≤ t) × (t < end q)
  pub only : (x : PagePointer) → Among x p l → start x ≤ t → t < end x → x ≡ q

-- the most headers that it reads from a page that starts at s, where all pages but the last are full
abbrev pub most : ℕ → ℕ → ℕ
most t s = 9 + multiples 32768 t s
