-- Stores, by document 01, "Layout": erase one page to 0xFF, or program one run over erased bytes.
-- Assumes nothing.
use Rattle.std.specs.Prelude.{ℕ, ◌+◌, ◌*◌, ◌/◌, ◌≤◌, ◌<◌, ◌≡◌, List, [], ◌∷◌, cond, ◌&&◌, length, replicate, leb, ltb}
use Rattle.runs.specs.Runs.{part, splice}
use Rattle.page.specs.declared.DataHeader.{DataHeader}
use Rattle.page.specs.declared.MetaHeader.{MetaHeader}
use Rattle.page.specs.Page.{page_of, header_bytes, meta_bytes}

-- a page; a page, an offset in it and a run
pub data Store : Type 0 where
  erase : ℕ → Store
  program : ℕ → ℕ → List ℕ → Store

-- its page, its offset there and its run: an erase stores a whole page of 0xFF
abbrev pub page_at : Store → ℕ
page_at (erase p) = p
page_at (program p off run) = p

abbrev pub off_at : Store → ℕ
off_at (erase p) = 0
off_at (program p off run) = off

abbrev pub run_at : Store → List ℕ
run_at (erase p) = replicate 256 255
run_at (program p off run) = run

-- one store made; nothing where the image has no such page, or the run passes the page's end
unfoldable pub stored : List ℕ → Store → List ℕ
stored img s =
    cond (ltb (page_at s) (length img / 256) && leb (off_at s + length (run_at s)) 256)
    (splice img (page_at s * 256 + off_at s) (run_at s))
    img

-- one after the other
abbrev pub ran : List ℕ → List Store → List ℕ
ran img [] = img
ran img (s ∷ l) = ran (stored img s) l

-- a data page: erase, payload, header
abbrev pub data_stores : ℕ → DataHeader → List ℕ → List Store
data_stores p h pay = erase p ∷ program p 32 pay ∷ program p 0 (header_bytes h) ∷ []

-- a metadata page's header
abbrev pub meta_store : ℕ → MetaHeader → Store
meta_store p m = program p 0 (meta_bytes m)

-- ---- what every store of a call keeps to

-- a run inside a page of the image, over erased bytes
pub record Programs (img : List ℕ) (p off : ℕ) (run : List ℕ) : Type 0 where
  pub inside : p < length img / 256
  pub within : off + length run ≤ 256
  pub blank : part (page_of img p) off (length run) ≡ replicate (length run) 255

-- the store's page is in the image, and it programs only erased bytes of that page
abbrev pub Clean : List ℕ → Store → Type 0
Clean img (erase p) = p < length img / 256
Clean img (program p off run) = Programs img p off run

-- each on the image that those before it leave
abbrev pub Cleans : List ℕ → List Store → Type 0
Cleans img [] = Unit {0}
Cleans img (s ∷ l) = Clean img s × Cleans (stored img s) l
