-- The store of pages: what mount can see of an image, page by page, and whose each page is. A device of the proofs: no reader has to
-- believe it. Assumes nothing: these are definitions.
use Rattle.std.specs.Prelude.{ℕ, ◌+◌, ◌≤◌, ◌<◌, ◌≡◌, List, [], ◌∷◌}
use Rattle.metalog.specs.Log.{Replay}

-- a link: none, or to a page
pub data Link : Type 0 where
  nil : Link
  to : ℕ → Link

-- what a page is to mount: unreadable; data with seq, length, link 0 and its bytes; metadata with seq, page_count and its log replayed
pub data Page : Type 0 where
  blank : Page
  dat : ℕ → ℕ → Link → List ℕ → Page
  met : ℕ → ℕ → Replay → Page

abbrev pub Store : Type 0
Store = ℕ → Page

-- by a decided test
abbrev pub pick : {A : Type 0} {B : Type 0} → Dec B → A → A → A
pick (yes _) a b = a
pick (no _) a b = b

-- the table's file: empty, or its last page, first_seq, last_seq, flags
pub data File : Type 0 where
  gone : File
  live : ℕ → ℕ → ℕ → ℕ → File

-- the greatest sequence number
abbrev pub limit : ℕ
limit = 4294967294

-- a readable header's length
abbrev pub Len : ℕ → Type 0
Len n = (1 ≤ n) × (n ≤ 224)

-- who has a page
pub data Owner : Type 0 where
  free held meta writer outside : Owner
  file : ℕ → Owner

-- membership, so that a list of pages can be matched on
pub data Mem (x : ℕ) : List ℕ → Type 0 where
  here : {l : List ℕ} → Mem x (x ∷ l)
  there : {y : ℕ} {l : List ℕ} → Mem x l → Mem x (y ∷ l)

-- mount's walk from page p back to the page of first: the pages it visits, in order. It stops at seq ≤ first or at a link of none
pub data Walk (s : Store) (pc first : ℕ) : ℕ → List ℕ → Type 0 where
  stop : {p q n : ℕ} {x : List ℕ} {k : Link} → s p ≡ dat q n k x → q ≤ first → Walk s pc first p (p ∷ [])
  root : {p q n : ℕ} {x : List ℕ} → s p ≡ dat q n nil x → first < q → Walk s pc first p (p ∷ [])
  step : {p q n : ℕ} {x : List ℕ} {p' q' n' : ℕ} {x' : List ℕ} {k' : Link} {l : List ℕ} →
      s p ≡ dat q n (to p') x → first < q → p' < pc → s p' ≡ dat q' n' k' x' → q' < q → Walk s pc first p' l → Walk s pc first p (p ∷ l)

-- a file of the table stands on the store, on these pages
pub data FileOk (s : Store) (pc : ℕ) : File → List ℕ → Type 0 where
  empty : FileOk s pc gone []
  full : {p first q n : ℕ} {x : List ℕ} {flags : ℕ} {k : Link} {l : List ℕ} →
      p < pc → s p ≡ dat q n k x → Len n → first < q + n → q + n ≤ limit → Walk s pc first p l → FileOk s pc (live p first (q + n) flags) l

-- and these pages are those that own gives to file i
pub record FileAt (s : Store) (pc : ℕ) (f : File) (own : ℕ → Owner) (i : ℕ) : Type 0 where
  pub pages : List ℕ
  pub ok : FileOk s pc f pages
  pub mine : (p : ℕ) → Mem p pages → own p ≡ file i
  pub all : (p : ℕ) → own p ≡ file i → Mem p pages
