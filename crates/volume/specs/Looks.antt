-- What of an image mount looks at, by document 01, "Mount": each page's metadata header, the log of the best one, and the headers of
-- the files' pages. Assumes nothing: these are definitions.
use Rattle.std.specs.Prelude.{◌≡◌, cond, ◌&&◌, List, [], ◌∷◌, ◌++◌, ℕ, zero, suc, ◌+◌, ◌<◌, eqb, leb, ltb, length, get_or, set}
use Rattle.seq.specs.Ids.{none}
use Rattle.seq.specs.Seq.{limit}
use Rattle.page.specs.Page.{Read, unreadable, readable, page_of, meta_of}
use Rattle.metalog.specs.declared.Files.{Files}
use Rattle.metalog.specs.Log.{area_of, replay_of}
use Rattle.map.specs.Map.{cleared, used}
use Rattle.chain.specs.Files.{last_of}
use Rattle.chain.specs.Steps.{read_at, walk}
use Rattle.chain.specs.Seek.{Agree}
use Rattle.volume.specs.declared.Best.{Best}
use Rattle.volume.specs.Scan.{scan}
use Rattle.volume.specs.Mount.{Maybe, bad, good, Loaded, record_of, load}

-- the pages of one file whose headers are read: the last one and, where its numbers are in range, those of the walk back
abbrev pub looked_by : List ℕ → ℕ → ℕ → ℕ → ℕ → Read → List ℕ
looked_by img count p first flags unreadable = []
looked_by img count p first flags (readable h) =
    cond (leb (h.seq + h.length) limit && ltb first (h.seq + h.length)) (walk count (read_at img) first (last_of (record_of p first flags h))).path []

abbrev pub looked : List ℕ → ℕ → ℕ → ℕ → ℕ → List ℕ
looked img count p first flags = cond (eqb p none) [] (p ∷ looked_by img count p first flags (read_at img p))

-- of the n files from i on, as far as they load
abbrev pub after : Maybe Loaded → (List ℕ → List ℕ) → List ℕ
after bad rest = []
after (good x) rest = rest x.map

unfoldable pub looked_from : List ℕ → ℕ → Files → ℕ → ℕ → List ℕ → List ℕ
looked_from img count f i zero m = []
looked_from img count f i (suc n) m =
    looked img count (get_or f.last i 0) (get_or f.first i 0) (get_or f.flags i 0)
    ++ after (load img count m (get_or f.last i 0) (get_or f.first i 0) (get_or f.flags i 0)) (λ m. looked_from img count f (suc i) n m)

-- from a best page of an image of n pages
abbrev pub looked_all : List ℕ → ℕ → Best → List ℕ
looked_all img n b =
    looked_from img b.page_count (replay_of b.page_count img b.page).files 0 8 (set (cleared n b.page_count) b.page used)

-- two images of n pages that agree on all of it
pub record SameLook (n : ℕ) (img img' : List ℕ) : Type 0 where
  pub size : length img' ≡ length img
  pub metas : (q : ℕ) → q < n → meta_of (page_of img' q) ≡ meta_of (page_of img q)
  pub log : area_of img' (scan img n).page ≡ area_of img (scan img n).page
  pub headers : Agree (read_at img) (read_at img') (looked_all img n (scan img n))
