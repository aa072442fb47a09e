-- A successful mount in declarative words, by document 01, "Mount"; DECISIONS 10 and 11. Assumes nothing: these are definitions.
use Rattle.state.specs.Refusals.{Done, fine}
use Rattle.std.specs.Prelude.{◌≡◌, true, cond, ◌⊎◌, List, [], ◌∷◌, ◌++◌, ℕ, suc, ◌+◌, ◌%◌, ◌≤◌, ◌<◌, length, get_or, Some}
use Rattle.seq.specs.Ids.{none}
use Rattle.seq.specs.Seq.{limit}
use Rattle.seq.specs.Seed.{seed_after}
use Rattle.page.specs.declared.DataHeader.{DataHeader}
use Rattle.page.specs.declared.MetaHeader.{MetaHeader}
use Rattle.page.specs.Page.{readable, page_of, meta_of}
use Rattle.metalog.specs.declared.Entry.{Entry}
use Rattle.metalog.specs.declared.Files.{Files}
use Rattle.metalog.specs.Log.{ended, log_at, sound, adds, fresh}
use Rattle.map.specs.Map.{free, used, outside}
use Rattle.chain.specs.declared.PagePointer.{PagePointer}
use Rattle.chain.specs.Files.{last_of}
use Rattle.chain.specs.Steps.{read_at, at, walk, visited}
use Rattle.chain.specs.Walk.{Distinct}
use Rattle.state.specs.declared.types.FileRecord.{FileRecord}
use Rattle.state.specs.Values.{empty_record, is_empty, settled}
use Rattle.state.specs.Checks.{sizes}
use Rattle.state.specs.World.{World, Outcome}
use Rattle.volume.specs.declared.Best.{Best}
use Rattle.volume.specs.Mount.{record_of}

-- ---- the best metadata page of the first n pages

-- its header reads and its seq is above 0; no other has a higher seq, and none before it the same
pub record Wins (img : List ℕ) (n : ℕ) (b : Best) : Type 0 where
  pub inside : b.page < n
  pub reads : meta_of (page_of img b.page) ≡ Some (record { page_count = b.page_count; seq = b.seq })
  pub some : 1 ≤ b.seq
  pub most : (q : ℕ) (m : MetaHeader) → q < n → meta_of (page_of img q) ≡ Some m → m.seq ≤ b.seq
  pub lowest : (q : ℕ) (m : MetaHeader) → q < b.page → meta_of (page_of img q) ≡ Some m → m.seq < b.seq

-- ---- its log

-- each entry is one that mount takes
abbrev pub Sound : ℕ → List Entry → Type 0
Sound count [] = Unit {0}
Sound count (e ∷ es) = (sound count e ≡ true) × Sound count es

-- ---- one file, by what its last entry says

-- the last page is below page_count, its header reads, its end keeps the limit and passes first_seq, and the walk back ends at a page
pub record Live (img : List ℕ) (count p first flags : ℕ) (f : FileRecord) : Type 0 where
  pub some : p ≡ none → ⊥
  pub inside : p < count
  pub header : DataHeader
  pub reads : read_at img p ≡ readable header
  pub is : f ≡ record_of p first flags header
  pub limited : header.seq + header.length ≤ limit
  pub holds : first < header.seq + header.length
  pub end : PagePointer
  pub walks : (walk count (read_at img) first (last_of (record_of p first flags header))).ends ≡ at end

abbrev pub FileIs : List ℕ → ℕ → ℕ → ℕ → ℕ → FileRecord → Type 0
FileIs img count p first flags f = ((p ≡ none) × (f ≡ empty_record)) ⊎ Live img count p first flags f

-- the files from i on
abbrev pub FilesAre : List ℕ → ℕ → Files → ℕ → List FileRecord → Type 0
FilesAre img count e i [] = Unit {0}
FilesAre img count e i (f ∷ l) = FileIs img count (get_or e.last i 0) (get_or e.first i 0) (get_or e.flags i 0) f × FilesAre img count e (suc i) l

-- the pages that the walk of a file visits, and those of all files
unfoldable pub pages_of : List ℕ → ℕ → FileRecord → List ℕ
pages_of img count f = cond (is_empty f) [] (visited (last_of f) (walk count (read_at img) f.first_seq (last_of f)))

abbrev pub all_pages : List ℕ → ℕ → List FileRecord → List ℕ
all_pages img count [] = []
all_pages img count (f ∷ l) = pages_of img count f ++ all_pages img count l

-- ---- the map of n pages with these pages used

abbrev pub In : ℕ → List ℕ → Type 0
In q [] = ⊥
In q (p ∷ l) = (q ≡ p) ⊎ In q l

pub record MapOf (n count : ℕ) (pages map : List ℕ) : Type 0 where
  pub size : length map ≡ n
  pub beyond : (q : ℕ) → q < n → count ≤ q → get_or map q 0 ≡ outside
  pub taken : (q : ℕ) → q < count → In q pages → get_or map q 0 ≡ used
  pub others : (q : ℕ) → q < count → (In q pages → ⊥) → get_or map q 0 ≡ free

-- ---- all of it, for an image of n pages

pub record Mounted (img : List ℕ) (n : ℕ) (b : Best) (files : List FileRecord) (map : List ℕ) : Type 0 where
  pub best : Wins img n b
  pub inside : b.page < b.page_count
  pub within : b.page_count ≤ n
  pub entries : List Entry
  pub end : ℕ
  pub log : log_at img b.page ≡ ended entries end
  pub sounds : Sound b.page_count entries
  pub eight : length files ≡ 8
  pub are : FilesAre img b.page_count (adds b.page_count (fresh true) entries).files 0 files
  -- no page is on two chains, or on one twice, or on one and the metadata page
  pub distinct : Distinct (b.page ∷ all_pages img b.page_count files)
  pub marks : MapOf n b.page_count (b.page ∷ all_pages img b.page_count files) map

-- what a mount that finds these leaves
abbrev pub finds : World → Best → List FileRecord → List ℕ → Outcome Done
finds w b files map =
    let seed = seed_after w.state.seed in
    record {
      answer = fine;
      stores = [];
      map = map;
      table = record { files = files };
      state = settled (length w.map) b.page_count b.page b.seq (seed % b.page_count) seed;
    }

-- what is true of a world and what a successful mount of it leaves
pub record Succeeds (w : World) (o : Outcome Done) : Type 0 where
  pub fit : sizes (length w.image) (length w.map) ≡ true
  pub best : Best
  pub files : List FileRecord
  pub map : List ℕ
  pub mounted : Mounted w.image (length w.map) best files map
  pub is : o ≡ finds w best files map
