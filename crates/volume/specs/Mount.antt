-- Mount, by document 01, "Mount"; DECISIONS 10 and 11. Assumes nothing: these are definitions.
use Rattle.state.specs.Refusals.{Done, fine}
use Rattle.std.specs.Prelude.{ℕ, zero, suc, ◌+◌, ◌%◌, Bool, false, cond, ◌&&◌, List, [], ◌∷◌, eqb, leb, ltb, length, get_or, set, replicate, Err}
use Rattle.seq.specs.Ids.{none}
use Rattle.seq.specs.Seq.{limit}
use Rattle.seq.specs.Seed.{seed_after}
use Rattle.page.specs.declared.DataHeader.{DataHeader}
use Rattle.page.specs.Page.{Read, unreadable, readable}
use Rattle.metalog.specs.declared.Files.{Files}
use Rattle.metalog.specs.Log.{Replay, replay_of}
use Rattle.map.specs.Map.{cleared, used}
use Rattle.chain.specs.declared.PagePointer.{PagePointer}
use Rattle.chain.specs.Files.{last_of}
use Rattle.chain.specs.Steps.{read_at, Sought, damaged, at, Trace, walk, visited}
use Rattle.state.specs.declared.types.FileRecord.{FileRecord}
use Rattle.state.specs.declared.types.Refusal.TheVariants.{BadSize, Damaged}
use Rattle.state.specs.Values.{empty_record, unmounted, settled}
use Rattle.state.specs.Checks.{sizes}
use Rattle.state.specs.World.{World, Outcome, refuse}
use Rattle.volume.specs.declared.Best.{Best}
use Rattle.volume.specs.Scan.{scan}

-- found, or Damaged
pub data Maybe (A : Type 0) : Type 0 where
  bad : Maybe A
  good : A → Maybe A

abbrev pub bind : {A B : Type 0} → Maybe A → (A → Maybe B) → Maybe B
bind bad f = bad
bind (good a) f = f a

-- ---- one file

-- a record and the map with its pages used
pub record Loaded : Type 0 where
  pub file : FileRecord
  pub map : List ℕ

-- every page of a walk is free and none comes twice, and then is used: a page on two chains, or on one and the metadata page, is Damaged
unfoldable pub claim : List ℕ → List ℕ → Maybe (List ℕ)
claim m [] = good m
claim m (p ∷ l) = cond (eqb (get_or m p 0) 0) (claim (set m p used) l) bad

abbrev pub claimed : List ℕ → PagePointer → Trace → Sought → Maybe (List ℕ)
claimed m p t damaged = bad
claimed m p t (at q) = claim m (visited p t)

abbrev pub record_of : ℕ → ℕ → ℕ → DataHeader → FileRecord
record_of p first flags h =
    record { dirty = false; last_page = p; header = h; first_seq = first; last_seq = h.seq + h.length; flags = flags }

-- the last header reads, its end keeps the limit and passes first_seq, and the walk back claims its pages
abbrev pub loaded_by : List ℕ → ℕ → List ℕ → ℕ → ℕ → ℕ → Read → Maybe Loaded
loaded_by img count m p first flags unreadable = bad
loaded_by img count m p first flags (readable h) =
    let f = record_of p first flags h in
    let t = walk count (read_at img) first (last_of f) in
    cond (leb f.last_seq limit && ltb first f.last_seq)
    (bind (claimed m (last_of f) t t.ends) (λ m'. good (record { file = f; map = m' })))
    bad

unfoldable pub load : List ℕ → ℕ → List ℕ → ℕ → ℕ → ℕ → Maybe Loaded
load img count m p first flags =
    cond (eqb p none) (good (record { file = empty_record; map = m })) (loaded_by img count m p first flags (read_at img p))

-- ---- all eight, in order

pub record LoadedAll : Type 0 where
  pub files : List FileRecord
  pub map : List ℕ

-- of the n files from i on
unfoldable pub load_from : List ℕ → ℕ → Files → ℕ → ℕ → List ℕ → Maybe LoadedAll
load_from img count f i zero m = good (record { files = []; map = m })
load_from img count f i (suc n) m =
    bind (load img count m (get_or f.last i 0) (get_or f.first i 0) (get_or f.flags i 0))
    (λ x. bind (load_from img count f (suc i) n x.map) (λ y. good (record { files = x.file ∷ y.files; map = y.map })))

-- ---- mount from the best metadata page of an image of n pages

-- one was found, and its page_count is 1 to n and above its id
unfoldable pub best_ok : ℕ → Best → Bool
best_ok n b = leb 1 b.seq && ltb b.page b.page_count && leb b.page_count n

abbrev pub mount_read : List ℕ → ℕ → Best → Replay → Maybe LoadedAll
mount_read img n b r =
    cond r.ok (load_from img b.page_count r.files 0 8 (set (cleared n b.page_count) b.page used)) bad

unfoldable pub mount_from : List ℕ → ℕ → Best → Maybe LoadedAll
mount_from img n b = cond (best_ok n b) (mount_read img n b (replay_of b.page_count img b.page)) bad

-- ---- the call

-- Damaged leaves the state unmounted, the map all zero, and seed and table as they were
abbrev pub mounted_as : World → ℕ → ℕ → Best → Maybe LoadedAll → Outcome Done
mounted_as w n seed b bad =
    record { answer = Err Damaged; stores = []; map = replicate n 0; table = w.table; state = unmounted w.state.seed }
mounted_as w n seed b (good x) =
    record {
      answer = fine;
      stores = [];
      map = x.map;
      table = record { files = x.files };
      state = settled n b.page_count b.page b.seq (seed % b.page_count) seed;
    }

-- from a best page, where the sizes fit
unfoldable pub mount_best : World → Best → Outcome Done
mount_best w b = mounted_as w (length w.map) (seed_after w.state.seed) b (mount_from w.image (length w.map) b)

-- from the best page found by whatever scan
unfoldable pub mount_with : World → Best → Outcome Done
mount_with w b = cond (sizes (length w.image) (length w.map)) (mount_best w b) (refuse w BadSize)

-- from the best page of the image
unfoldable pub mount : World → Outcome Done
mount w = mount_with w (scan w.image (length w.map))
