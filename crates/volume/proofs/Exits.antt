-- What the exits of the code's parts come to, over plain values. Assumes nothing.
use mathlib.Core.Path.{◌≡◌, refl, sym, ap, ◌∙◌}
use mathlib.Core.Bool.{Bool, true, false, cond, ◌&&◌, and-false}
use mathlib.Core.List.{List, [], ◌∷◌, ◌++◌, append_assoc, append-nil}
use Prim.Native.Nat.{ℕ, suc, ◌+◌, ◌-◌, ◌≤◌, ◌<◌}
use native.Mathlib.Omega.{arith}
use native.Mathlib.Numerals.{add-one}
use borrow.Author.Tests.{eq-eqb, ne_eqb, le-leb, lt-leb, lt-ltb, le-ltb, leb-true, ltb-true}
use lib.Dec.{leb, ltb}
use lib.ListN.{length, get_or, set, take}
use lib.Seq.{take-suc-set, take_all}
use Rattle.seq.specs.Ids.{none}
use Rattle.seq.specs.Seq.{limit}
use Rattle.std.specs.Prelude.{Some, None}
use Rattle.page.specs.declared.DataHeader.{DataHeader}
use Rattle.page.specs.Page.{readable, gives}
use Rattle.page.proofs.Headers.{given_read, given_none}
use Rattle.metalog.specs.declared.Files.{Files}
use Rattle.metalog.specs.Log.{Replay, replay_of, taken}
use Rattle.map.specs.Map.{cleared, used}
use Rattle.state.specs.declared.types.FileRecord.{FileRecord}
use Rattle.state.specs.Values.{empty_record}
use Rattle.state.proofs.Laws.{both}
use Rattle.chain.specs.Files.{last_of}
use Rattle.chain.specs.Steps.{read_at, walk}
use Rattle.volume.specs.declared.Best.{Best}
use Rattle.state.specs.declared.types.Table.{Table}
use Rattle.volume.specs.Mount.{Maybe, bad, good, bind, Loaded, claimed, record_of, load, LoadedAll, load_from, best_ok, mount_read, mount_from}
use Rattle.volume.specs.Loads.{all_as}

-- ---- one file

module _ (img : List ℕ) (count : ℕ) (m : List ℕ) (p first flags : ℕ) where
  pub load_none : p ≡ none → good (record { file = empty_record; map = m }) ≡ load img count m p first flags
  unfolding load
  load_none e = rw (eq-eqb p none e)

  -- a file whose last header reads and whose numbers are in range is what its walk claims
  pub load_live : (p ≡ none → ⊥) → (h : DataHeader) → read_at img p ≡ readable h → h.seq + h.length ≤ limit → first < h.seq + h.length
      → let f = record_of p first flags h in
      let t = walk count (read_at img) first (last_of f) in
      load img count m p first flags ≡ bind (claimed m (last_of f) t t.ends) (λ m'. good (record { file = f; map = m' }))
  unfolding load
  load_live some h e l k = rw (ne_eqb p none some, e, le-leb (h.seq + h.length) limit l, lt-ltb first (h.seq + h.length) k)

  pub load_empty : p ≡ none → load img count m p first flags ≡ good (record { file = empty_record; map = m })
  load_empty e = sym (load_none e)

  module _ (some : p ≡ none → ⊥) where
    pub load_unread : None ≡ gives (read_at img p) → load img count m p first flags ≡ bad
    unfolding load
    load_unread e = rw (ne_eqb p none some, given_none None (read_at img p) e refl)

    module _ (h : DataHeader) (reads : Some h ≡ gives (read_at img p)) where
      is : read_at img p ≡ readable h
      is = given_read (Some h) (read_at img p) h reads refl

      pub load_past : limit < h.seq + h.length → load img count m p first flags ≡ bad
      unfolding load
      load_past o = rw (ne_eqb p none some, is, lt-leb (h.seq + h.length) limit o)

      pub load_over : h.seq + h.length ≤ first → load img count m p first flags ≡ bad
      unfolding load
      load_over o = rw (ne_eqb p none some, is, le-ltb first (h.seq + h.length) o, and-false (leb (h.seq + h.length) limit))

      -- the walk claims its pages, or not
      pub load_claimed : (m' : List ℕ) → h.seq + h.length ≤ limit → first < h.seq + h.length
          → let f = record_of p first flags h in
          let t = walk count (read_at img) first (last_of f) in
          good m' ≡ claimed m (last_of f) t t.ends → load img count m p first flags ≡ good (record { file = f; map = m' })
      load_claimed m' o k e = load_live some h is o k ∙ rw (← e)

      pub load_unclaimed : h.seq + h.length ≤ limit → first < h.seq + h.length
          → let f = record_of p first flags h in
          let t = walk count (read_at img) first (last_of f) in
          bad ≡ claimed m (last_of f) t t.ends → load img count m p first flags ≡ bad
      load_unclaimed o k e = load_live some h is o k ∙ rw (← e)

-- ---- all files

-- files in front of those that are loaded
abbrev pub behind : List FileRecord → Maybe LoadedAll → Maybe LoadedAll
behind l bad = bad
behind l (good x) = good (record { files = l ++ x.files; map = x.map })

behind_one : (l : List FileRecord) (f : FileRecord) (y : Maybe LoadedAll)
    → behind l (bind y (λ y. good (record { files = f ∷ y.files; map = y.map }))) ≡ behind (l ++ f ∷ []) y
behind_one l f bad = refl
behind_one l f (good y) = rw (append_assoc l (f ∷ []) y.files)

pub behind_none : (y : Maybe LoadedAll) → behind [] y ≡ y
behind_none bad = refl
behind_none (good y) = refl

module _ (img : List ℕ) (count : ℕ) (f : Files) where
  -- file i as its entry says
  abbrev pub load_at : ℕ → List ℕ → Maybe Loaded
  load_at i m = load img count m (get_or f.last i 0) (get_or f.first i 0) (get_or f.flags i 0)

  from_first : (i k : ℕ) (m : List ℕ) → i < k → load_from img count f i (k - i) m
      ≡ bind (load_at i m) (λ x. bind (load_from img count f (i + 1) (k - (i + 1)) x.map) (λ y. good (record { files = x.file ∷ y.files; map = y.map })))
  unfolding load_from
  from_first i k m h = let e : k - i ≡ suc (k - (i + 1)) = omega arith in rw (e, add-one i)

  -- the files before i in front of what the others give
  unfoldable pub so_far : ℕ → List FileRecord → List ℕ → Maybe LoadedAll
  so_far i files m = behind (take i files) (load_from img count f i (8 - i) m)

  pub so_far_none : (files : List FileRecord) (m : List ℕ) → so_far 0 files m ≡ load_from img count f 0 8 m
  unfolding so_far
  so_far_none files m = behind_none (load_from img count f 0 8 m)

  module _ (i : ℕ) (files : List FileRecord) (m : List ℕ) (below : i < 8) where
    -- a file that is damaged
    pub so_far_bad : bad ≡ load_at i m → so_far i files m ≡ bad
    unfolding so_far
    so_far_bad e = rw (from_first i 8 m below, sym e)

    -- one that loads
    pub so_far_more : (g : FileRecord) (m' : List ℕ) → good (record { file = g; map = m' }) ≡ load_at i m → length files ≡ 8
        → so_far (i + 1) (set files i g) m' ≡ so_far i files m
    unfolding so_far
    so_far_more g m' e n =
        let l : i < length files = omega arith in
        let rest = load_from img count f (i + 1) (8 - (i + 1)) m' in
        let t : take (i + 1) (set files i g) ≡ take i files ++ g ∷ [] = rw (add-one i) (take-suc-set files i g l) in
        rw t (sym (behind_one (take i files) g rest) ∙ sym (rw (from_first i 8 m below, sym e)))

  pub so_far_all : (i : ℕ) (files : List FileRecord) (m : List ℕ) → i ≡ 8 → length files ≡ 8 → so_far i files m ≡ good (record { files = files; map = m })
  unfolding so_far load_from
  so_far_all i files m e n = rw (e, take_all 8 files (omega arith), append-nil files)

-- ---- from the best metadata page

taken_none : (r : Replay) → None ≡ taken r → r.ok ≡ false
taken_none r e = by r.ok refl e
  where
    by : (t : Bool) → r.ok ≡ t → None ≡ cond t (Some r.files) None → r.ok ≡ false
    by true h e = cc
    by false h e = h

taken_some : (r : Replay) (f : Files) → Some f ≡ taken r → (r.ok ≡ true) × (f ≡ r.files)
taken_some r f e = by r.ok refl e
  where
    by : (t : Bool) → r.ok ≡ t → Some f ≡ cond t (Some r.files) None → (r.ok ≡ true) × (f ≡ r.files)
    by true h e = (h, cc)
    by false h e = cc

module _ (img : List ℕ) (n : ℕ) (b : Best) where
  pub from_no_best : best_ok n b ≡ false → bad ≡ mount_from img n b
  unfolding mount_from
  from_no_best e = rw e

  module _ (best : best_ok n b ≡ true) where
    module _ (r : Replay) (is : r ≡ replay_of b.page_count img b.page) where
      from_read : mount_from img n b ≡ mount_read img n b r
      unfolding mount_from
      from_read = rw (best, sym is)

      pub from_no_log : r.ok ≡ false → bad ≡ mount_from img n b
      from_no_log e = sym (from_read ∙ rw e)

      pub from_log : r.ok ≡ true
          → load_from img b.page_count r.files 0 8 (set (cleared n b.page_count) b.page used) ≡ mount_from img n b
      from_log e = sym (from_read ∙ rw e)

    -- by what the code has of the log
    pub from_none : None ≡ taken (replay_of b.page_count img b.page) → bad ≡ mount_from img n b
    from_none e = from_no_log (replay_of b.page_count img b.page) refl (taken_none _ e)

    pub from_files : (f : Files) → Some f ≡ taken (replay_of b.page_count img b.page)
        → load_from img b.page_count f 0 8 (set (cleared n b.page_count) b.page used) ≡ mount_from img n b
    from_files f e =
        let t = taken_some (replay_of b.page_count img b.page) f e in
        ap (λ (f : Files). load_from img b.page_count f 0 8 (set (cleared n b.page_count) b.page used)) t.1
        ∙ from_log (replay_of b.page_count img b.page) refl t.0

  -- a mount that succeeds had a best page
  pub record Chosen : Type 0 where
    pub some : 1 ≤ b.seq
    pub inside : b.page < b.page_count
    pub within : b.page_count ≤ n

  pub chosen : best_ok n b ≡ true → Chosen
  unfolding best_ok
  chosen h =
      let x = both (leb 1 b.seq && ltb b.page b.page_count) (leb b.page_count n) h in
      let y = both (leb 1 b.seq) (ltb b.page b.page_count) x.0 in
      record { some = leb-true _ _ y.0; inside = ltb-true _ _ y.1; within = leb-true _ _ x.1 }

  pub from_good_best : (x : LoadedAll) → mount_from img n b ≡ good x → best_ok n b ≡ true
  unfolding mount_from
  from_good_best x e = by (best_ok n b) refl
    where
      by : (t : Bool) → best_ok n b ≡ t → best_ok n b ≡ true
      by true h = h
      by false h = let y : bad ≡ good x = from_no_best h ∙ e in cc

  -- and so did one of which the code has all files
  pub all_chosen : (t : Table) (m : List ℕ) → all_as (Some t) m ≡ mount_from img n b → Chosen
  all_chosen t m e = chosen (from_good_best _ (sym e))
