-- Mount in declarative words, both ways, and mounting again. Assumes nothing.
use Rattle.state.specs.Refusals.{Done, fine}
use mathlib.Core.Path.{◌≡◌, refl, sym, ap, ◌∙◌, subst}
use mathlib.Core.Bool.{Bool, true, false, cond}
use mathlib.Core.List.{List}
use Prim.Native.Nat.{ℕ, ◌≤◌, ◌<◌}
use native.Mathlib.Omega.{arith}
use borrow.Author.Tests.{le-leb, lt-ltb}
use lib.ListN.{length, set}
use Rattle.seq.specs.Seed.{seed_after}
use Rattle.metalog.specs.Log.{Replay, adds, fresh, replay_of}
use Rattle.metalog.proofs.Table.{replay_good, replay_ended, adds_good}
use Rattle.map.specs.Map.{cleared, used}
use Rattle.state.specs.declared.types.Table.{Table}
use Rattle.state.specs.declared.types.State.{State}
use Rattle.state.specs.declared.types.FileRecord.{FileRecord}
use Rattle.state.specs.declared.types.Refusal.TheVariants.{BadSize}
use Rattle.state.specs.Values.{settled}
use Rattle.state.specs.Checks.{sizes}
use Rattle.state.specs.World.{World, Outcome, before, after_call, refuse}
use Rattle.volume.specs.declared.Best.{Best}
use Rattle.volume.specs.Scan.{scan}
use Rattle.volume.specs.Mount.{Maybe, bad, good, LoadedAll, load_from, best_ok, mount_from, mounted_as, mount_best, mount_with, mount}
use Rattle.volume.specs.Mounted.{Wins, all_pages, Mounted, finds, Succeeds}
use Rattle.volume.proofs.Scans.{scan_wins, wins_scan}
use Rattle.volume.proofs.Marks.{each_map, marks_say, marks_are}
use Rattle.volume.proofs.Loaded.{from_says, from_is, all_inside, inside_adds, inside_none, sound_sounds, sounds_sound}
use Rattle.volume.proofs.Exits.{chosen, from_no_log, from_log, from_good_best}

-- ---- from the best page

module _ (img : List ℕ) (n : ℕ) (b : Best) where
  abbrev count : ℕ
  count = b.page_count

  abbrev start : List ℕ
  start = set (cleared n count) b.page used

  replay_ok : (x : LoadedAll) → mount_from img n b ≡ good x → (replay_of count img b.page).ok ≡ true
  replay_ok x e = by (replay_of count img b.page).ok refl
    where
      by : (t : Bool) → (replay_of count img b.page).ok ≡ t → (replay_of count img b.page).ok ≡ true
      by true h = h
      by false h = let z : bad ≡ good x = from_no_log img n b (from_good_best img n b x e) _ refl h ∙ e in cc

  -- what mounts is mounted
  pub from_mounted : Wins img n b → (x : LoadedAll) → mount_from img n b ≡ good x → Mounted img n b x.files x.map
  from_mounted w x e =
      let best = from_good_best img n b x e in
      let c = chosen img n b best in
      let ok = replay_ok x e in
      let r = replay_good count img b.page ok in
      let f = (adds count (fresh true) r.list).files in
      let s = sounds_sound count r.list r.sounds in
      let l : load_from img count f 0 8 start ≡ good x =
      rw (replay_ended count img b.page r.list r.end r.is) at (from_log img n b best (replay_of count img b.page) refl ok ∙ e) in
      let a = from_says img count f (inside_adds img count (fresh true) r.list s (inside_none img count)) 0 8 start (omega arith) x l in
      let below = each_map (λ q. q < count) (λ q. q < n) (λ q h. omega (arith, c.within)) (all_pages img count x.files) (all_inside img count f 0 x.files a.0) in
      let m = marks_say n count b.page c.inside c.within (all_pages img count x.files) x.map below a.2 in
      record {
        best = w;
        inside = c.inside;
        within = c.within;
        entries = r.list;
        end = r.end;
        log = r.is;
        sounds = s;
        eight = a.1;
        are = a.0;
        distinct = m.0;
        marks = m.1;
      }

  best_ok_lem : Wins img n b → b.page < count → count ≤ n → best_ok n b ≡ true
  unfolding best_ok
  best_ok_lem w h k = rw (le-leb 1 b.seq w.some, lt-ltb b.page count h, le-leb count n k)

  -- what is mounted mounts
  pub mounted_from : (files : List FileRecord) (map : List ℕ) → Mounted img n b files map → mount_from img n b ≡ good (record { files = files; map = map })
  mounted_from files map m =
      let es = m.entries in
      let f = (adds count (fresh true) m.entries).files in
      let r = replay_ended count img b.page es m.end m.log in
      let ok : (replay_of count img b.page).ok ≡ true =
      ap (λ (r : Replay). r.ok) r ∙ adds_good count (fresh true) es (sound_sounds count es m.sounds) in
      let c = marks_are n count b.page m.inside m.within (all_pages img count files) map (all_inside img count f 0 files m.are) m.distinct m.marks in
      sym (from_log img n b (best_ok_lem m.best m.inside m.within) (replay_of count img b.page) refl ok)
      ∙ ap (λ (r : Replay). load_from img count r.files 0 8 start) r
      ∙ ap (λ (k : ℕ). load_from img count (adds count (fresh true) m.entries).files 0 k start) (sym m.eight)
      ∙ from_is img count f 0 start files map m.are c

-- ---- the call

module _ (w : World) where
  abbrev pages : ℕ
  pages = length w.map

  abbrev found : Best
  found = scan w.image pages

  mount_fits : sizes (length w.image) pages ≡ true
      → mount w ≡ mounted_as w pages (seed_after w.state.seed) found (mount_from w.image pages found)
  unfolding mount mount_with mount_best
  mount_fits e = rw e

  mount_sizes : (mount w).answer ≡ fine → sizes (length w.image) pages ≡ true
  unfolding mount mount_with
  mount_sizes h = by (sizes (length w.image) pages) refl h
    where
      by : (t : Bool) → sizes (length w.image) pages ≡ t → (cond t (mount_best w found) (refuse w BadSize)).answer ≡ fine → sizes (length w.image) pages ≡ true
      by true e h = e
      by false e h = cc

  -- a mount that succeeds
  pub mount_says : (mount w).answer ≡ fine → Succeeds w (mount w)
  mount_says h =
      let fit = mount_sizes h in
      by fit (mount_from w.image pages found) refl (sym (ap (λ (o : Outcome Done). o.answer) (mount_fits fit)) ∙ h)
    where
      by : sizes (length w.image) pages ≡ true → (r : Maybe LoadedAll) → mount_from w.image pages found ≡ r
          → (mounted_as w pages (seed_after w.state.seed) found r).answer ≡ fine → Succeeds w (mount w)
      by fit bad e h = cc
      by fit (good x) e h =
          let c = chosen w.image pages found (from_good_best w.image pages found x e) in record {
            fit = fit;
            best = found;
            files = x.files;
            map = x.map;
            mounted = from_mounted w.image pages found (scan_wins w.image pages c.some) x e;
            is = mount_fits fit ∙ ap (mounted_as w pages (seed_after w.state.seed) found) e;
          }

  -- succeeds where this is so, and finds it
  pub mount_finds : sizes (length w.image) pages ≡ true → (b : Best) (files : List FileRecord) (map : List ℕ) → Mounted w.image pages b files map
      → mount w ≡ finds w b files map
  mount_finds fit b files map m =
      let e = wins_scan w.image pages b m.best in
      mount_fits fit
      ∙ ap (λ (b : Best). mounted_as w pages (seed_after w.state.seed) b (mount_from w.image pages b)) e
      ∙ ap (mounted_as w pages (seed_after w.state.seed) b) (mounted_from w.image pages b files map m)

-- ---- again

-- the same files, metadata page, page_count and map
pub record SameMount (a b : Outcome Done) : Type 0 where
  pub answer : b.answer ≡ a.answer
  pub stores : b.stores ≡ a.stores
  pub map : b.map ≡ a.map
  pub table : b.table ≡ a.table
  pub count : b.state.page_count ≡ a.state.page_count
  pub page : b.state.meta_page ≡ a.state.meta_page
  pub seq : b.state.meta_seq ≡ a.state.meta_seq

finds_same : (w w' : World) (b : Best) (files : List FileRecord) (map : List ℕ) → SameMount (finds w b files map) (finds w' b files map)
unfolding settled
finds_same w w' b files map = record { answer = refl; stores = refl; map = refl; table = refl; count = refl; page = refl; seq = refl }

-- mount of the same image again, with any map of that length, table and state
pub mount_again : (w : World) → (mount w).answer ≡ fine → (map : List ℕ) (t : Table) (s : State) → length map ≡ length w.map
    → SameMount (mount w) (mount (before w.image map t s))
mount_again w h map t s e =
    let x = mount_says w h in
    let again = mount_finds (before w.image map t s) (rw e x.fit) x.best x.files x.map (rw e x.mounted) in
    subst (λ (o : Outcome Done). SameMount o (mount (before w.image map t s))) (sym x.is)
    (subst (SameMount (finds w x.best x.files x.map)) (sym again) (finds_same w (before w.image map t s) x.best x.files x.map))

-- so mount twice gives the same files
pub mount_twice : (w : World) → (mount w).answer ≡ fine → SameMount (mount w) (mount (after_call mount w).world)
mount_twice w h =
    let x = mount_says w h in
    let o = mount w in
    let l : length (mount w).map ≡ length w.map = ap (λ (o : Outcome Done). length o.map) x.is ∙ x.mounted.marks.size in
    let i : (after_call mount w).world.image ≡ w.image = ap (λ (o : Outcome Done). (after_call (λ w. o) w).world.image) x.is in
    rw i (mount_again w h (mount w).map (mount w).table (mount w).state l)
