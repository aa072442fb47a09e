-- Mount depends on nothing of an image but what it looks at. Assumes nothing.
use mathlib.Core.Path.{◌≡◌, refl, sym, ap, ◌∙◌}
use mathlib.Core.Bool.{Bool, true, false, cond, ◌&&◌}
use mathlib.Core.List.{List, [], ◌∷◌, ◌++◌}
use Prim.Native.Nat.{ℕ, zero, suc, ◌+◌, ◌<◌}
use native.Mathlib.Omega.{arith}
use lib.Dec.{eqb, leb, ltb}
use lib.ListN.{length, get_or, set}
use Rattle.seq.specs.Ids.{none}
use Rattle.seq.specs.Seq.{limit}
use Rattle.seq.specs.Seed.{seed_after}
use Rattle.page.specs.declared.DataHeader.{DataHeader}
use Rattle.page.specs.Page.{Read, unreadable, readable, page_of, meta_of}
use Rattle.metalog.specs.declared.Files.{Files}
use Rattle.metalog.specs.Log.{Log, ended, damaged, log_of, area_of, log_at, replay_of}
use Rattle.metalog.proofs.Table.{replay_ended, replay_damaged}
use Rattle.map.specs.Map.{cleared, used}
use Rattle.chain.specs.Files.{last_of}
use Rattle.chain.specs.Steps.{read_at, back_rule, Trace, walk}
use Rattle.chain.specs.Seek.{Agree}
use Rattle.chain.proofs.Traces.{depends}
use Rattle.state.specs.declared.types.Table.{Table}
use Rattle.state.specs.declared.types.State.{State}
use Rattle.state.specs.declared.types.Refusal.TheVariants.{BadSize}
use Rattle.state.specs.Values.{empty_record}
use Rattle.state.specs.Checks.{sizes}
use Rattle.state.specs.World.{before, refuse}
use Rattle.volume.specs.declared.Best.{Best}
use Rattle.volume.specs.Scan.{scan}
use Rattle.volume.specs.Mount.{Maybe, bad, good, bind, claimed, Loaded, record_of, loaded_by, load, LoadedAll, load_from, mount_from, mounted_as, mount_best, mount_with, mount}
use Rattle.volume.specs.Looks.{looked_by, looked, after, looked_from, looked_all, SameLook}
use Rattle.volume.proofs.Exits.{load_at}

agree_append : (read other : ℕ → Read) (a b : List ℕ) → Agree read other (a ++ b) → Agree read other a × Agree read other b
agree_append read other [] b g = (tt, g)
agree_append read other (q ∷ a) b g = let h = agree_append read other a b g.1 in ((g.0, h.0), h.1)

module _ (img img' : List ℕ) where
  -- ---- the scan

  scan_same : (n : ℕ) → ((q : ℕ) → q < n → meta_of (page_of img' q) ≡ meta_of (page_of img q)) → scan img' n ≡ scan img n
  unfolding scan
  scan_same zero e = refl
  scan_same (suc n) e = rw (e n (omega arith), scan_same n (λ q h. e q (omega arith)))

  -- ---- the log

  replay_same : (count p : ℕ) → area_of img' p ≡ area_of img p → replay_of count img' p ≡ replay_of count img p
  replay_same count p e = by (log_at img p) refl
    where
      by : (l : Log) → log_at img p ≡ l → replay_of count img' p ≡ replay_of count img p
      by (ended es k) h = replay_ended count img' p es k (ap log_of e ∙ h) ∙ sym (replay_ended count img p es k h)
      by damaged h = replay_damaged count img' p (ap log_of e ∙ h) ∙ sym (replay_damaged count img p h)

  -- ---- the files

  module _ (count : ℕ) where
    load_same : (m : List ℕ) (p first flags : ℕ) → Agree (read_at img) (read_at img') (looked img count p first flags)
        → load img' count m p first flags ≡ load img count m p first flags
    unfolding load
    load_same m p first flags = by (eqb p none)
      where
        empty : Maybe Loaded
        empty = good (record { file = empty_record; map = m })

        range : (h : DataHeader) (t : Bool) → Agree (read_at img) (read_at img') (cond t (walk count (read_at img) first (last_of (record_of p first flags h))).path [])
            → let f = record_of p first flags h in
            let u = walk count (read_at img') first (last_of f) in
            let v = walk count (read_at img) first (last_of f) in
            cond t (bind {B = Loaded} (claimed m (last_of f) u u.ends) (λ m'. good (record { file = f; map = m' }))) bad
            ≡ cond t (bind {B = Loaded} (claimed m (last_of f) v v.ends) (λ m'. good (record { file = f; map = m' }))) bad
        range h true a =
            let f = record_of p first flags h in
            ap (λ (t : Trace). bind {B = Loaded} (claimed m (last_of (record_of p first flags h)) t t.ends) (λ m'. good (record { file = record_of p first flags h; map = m' })))
            (depends (back_rule count first) (read_at img) (read_at img') (last_of f) a)
        range h false a = refl

        read : (r : Read) → Agree (read_at img) (read_at img') (looked_by img count p first flags r) → loaded_by img' count m p first flags r ≡ loaded_by img count m p first flags r
        read unreadable a = refl
        read (readable h) a = range h (leb (h.seq + h.length) limit && ltb first (h.seq + h.length)) a

        by : (t : Bool) → Agree (read_at img) (read_at img') (cond t [] (p ∷ looked_by img count p first flags (read_at img p)))
            → cond t empty (loaded_by img' count m p first flags (read_at img' p)) ≡ cond t empty (loaded_by img count m p first flags (read_at img p))
        by true a = refl
        by false a = rw a.0 (read (read_at img p) a.1)

    from_same : (f : Files) (i n : ℕ) (m : List ℕ) → Agree (read_at img) (read_at img') (looked_from img count f i n m) → load_from img' count f i n m ≡ load_from img count f i n m
    unfolding load_from looked_from
    from_same f i zero m a = refl
    from_same f i (suc n) m a =
        let p = get_or f.last i 0 in
        let first = get_or f.first i 0 in
        let flags = get_or f.flags i 0 in
        let g = agree_append (read_at img) (read_at img') (looked img count p first flags) _ a in
        rw (load_same m p first flags g.0) (by (load_at img count f i m) g.1 (λ m a. from_same f (suc i) n m a))
      where
        by : (r : Maybe Loaded) → Agree (read_at img) (read_at img') (after r (λ m. looked_from img count f (suc i) n m))
            → ((m : List ℕ) → Agree (read_at img) (read_at img') (looked_from img count f (suc i) n m) → load_from img' count f (suc i) n m ≡ load_from img count f (suc i) n m)
            → bind r (λ x. bind {B = LoadedAll} (load_from img' count f (suc i) n x.map) (λ y. good (record { files = x.file ∷ y.files; map = y.map })))
            ≡ bind r (λ x. bind {B = LoadedAll} (load_from img count f (suc i) n x.map) (λ y. good (record { files = x.file ∷ y.files; map = y.map })))
        by bad a ih = refl
        by (good x) a ih = rw (ih x.map a)

  -- ---- mount

  mount_from_same : (n : ℕ) (b : Best) → area_of img' b.page ≡ area_of img b.page → Agree (read_at img) (read_at img') (looked_all img n b)
      → mount_from img' n b ≡ mount_from img n b
  unfolding mount_from
  mount_from_same n b e a =
      rw (replay_same b.page_count b.page e, from_same b.page_count (replay_of b.page_count img b.page).files 0 8 (set (cleared n b.page_count) b.page used) a)

  -- answer, map, table and state are the same on any other image that agrees on what mount looks at
  pub mount_depends : (map : List ℕ) (t : Table) (s : State) → SameLook (length map) img img' → mount (before img' map t s) ≡ mount (before img map t s)
  unfolding mount mount_with mount_best
  mount_depends map t s l =
      rw (l.size, scan_same (length map) l.metas, mount_from_same (length map) (scan img (length map)) l.log l.headers)
      (by (sizes (length img) (length map)) (mount_from img (length map) (scan img (length map))))
    where
      by : (t' : Bool) (r : Maybe LoadedAll)
          → cond t' (mounted_as (before img' map t s) (length map) (seed_after s.seed) (scan img (length map)) r) (refuse (before img' map t s) BadSize)
          ≡ cond t' (mounted_as (before img map t s) (length map) (seed_after s.seed) (scan img (length map)) r) (refuse (before img map t s) BadSize)
      by true bad = refl
      by true (good x) = refl
      by false r = refl
