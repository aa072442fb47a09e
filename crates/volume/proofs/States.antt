-- What format and a successful mount leave: a state that counts as mounted, records in shape; and that format's stores are clean, of
-- bytes, and on the page that allocation gives. Assumes nothing.
use Rattle.std.specs.Prelude.{Some}
use Rattle.state.specs.Refusals.{Done, fine}
use mathlib.Core.Path.{◌≡◌, refl, sym, ap, ◌∙◌, subst}
use mathlib.Core.Bool.{true}
use mathlib.Core.Logic.{◌⊎◌, inl, inr, ⊎_elim}
use mathlib.Core.List.{List, [], ◌∷◌}
use Prim.Native.Nat.{ℕ, zero, suc, ◌+◌, ◌*◌, ◌/◌, ◌%◌, ◌≤◌, ◌<◌}
use native.Mathlib.Nat.{mod-lt, add-zero}
use native.Mathlib.Omega.{arith}
use borrow.Author.Tests.{lt-ltb, le-leb, eq-eqb}
use lib.ListN.{length, get_or, drop, take}
use lib.Seq.{take_all, drop-cons}
use Rattle.seq.specs.Seed.{seed_after}
use Rattle.page.specs.Page.{page_of, meta_of}
use Rattle.page.specs.Store.{Store, erase, program, stored, ran, Cleans}
use Rattle.page.proofs.Laws.{Every, every_map, every_append, stored_length, ran_length, cleans_append, take_replicate, bytes_replicate, OfBytes}
use Rattle.page.proofs.Back.{meta_clean, bytes_meta}
use Rattle.page.proofs.Headers.{header_bounds}
use Rattle.map.specs.Map.{alloc_of, cleared}
use Rattle.map.proofs.Laws.{cleared_length, cleared_below, beyond_inside}
use Rattle.state.specs.declared.types.FileRecord.{FileRecord}
use Rattle.state.specs.Values.{empty_record, absent, in_shape, no_writer, no_search, settled}
use Rattle.state.specs.Checks.{sizes, writer_ok, search_ok, is_mounted}
use Rattle.state.specs.World.{World, Outcome}
use Rattle.state.proofs.Laws.{sizes_say}
use Rattle.metalog.specs.declared.Files.{Files}
use Rattle.volume.specs.Format.{erased_if, erasures, first_meta, format_stores, formatted, format}
use Rattle.volume.specs.Mount.{mount}
use Rattle.volume.specs.Mounted.{Live, FilesAre}
use Rattle.volume.proofs.Erasures.{erased_on}
use Rattle.volume.proofs.Formats.{own_left, format_is}
use Rattle.volume.proofs.Mounts.{mount_says}

-- ---- the state

-- a settled state whose numbers are in range counts as mounted
pub settled_mounted : (n count page seq cursor seed : ℕ) → 4 ≤ n → n ≤ 1024 → count ≤ n → page < count → cursor < count
    → is_mounted (settled n count page seq cursor seed) ≡ true
unfolding is_mounted settled no_writer no_search writer_ok search_ok
settled_mounted n count page seq cursor seed a b c d e =
    let f : 1 ≤ count = omega arith in
    rw (le-leb 4 n a, le-leb n 1024 b, le-leb 1 count f, le-leb count n c, lt-ltb page count d, lt-ltb cursor count e)

-- so format leaves a mounted state
pub format_state : (w : World) → sizes (length w.image) (length w.map) ≡ true → is_mounted (format w).state ≡ true
unfolding formatted
format_state w fit =
    let n = length w.map in
    let seed = seed_after w.state.seed in
    let z = sizes_say (length w.image) (length w.map) fit in
    let some : 0 < length w.map = omega (arith, z.0) in
    rw (format_is w fit)
    (settled_mounted n n (seed % n) 1 _ seed z.0 z.1 (omega arith) (mod-lt seed some) (beyond_inside n (seed % n) some))

-- and so does a mount that succeeds
pub mount_state : (w : World) → (mount w).answer ≡ fine → is_mounted (mount w).state ≡ true
mount_state w h =
    let x = mount_says w h in
    let m = x.mounted in
    let z = sizes_say (length w.image) (length w.map) x.fit in
    let seed = seed_after w.state.seed in
    ap (λ (o : Outcome Done). is_mounted o.state) x.is
    ∙ settled_mounted (length w.map) x.best.page_count x.best.page x.best.seq (seed % x.best.page_count) seed z.0 z.1 m.within m.inside
    (mod-lt seed (omega (arith, m.inside)))

-- ---- the records

-- the record of a file with a last page is in shape
pub live_shape : (img : List ℕ) (count p first flags : ℕ) (f : FileRecord) → Live img count p first flags f → in_shape count f ≡ true
unfolding in_shape
live_shape img count p first flags f l =
    let h = l.header in
    let b = header_bounds (page_of img p) l.header l.reads in
    rw (l.is, lt-ltb p count l.inside, le-leb 1 h.length b.0, le-leb h.length 224 b.1, eq-eqb (h.seq + h.length) (h.seq + h.length) refl, lt-ltb first (h.seq + h.length) l.holds)

-- each record is empty or in shape
pub files_shape : (img : List ℕ) (count : ℕ) (e : Files) (i : ℕ) (l : List FileRecord) → FilesAre img count e i l → (k : ℕ) → k < length l
    → (get_or l k absent ≡ empty_record) ⊎ (in_shape count (get_or l k absent) ≡ true)
files_shape img count e i [] a k h = absurd (omega arith)
files_shape img count e i (f ∷ l) a zero h = ⊎_elim (λ x. inl x.1) (λ x. inr (live_shape img count _ _ _ f x)) a.0
files_shape img count e i (f ∷ l) a (suc k) h = files_shape img count e (suc i) l a.1 k (omega arith)

-- ---- format's stores

-- an erase of a page below k
abbrev Erases : ℕ → Store → Type 0
Erases k (erase q) = q < k
Erases k (program q off run) = ⊥

erases_clean : (img : List ℕ) (l : List Store) → Every (Erases (length img / 256)) l → Cleans img l
erases_clean img [] e = tt
erases_clean img (erase q ∷ l) e = (e.0, erases_clean (stored img (erase q)) l (rw (stored_length img (erase q)) e.1))
erases_clean img (program q off run ∷ l) e = absurd e.0

module _ (img : List ℕ) (p : ℕ) where
  erasures_are : (P : Store → Type 0) (n : ℕ) → ((q : ℕ) → q < n → P (erase q)) → Every P (erasures img p n)
  unfolding erasures
  erasures_are P zero f = tt
  erasures_are P (suc n) f =
      every_append P (erasures img p n) (erased_if p n (meta_of (page_of img n))) (erasures_are P n (λ q h. f q (omega arith)))
      (every_map (λ s. s ≡ erase n) P (λ s e. subst P (sym e) (f n (omega arith))) (erased_if p n (meta_of (page_of img n))) (erased_on p n (meta_of (page_of img n))))

  -- of bytes
  pub format_bytes : (n : ℕ) → Every OfBytes (format_stores img p n)
  format_bytes n =
      every_append OfBytes (erasures img p n) _ (erasures_are OfBytes n (λ q h. bytes_replicate 256 255 (omega arith))) (bytes_meta (first_meta n), tt)

  -- each erases a page of the image or programs erased bytes
  pub format_cleans : (n : ℕ) → length img ≡ 256 * n → p < n → Cleans img (format_stores img p n)
  format_cleans n e h =
      let i : p < length img / 256 = omega arith in
      let j : p < length (ran img (erasures img p n)) / 256 = rw (ran_length img (erasures img p n)) i in
      cleans_append img (erasures img p n) _ (erases_clean img (erasures img p n) (erasures_are (Erases (length img / 256)) n (λ q k. omega arith)))
      (meta_clean (ran img (erasures img p n)) p (first_meta n) j (ap (take 12) (own_left img p n h i) ∙ take_replicate 12 256 255 (omega arith)), tt)

-- ---- the page that format takes

-- with every page free, allocation takes the cursor's page
pub format_allocates : (n p : ℕ) → p < n → alloc_of (cleared n n) n p ≡ Some p
unfolding alloc_of
format_allocates n p h =
    let l = cleared_length n n in
    let t : take n (cleared n n) ≡ cleared n n = take_all n (cleared n n) (omega arith) in
    let d : drop p (cleared n n) ≡ 0 ∷ drop (suc p) (cleared n n) = drop-cons (cleared n n) p 0 (omega arith) ∙ rw (cleared_below n n p 0 h h) in
    let k : 0 < suc (length (drop (suc p) (cleared n n))) = omega arith in
    rw (t, d, lt-ltb 0 (suc (length (drop (suc p) (cleared n n)))) k, add-zero)
