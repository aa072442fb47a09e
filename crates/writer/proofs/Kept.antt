-- What a write leaves of the writer and the state: the state still counts as mounted, and there is room for what was to come.
-- Assumes nothing.
use Rattle.std.specs.Prelude.{Option, Some, None, Err}
use Rattle.state.specs.Refusals.{fine}
use Prim.Native.Nat.{ℕ, zero, suc, ◌+◌, ◌≤◌, ◌<◌}
use mathlib.Core.Path.{◌≡◌, refl, sym, ap, subst, ◌∙◌}
use mathlib.Core.Bool.{Bool, true, false, cond, not, ◌&&◌, ◌||◌, and-false}
use mathlib.Core.List.{List, [], ◌∷◌, ◌++◌, append-nil, append_assoc}
use native.Mathlib.Nat.{not-suc-le-zero, zero-add}
use native.Mathlib.Omega.{arith}
use borrow.Author.Tests.{lt-ltb, le-ltb, le-leb, eqb-true}
use lib.Dec.{eqb, leb, ltb}
use lib.ListN.{length, take, drop, length-take, length-drop, length-set, take-append-drop}
use Rattle.seq.specs.Ids.{none}
use Rattle.seq.specs.Seq.{limit}
use Rattle.page.proofs.Laws.{split}
use Rattle.map.specs.Map.{alloc_of, free_count}
use Rattle.map.proofs.Laws.{alloc_found}
use Rattle.state.specs.declared.types.Writer.{Writer}
use Rattle.state.specs.declared.types.State.{State}
use Rattle.state.specs.declared.types.Refusal.TheVariants.{BadSize, NotMounted, Busy, BadFile}
use Rattle.state.specs.Values.{with_cursor, with_writer}
use Rattle.state.specs.Checks.{id_ok, writer_ok, search_ok, is_mounted, wrong_size, checks}
use Rattle.state.proofs.Laws.{both, OpenWriter}
use Rattle.writer.specs.Staging.{is_staged, flushed, on_page, filled_by, space, pages_for, too_few}
use Rattle.writer.specs.Write.{Writing, staged, next_page, ready, put, write_from}
use Rattle.writer.specs.Inner.{Able, Sound, may_write}
use Rattle.writer.proofs.Sounds.{SoundAt, flushes, next_is, ready_readied, part_sound, less_sound}
use Rattle.writer.proofs.Cuts.{unrolled}
use Rattle.writer.proofs.Exits.{cond_off}

-- ---- whatever each turn keeps, a write keeps

-- P of the bytes so far: a next page keeps it, and bytes put on the page go behind those
module _ (count : ℕ) (P : List ℕ → Writing → Type 0)
    (next : (b : List ℕ) (x : Writing) (n : ℕ) → SoundAt count n x → 0 < n → space x.writer ≡ 0 → P b x → P b (next_page count x))
    (fill : (b : List ℕ) (x : Writing) (a : List ℕ) → Able count x.cursor x.writer → 0 < space x.writer → length a ≤ space x.writer → P b x → P (b ++ a) (put x a)) where
  keep_ready : (b : List ℕ) (x : Writing) (n : ℕ) → SoundAt count n x → 0 < n → P b x → P b (ready count x)
  unfolding ready
  keep_ready b x n h some p = by (eqb (space x.writer) 0) refl
    where
      by : (t : Bool) → eqb (space x.writer) 0 ≡ t → P b (cond t (next_page count x) x)
      by true e = next b x n h some (eqb-true (space x.writer) 0 e) p
      by false e = p

  -- what a write of l leaves, with len bytes to come
  abbrev Left : ℕ → List ℕ → List ℕ → Writing → Type 0
  Left len b l x = SoundAt count len (write_from count (length l) l x) × P (b ++ l) (write_from count (length l) l x)

  keep_none : (len : ℕ) (b l : List ℕ) (x : Writing) → length l ≤ 0 → SoundAt count (length l + len) x → P b x → Left len b l x
  unfolding write_from
  keep_none len b [] x z h p = (subst (λ (i : ℕ). SoundAt count i x) (zero-add len) h, subst (λ (c : List ℕ). P c x) (sym (append-nil b)) p)
  keep_none len b (c ∷ l) x z h p = absurd (not-suc-le-zero z)

  keep_by : (k len : ℕ) (b l : List ℕ) (x : Writing) → length l ≤ k → SoundAt count (length l + len) x → P b x → Left len b l x
  keep_by zero len b l x z h p = keep_none len b l x z h p
  keep_by (suc k) len b l x z h p =
      split (length l) 0 (λ y. keep_none len b l x y h p)
      (λ some.
      let s = space (ready count x).writer in
      let r = ready_readied count (length l + len) x h (omega arith) in
      let t = length-take (space (ready count x).writer) l in
      let d = length-drop (space (ready count x).writer) l in
      let e : length l + len ≡ length (take (space (ready count x).writer) l) + (length (drop (space (ready count x).writer) l) + len) = omega arith in
      let so = part_sound count (length (drop s l) + len) (ready count x) (take s l) (subst (λ (i : ℕ). SoundAt count i (ready count x)) e r.sound) r.space (omega arith) in
      let f = fill b (ready count x) (take s l) r.sound.able r.space (omega arith) (keep_ready b x (length l + len) h (omega arith) p) in
      let q = keep_by k len (b ++ take s l) (drop s l) (put (ready count x) (take s l)) (omega (arith, r.space)) so f in
      let u = unrolled count l x (less_sound x.writer (length l) (omega arith) h) some in
      let c : (b ++ take (space (ready count x).writer) l) ++ drop (space (ready count x).writer) l ≡ b ++ l =
      append_assoc b (take s l) (drop s l) ∙ ap (λ (m : List ℕ). b ++ m) (take-append-drop s l) in
      (subst (λ (y : Writing). SoundAt count len y) (sym u) q.0, subst (λ (y : Writing). P (b ++ l) y) (sym u) (subst (λ (m : List ℕ). P m (write_from count (length (drop s l)) (drop s l) (put (ready count x) (take s l)))) c q.1)))

  pub keep : (len : ℕ) (b l : List ℕ) (x : Writing) → SoundAt count (length l + len) x → P b x → Left len b l x
  keep len b l x h p = keep_by (length l) len b l x (omega arith) h p

-- ---- ids, and what stays as it is

pub record Known (count : ℕ) (w : Writing) (x : Writing) : Type 0 where
  pub active : x.writer.active ≡ w.writer.active
  pub file : x.writer.file ≡ w.writer.file
  pub copied : x.writer.copied ≡ w.writer.copied
  pub page : id_ok count x.writer.page ≡ true
  pub previous : id_ok count x.writer.previous ≡ true
  pub map : length x.map ≡ length w.map

flush_known : (count : ℕ) (w x : Writing) → Known count w x → Known count w (flushes x)
unfolding flushed
flush_known count w x k = by (is_staged x.writer)
  where
    by : (b : Bool) → Known count w (record { stores = (flushes x).stores; map = x.map; cursor = x.cursor; writer = cond b (flushed x.writer) x.writer })
    by true = record { active = k.active; file = k.file; copied = k.copied; page = refl; previous = k.page; map = k.map }
    by false = record { active = k.active; file = k.file; copied = k.copied; page = k.page; previous = k.previous; map = k.map }

inside_ok : (count p : ℕ) → p < count → id_ok count p ≡ true
inside_ok count p h = by (eqb p none)
  where
    by : (b : Bool) → (b || ltb p count) ≡ true
    by true = refl
    by false = lt-ltb p count h

next_known : (count : ℕ) (w x : Writing) → Able count x.cursor x.writer → Known count w x → Known count w (next_page count x)
unfolding on_page
next_known count w x a k = subst (Known count w) (sym (next_is count x)) (by (alloc_of x.map count x.cursor) refl)
  where
    f : Known count w (flushes x)
    f = flush_known count w x k

    by : (z : Option ℕ) → alloc_of x.map count x.cursor ≡ z → Known count w (staged count (flushes x) z)
    by None e = f
    by (Some p) e =
        record {
          active = f.active;
          file = f.file;
          copied = f.copied;
          page = inside_ok count p (alloc_found x.map count x.cursor (omega (arith, a.cursor)) p e).inside;
          previous = f.previous;
          map = length-set x.map p 1 ∙ k.map;
        }

put_known : (count : ℕ) (w x : Writing) (l : List ℕ) → Known count w x → Known count w (put x l)
unfolding filled_by
put_known count w x l k =
    record { active = k.active; file = k.file; copied = k.copied; page = k.page; previous = k.previous; map = k.map }

pub write_keeps : (count len : ℕ) (l : List ℕ) (x : Writing) → SoundAt count (length l + len) x → Known count x x
    → SoundAt count len (write_from count (length l) l x) × Known count x (write_from count (length l) l x)
write_keeps count len l x h k =
    keep count (λ b y. Known count x y) (λ b y n s some e p. next_known count x y s.able p) (λ b y a t some u p. put_known count x y a p) len [] l x h k

-- ---- a state that still counts as mounted

or_second : (a b : Bool) → b ≡ true → (a || b) ≡ true
or_second true b e = refl
or_second false b e = e

writer_ok_lem : (count : ℕ) (x : Writer) → OpenWriter count x → writer_ok count x ≡ true
unfolding writer_ok
writer_ok_lem count x o =
    or_second (not x.active) _
    (rw (le-leb x.file 7 o.file, le-leb x.length 224 o.length, o.page, o.copied, o.previous, le-leb (x.seq + x.length) limit o.end, le-leb x.stored x.seq o.stored))

still : (a b c d e c' d' : Bool) → ((((a && (b && c)) && d)) && e) ≡ true → c' ≡ true → d' ≡ true → ((((a && (b && c')) && d')) && e) ≡ true
still a b c d e c' d' h p q =
    let i = both ((a && (b && c)) && d) e h in
    let j = both (a && (b && c)) d i.0 in
    let k = both a (b && c) j.0 in
    let l = both b c k.1 in
    rw (k.0, l.0, p, q, i.1)

pub still_mounted : (s : State) (c : ℕ) (x : Writer) → is_mounted s ≡ true → c < s.page_count → OpenWriter s.page_count x → is_mounted (with_writer (with_cursor s c) x) ≡ true
unfolding is_mounted with_writer with_cursor
still_mounted s c x h l o =
    still (s.mounted && (leb 4 s.pages && leb s.pages 1024 && leb 1 s.page_count && leb s.page_count s.pages)) (ltb s.meta_page s.page_count) (ltb s.cursor s.page_count) (writer_ok s.page_count s.writer) (search_ok s.search) _ _ h
    (lt-ltb c s.page_count l) (writer_ok_lem s.page_count x o)

-- checks 1 to 4 look at no more of a state than whether it is mounted, and at its pages
pub checks_same : (image map : ℕ) (s s' : State) (busy : Bool) (file : ℕ) → is_mounted s' ≡ is_mounted s → s'.pages ≡ s.pages → checks image map s' busy file ≡ checks image map s busy file
unfolding checks
checks_same image map s s' busy file e p = rw (e, p)

pub checks_mounted : (image map : ℕ) (s : State) (busy : Bool) (file : ℕ) → checks image map s busy file ≡ fine → is_mounted s ≡ true
unfolding checks
checks_mounted image map s busy file h = by (is_mounted s) (wrong_size image map (is_mounted s) s.pages) h
  where
    by : (m b : Bool) → cond b (Err BadSize) (cond m (cond busy (Err Busy) (cond (ltb 7 file) (Err BadFile) fine)) (Err NotMounted)) ≡ fine → m ≡ true
    by true b h = refl
    by false true h = let z : ◌≡◌ {A = ℕ} 0 1 = cc in absurd (omega arith)
    by false false h = let z : ◌≡◌ {A = ℕ} 0 1 = cc in absurd (omega arith)

-- ---- what is sound is not refused

pub sound_may : (m : List ℕ) (s : State) (len : ℕ) → s.writer.active ≡ true → Sound s.page_count len m s.cursor s.writer → may_write m s len ≡ fine
unfolding may_write too_few
sound_may m s len on h =
    cond_off _ _ _ (ap not on)
    ∙ cond_off _ _ _ (le-ltb limit (s.writer.seq + s.writer.length + len) h.end)
    ∙ cond_off _ _ _ (few (pages_for (space s.writer) len) h.room)
  where
    few : (j : ℕ) → (0 < j → j < free_count (take s.page_count m)) → (not (eqb j 0) && ltb (free_count (take s.page_count m)) (j + 1)) ≡ false
    few zero f = refl
    few (suc j) f = let g : suc j + 1 ≤ free_count (take s.page_count m) = omega (arith, f (omega arith)) in rw (le-ltb (free_count (take s.page_count m)) (suc j + 1) g) (and-false (not (eqb (suc j) 0)))
