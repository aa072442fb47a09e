-- Reading a file whose pages are a chain by the link rule: the page of each live number is found and opens, so that no read of live
-- numbers is Damaged, and few headers are read where older pages are full. Assumes nothing.
use Rattle.std.specs.Prelude.{Ok}
use Rattle.state.specs.Refusals.{fine}
use mathlib.Core.Path.{◌≡◌, refl, sym, ap, ◌∙◌}
use mathlib.Core.Bool.{true}
use mathlib.Core.List.{List, [], ◌∷◌, ◌++◌}
use mathlib.Core.Logic.{inl, inr}
use Prim.Native.Nat.{ℕ, zero, suc, ◌+◌, ◌-◌, ◌<◌, ◌≤◌}
use native.Mathlib.Nat.{eq-zero-or-pos, eq-or-lt_of_le, le_trans}
use native.Mathlib.Omega.{arith}
use lib.ListN.{length, get_or}
use Rattle.page.specs.Page.{Read, readable, page_of, payload_of}
use Rattle.chain.specs.declared.PagePointer.{PagePointer}
use Rattle.chain.specs.Files.{last_of}
use Rattle.chain.specs.Links.{start, end, Stand, Chain, oldest, holder, Among}
use Rattle.chain.specs.Steps.{read_at, seek_rule}
use Rattle.chain.specs.Seek.{Right, Agree, most}
use Rattle.chain.proofs.Traces.{depends}
use Rattle.chain.proofs.Seeks.{right, few}
use Rattle.state.specs.declared.types.FileRecord.{FileRecord}
use Rattle.state.specs.Checks.{checks}
use Rattle.state.specs.Values.{file_at, in_shape}
use Rattle.state.specs.World.{World}
use Rattle.state.proofs.Laws.{shape_says}
use Rattle.reader.specs.declared.Reader.{Reader}
use Rattle.reader.specs.Skip.{landed_by, skip_in, skip}
use Rattle.reader.specs.Locate.{path_of, located_by, located_at, locate_in, locate}
use Rattle.reader.specs.Read.{shown, open_at, some, here, bytes_here, AfterRead, moved, read_kept, read_by, read_in, read}
use Rattle.reader.proofs.Exits.{open_there, open_holds, opened_says, located_as, behind_live, read_none, read_shaped, read_fine, locate_fine, skip_lands, land_end, landed_by_lem, skip_fine}
use Rattle.reader.proofs.Bytes.{here_le, here_some, bytes, bytes_empty, bytes_shown}
use Rattle.reader.proofs.Places.{bytes_right, Steady, joined, bytes_split}

-- a page of the chain stands in the image, where the last one does
among_stands : (reads : ℕ → Read) (x p : PagePointer) (l : List PagePointer) → reads p.page_id ≡ readable p.header → Stand reads l → Among x p l
    → reads x.page_id ≡ readable x.header
among_stands reads x p [] h s a = rw a h
among_stands reads x p (q ∷ l) h s (inl a) = rw a h
among_stands reads x p (q ∷ l) h s (inr a) = among_stands reads x q l s.0 s.1 a

empty : (l : List ℕ) → length l ≡ 0 → l ≡ []
empty [] e = refl
empty (x ∷ l) e = absurd (omega arith)

-- an empty read moves nothing
stays : (r : Reader) (out : List ℕ) → length out ≡ 0 → read_kept r out fine ≡ read_by r out (some out)
stays r out z = let e : r.seq + 0 ≡ r.seq = omega arith in rw (z, e)

-- a file in shape whose pages, from the last back to the one of first_seq at least, are a chain and stand in the image; older pages
-- have d numbers at least
pub record Live (img : List ℕ) (count d : ℕ) (f : FileRecord) (l : List PagePointer) : Type 0 where
  pub some : 0 < d
  pub shape : in_shape count f ≡ true
  pub chain : Chain count d (read_at img) (last_of f) l
  pub stands : read_at img f.last_page ≡ readable f.header
  pub first : start (oldest (last_of f) l) ≤ f.first_seq

module _ (img : List ℕ) (count d : ℕ) (f : FileRecord) (l : List PagePointer) (live : Live img count d f l) where
  -- the page of a live number
  abbrev pub page_for : ℕ → PagePointer
  page_for t = holder t (last_of f) l

  module _ (t : ℕ) (low : f.first_seq ≤ t) (high : t < f.last_seq) where
    from : start (oldest (last_of f) l) ≤ t
    from = le_trans live.first low

    before_end : t < end (last_of f)
    before_end = let s = shape_says count f live.shape in omega (arith, s.end)

    pub live_right : Right count (read_at img) t (last_of f) l (page_for t)
    live_right = right count (read_at img) t (last_of f) l from d live.some live.chain before_end

    -- it is found, and opens
    pub live_open : open_at img count f t ≡ shown (page_for t)
    live_open =
        let r = live_right in
        let q = page_for t in
        open_there img count f t q r.sought
        ∙ rw (among_stands (read_at img) q (last_of f) l live.stands live.chain.stand r.among) (open_holds q.page_id t q.header r.holds.0 r.holds.1)

    -- locate gives it
    pub live_locate : locate_in img count f t ≡ located_at (page_for t).page_id (length (path_of img count f t).path)
    live_locate = located_as img count f t low high live.shape ∙ ap (located_by (length (path_of img count f t).path)) live_right.sought

  -- the page that opens for a number opens for every later one that it holds
  pub live_steady : Steady img count f f.first_seq f.last_seq
  live_steady t u p lo le hi o h =
      let mid : t < f.last_seq = omega arith in
      let lou : f.first_seq ≤ u = omega arith in
      let same : shown (page_for t) ≡ shown p = sym (live_open t lo mid) ∙ o in
      let e : page_for t ≡ p = cc in
      let s = opened_says img count f t p o in
      let own : Among p (last_of f) l = rw e at (live_right t lo mid).among in
      live_open u lou hi ∙ ap shown (sym ((live_right u lou hi).only p own (omega (arith, s.low)) h))

  -- ---- reads of live numbers

  live_by : (g n seq : ℕ) → n ≤ g → f.first_seq ≤ seq → seq + n ≤ f.last_seq → (m : List ℕ) × (bytes img count f seq n ≡ some m)
  live_by zero n seq h lo hi = let z : n ≡ 0 = omega arith in ([], rw z (bytes_empty img count f 0 seq))
  live_by (suc g) n seq h lo hi =
      elim (eq-zero-or-pos n) [
        | inl z ↦ ([], rw z (bytes_empty img count f 0 seq))
        | inr pos ↦ go pos (live_open seq lo (omega arith)) (λ m s i a b. live_by g m s i a b)
      ]
    where
      p : PagePointer
      p = page_for seq

      go : 0 < n → open_at img count f seq ≡ shown p
          → ((m s : ℕ) → m ≤ g → f.first_seq ≤ s → s + m ≤ f.last_seq → (k : List ℕ) × (bytes img count f s m ≡ some k))
          → (m : List ℕ) × (bytes img count f seq n ≡ some m)
      go pos o r =
          let s = opened_says img count f seq p o in
          let a = here_some img seq n p s pos in
          let b = here_le img seq n p s in
          let w = r (n - here p seq n) (seq + here p seq n) (omega arith) (omega arith) (omega arith) in
          (bytes_here img p seq n ++ w.0, bytes_shown img count f seq n p pos o ∙ rw w.1)

  -- all of them are there
  pub live_bytes : (n seq : ℕ) → f.first_seq ≤ seq → seq + n ≤ f.last_seq → (m : List ℕ) × (bytes img count f seq n ≡ some m)
  live_bytes n seq lo hi = live_by n n seq (omega arith) lo hi

  -- each is the byte that the page of its number has there
  pub live_byte : (n seq : ℕ) (m : List ℕ) → f.first_seq ≤ seq → seq + n ≤ f.last_seq → bytes img count f seq n ≡ some m → (k : ℕ) → k < n
      → get_or m k 0 ≡ get_or (payload_of (page_of img (page_for (seq + k)).page_id)) (seq + k - start (page_for (seq + k))) 0
  live_byte n seq m lo hi e k h =
      let b = (bytes_right img count f seq n m e).1 k h in
      let o = live_steady b.since (seq + k) b.page (omega (arith, b.from)) b.upto (omega arith) b.opened b.high in
      let same : shown (page_for (seq + k)) ≡ shown b.page = sym (live_open (seq + k) (omega arith) (omega arith)) ∙ o in
      let own : page_for (seq + k) ≡ b.page = cc in
      rw own b.is

  -- reading a + b of them is reading a, then b
  pub live_split : (a b seq : ℕ) → f.first_seq ≤ seq → seq + a + b ≤ f.last_seq
      → bytes img count f seq (a + b) ≡ joined (bytes img count f seq a) (bytes img count f (seq + a) b)
  live_split a b seq lo hi = bytes_split img count f f.first_seq f.last_seq live_steady a b seq lo hi

  -- so a read of live numbers succeeds
  pub live_read : (r : Reader) (out : List ℕ) → f.first_seq ≤ r.seq → r.seq + length out ≤ f.last_seq
      → (m : List ℕ) × (bytes img count f r.seq (length out) ≡ some m) × (read_in img count f r out ≡ read_by r out (some m))
  live_read r out lo hi =
      elim (eq-zero-or-pos (length out)) [
        | inl z ↦ (out, rw z (bytes_empty img count f 0 r.seq ∙ ap some (sym (empty out z))), sym (read_none img count f r out z) ∙ stays r out z)
        | inr pos ↦
            let w = live_bytes (length out) r.seq lo hi in
            (w.0, w.1, sym (read_shaped img count f r out (λ z. omega arith) (r.seq + length out) (sym (behind_live f r.seq (length out) lo (omega arith) hi)) live.shape) ∙ ap (read_by r out) w.1)
      ]

  -- so does a skip over them
  pub live_skip : (seq n : ℕ) → 0 < n → f.first_seq ≤ seq → seq + n ≤ f.last_seq → skip_in img count f seq n ≡ Ok (seq + n)
  live_skip seq n pos lo hi =
      sym (skip_lands img count f seq n (λ z. omega arith) lo (omega arith) hi)
      ∙ elim (eq-or-lt_of_le hi) [
        | inl e ↦ sym (land_end img count f (seq + n) e)
        | inr lt ↦ landed_by_lem img count f (seq + n) (λ z. omega arith) live.shape ∙ ap (landed_by (seq + n)) (live_open (seq + n) (omega arith) lt)
      ]

-- where older pages are full, locate reads few headers
pub live_few : (img : List ℕ) (count : ℕ) (f : FileRecord) (l : List PagePointer) (live : Live img count 224 f l) (t : ℕ) → f.first_seq ≤ t
    → length (path_of img count f t).path ≤ most t f.header.seq
live_few img count f l live t lo = few count (read_at img) t (last_of f) l (le_trans live.first lo) live.chain

-- ---- the calls, once checks 1 to 4 have passed

abbrev Passes : World → ℕ → Type 0
Passes w file = checks (length w.image) (length w.map) w.state w.state.transaction file ≡ fine

abbrev LiveFile : World → ℕ → ℕ → List PagePointer → Type 0
LiveFile w file d l = Live w.image w.state.page_count d (file_at w.table file) l

-- a read of live numbers is never refused
pub read_live : (w : World) (r : Reader) (out : List ℕ) (d : ℕ) (l : List PagePointer) → Passes w r.file → LiveFile w r.file d l
    → (file_at w.table r.file).first_seq ≤ r.seq → r.seq + length out ≤ (file_at w.table r.file).last_seq
    → (m : List ℕ) × (bytes w.image w.state.page_count (file_at w.table r.file) r.seq (length out) ≡ some m)
    × (read w r out ≡ record { answer = fine; reader = moved r (length out); out = m })
read_live w r out d l ok live lo hi =
    let e = live_read w.image w.state.page_count d (file_at w.table r.file) l live r out lo hi in
    (e.0, e.1, sym (read_fine w r fine (sym ok) out refl) ∙ e.2)

-- reading as many bytes as x and y have is a read of x, then one of y from where it leaves the reader
pub read_joined : (w : World) (r : Reader) (x y out : List ℕ) (d : ℕ) (l : List PagePointer) → Passes w r.file → LiveFile w r.file d l
    → length out ≡ length x + length y
    → (file_at w.table r.file).first_seq ≤ r.seq → r.seq + length out ≤ (file_at w.table r.file).last_seq
    → read w r out
    ≡ record {
      answer = fine;
      reader = (read w (read w r x).reader y).reader;
      out = (read w r x).out ++ (read w (read w r x).reader y).out;
    }
read_joined w r x y out d l ok live long lo hi =
    let f = file_at w.table r.file in
    let img = w.image in
    let count = w.state.page_count in
    let a = read_live w r x d l ok live lo (omega arith) in
    let b = read_live w (moved r (length x)) y d l ok live (omega arith) (omega arith) in
    let c = read_live w r out d l ok live lo hi in
    let ra : (read w r x).reader ≡ moved r (length x) = ap (λ (z : AfterRead). z.reader) a.2 in
    let oa : (read w r x).out ≡ a.0 = ap (λ (z : AfterRead). z.out) a.2 in
    let rb : (read w (moved r (length x)) y).reader ≡ moved (moved r (length x)) (length y) = ap (λ (z : AfterRead). z.reader) b.2 in
    let ob : (read w (moved r (length x)) y).out ≡ b.0 = ap (λ (z : AfterRead). z.out) b.2 in
    let parts = live_split img count d f l live (length x) (length y) r.seq lo (omega arith) in
    let whole : bytes w.image w.state.page_count (file_at w.table r.file) r.seq (length x + length y) ≡ some c.0 = rw long at c.1 in
    let both : some c.0 ≡ some (a.0 ++ b.0) = sym whole ∙ rw (a.1, b.1) at parts in
    let m : c.0 ≡ a.0 ++ b.0 = cc in
    let n : r.seq + length out ≡ r.seq + length x + length y = omega arith in
    c.2 ∙ rw (ra, oa, rb, ob, m, n)

-- nor is a skip over some
pub skip_live : (w : World) (r : Reader) (n d : ℕ) (l : List PagePointer) → Passes w r.file → LiveFile w r.file d l → 0 < n
    → (file_at w.table r.file).first_seq ≤ r.seq → r.seq + n ≤ (file_at w.table r.file).last_seq → skip w r n ≡ Ok (r.seq + n)
skip_live w r n d l ok live pos lo hi =
    sym (skip_fine w r fine (sym ok) n refl)
    ∙ live_skip w.image w.state.page_count d (file_at w.table r.file) l live r.seq n pos lo hi

-- locate gives the page of a live number, with few headers read
pub locate_live : (w : World) (file t : ℕ) (l : List PagePointer) → Passes w file → LiveFile w file 224 l
    → (file_at w.table file).first_seq ≤ t → t < (file_at w.table file).last_seq
    → (n : ℕ) × (locate w file t ≡ located_at (holder t (last_of (file_at w.table file)) l).page_id n) × (n ≤ most t (file_at w.table file).header.seq)
locate_live w file t l ok live lo hi =
    let f = file_at w.table file in
    let count = w.state.page_count in (
      length (path_of w.image count f t).path,
      sym (locate_fine w file fine (sym ok) t refl) ∙ live_locate w.image count 224 f l live t lo hi,
      live_few w.image count f l live t lo,
    )

-- ---- what locate depends on

-- on any image that agrees on the headers of the rule's path, page and count are the same
pub locate_depends : (img other : List ℕ) (count : ℕ) (f : FileRecord) (t : ℕ) → Agree (read_at img) (read_at other) (path_of img count f t).path
    → locate_in other count f t ≡ locate_in img count f t
unfolding locate_in
locate_depends img other count f t a = rw (depends (seek_rule count t) (read_at img) (read_at other) (last_of f) a)
