-- What a writer writes is what its pages hold: old bytes, then those of each write, in full pages but the last, each linked by the
-- rule to the page before it. Assumes nothing.
use Rattle.std.specs.Prelude.{Some}
use Prim.Native.Nat.{ℕ, ◌+◌, ◌≤◌, ◌<◌}
use mathlib.Core.Path.{◌≡◌, refl, sym, ap, subst, ◌∙◌}
use mathlib.Core.Bool.{Bool, true, false, cond, not}
use mathlib.Core.List.{List, [], ◌∷◌, ◌++◌, append-nil, append_assoc}
use native.Mathlib.Decide.{ℕ_discrete}
use native.Mathlib.Omega.{arith}
use borrow.Author.Tests.{eqb-true, eqb-false}
use lib.Dec.{eqb}
use lib.ListN.{length, take, drop, get_or, set, length-append}
use lib.Seq.{take_at, length-take-le, get_or-set_same, get_or-set_other}
use Rattle.seq.specs.Ids.{none}
use Rattle.runs.specs.Runs.{splice, placed}
use Rattle.runs.proofs.Laws.{placed_in}
use Rattle.page.specs.Page.{readable}
use Rattle.page.specs.Store.{ran}
use Rattle.page.proofs.Laws.{ran_append, ran_length}
use Rattle.map.specs.Map.{used, beyond}
use Rattle.map.proofs.Laws.{Found, alloc_found, alloc_some}
use Rattle.chain.specs.declared.PagePointer.{PagePointer}
use Rattle.chain.specs.Links.{ids, Chain}
use Rattle.chain.specs.Steps.{read_at}
use Rattle.chain.specs.Files.{last_of}
use Rattle.chain.specs.Walk.{Each}
use Rattle.state.specs.declared.types.FileRecord.{FileRecord}
use Rattle.state.specs.declared.types.Writer.{Writer}
use Rattle.writer.specs.Staging.{staged_header, flush_stores, flushed, on_page, filled_by, space, pages_for}
use Rattle.writer.specs.Write.{Writing, staged, next_page, put, write_from}
use Rattle.writer.specs.Finish.{grown}
use Rattle.writer.specs.Inner.{stores_of, unstaged, Made, makes, Able}
use Rattle.writer.specs.Holds.{payloads, Trails, Holds, Undoes}
use Rattle.writer.proofs.Sounds.{space_some, space_on, pages_next, SoundAt, flushes, next_is}
use Rattle.writer.proofs.Cuts.{length_placed}
use Rattle.writer.proofs.Kept.{keep}
use Rattle.writer.proofs.Undone.{flush_undoes, page_undoes, put_undoes}
use Rattle.writer.proofs.Stored.{flush_stands, flush_chain, flush_trails, flush_bytes, new}

-- ---- pieces

-- bytes placed right behind the first n
pub take_placed : (s a : List ℕ) (n : ℕ) → n + length a ≤ length s → take (n + length a) (placed s n a) ≡ take n s ++ a
unfolding splice
take_placed s a n h =
    let e : length (take n s ++ a) ≡ n + length a = simp (length-append, length-take-le n s (omega arith)) in
    ap (take (n + length a)) (placed_in s n a h ∙ sym (append_assoc (take n s) a (drop (n + length a) s)))
    ∙ take_at (take n s ++ a) (drop (n + length a) s) (n + length a) e

pub set_taken : (m : List ℕ) (i j : ℕ) → i < length m → (get_or m j 1 ≡ 0 → ⊥) → get_or (set m i used) j 1 ≡ 0 → ⊥
set_taken m i j h n e = by (ℕ_discrete j i)
  where
    by : Dec (j ≡ i) → ⊥
    by (yes z) = let q : get_or (set m i used) i 1 ≡ 0 = subst (λ (k : ℕ). get_or (set m i used) k 1 ≡ 0) z e in omega (arith, get_or-set_same m i used 1 h)
    by (no z) = n (sym (get_or-set_other m i j used 1 z) ∙ e)

pub each_map : (P Q : ℕ → Type 0) → ((j : ℕ) → P j → Q j) → (l : List ℕ) → Each P l → Each Q l
each_map P Q f [] e = tt
each_map P Q f (j ∷ l) e = (f j e.0, each_map P Q f l e.1)

-- a writer with the same place behind the pages
trails_same : (count d : ℕ) (img : List ℕ) (x y : Writer) → y.previous ≡ x.previous → y.previous_header ≡ x.previous_header → y.seq ≡ x.seq
    → (l : List PagePointer) → Trails count d img x l → Trails count d img y l
trails_same count d img x y p h s [] t = p ∙ t
trails_same count d img x y p h s (q ∷ l) t =
    let e : record { page_id = y.previous; header = y.previous_header } ≡ q = rw (p, h) t.is in
    record { is = e; chain = t.chain; stands = t.stands; meets = t.meets ∙ sym s; inside = t.inside; long = t.long; written = t.written }

-- ---- a flush

-- where a page is staged, it is full
flush_holds : (count d : ℕ) → d ≤ 224 → (old : List PagePointer) (was : List ℕ) (z : Made) (l : List PagePointer) (b : List ℕ) → Holds count d z l b → Undoes old was z.map z.writer l → Able count z.cursor z.writer → space z.writer ≡ 0
    → (m : List PagePointer) × Holds count d (record { image = ran z.image (stores_of z.writer); map = z.map; cursor = z.cursor; writer = unstaged z.writer }) m b
    × Undoes old was z.map (unstaged z.writer) m
    × ((unstaged z.writer).page ≡ none)
unfolding flushed
flush_holds count d most old was z l b h o a e = by (eqb z.writer.page none) refl
  where
    by : (t : Bool) → eqb z.writer.page none ≡ t
        → (m : List PagePointer) × Holds count d (record { image = ran z.image (cond (not t) (flush_stores z.writer) []); map = z.map; cursor = z.cursor; writer = cond (not t) (flushed z.writer) z.writer }) m b
        × Undoes old was z.map (cond (not t) (flushed z.writer) z.writer) m
        × ((cond (not t) (flushed z.writer) z.writer).page ≡ none)
    by true t = (l, record { room = h.room; image = h.image; trails = h.trails; taken = h.taken; staged = h.staged; idle = h.idle; array = h.array; bytes = h.bytes }, o, eqb-true z.writer.page none t)
    by false t =
        let n = eqb-false z.writer.page none t in
        let x = z.writer in
        let s = h.staged n in
        let k = space_some z.writer n in
        let low : 1 ≤ z.writer.length = omega arith in
        let long : d ≤ z.writer.length = omega arith in
        let ar : z.writer.length ≤ length z.writer.staged = omega (arith, h.array, a.length) in
        let p : PagePointer = new count d z.image z.writer h.room low a.length a.end s.inside h.image ar l h.trails s.apart in (
          p ∷ l,
          record {
            room = h.room;
            image = rw (ran_length z.image (flush_stores z.writer)) h.image;
            trails = flush_trails count d z.image z.writer h.room low a.length a.end s.inside h.image ar l h.trails s.apart long;
            taken = (s.taken, h.taken);
            staged = λ q. absurd (q refl);
            idle = λ q. refl;
            array = h.array;
            bytes =
                append-nil (payloads (ran z.image (flush_stores z.writer)) (p ∷ l))
                ∙ flush_bytes count d z.image z.writer h.room low a.length a.end s.inside h.image ar l h.trails s.apart ∙ h.bytes;
          },
          flush_undoes old was z.map z.writer l o n,
          refl,
        )

-- ---- a page allocated

page_holds : (count d : ℕ) (z : Made) (l : List PagePointer) (b : List ℕ) (cursor i c : ℕ) → Holds count d z l b → z.writer.page ≡ none → Found z.map count cursor i
    → Holds count d (record { image = z.image; map = set z.map i used; cursor = c; writer = on_page z.writer i }) l b
unfolding on_page
page_holds count d z l b cursor i c h e f =
    record {
      room = h.room;
      image = h.image;
      trails = trails_same count d z.image z.writer (on_page z.writer i) refl refl refl l h.trails;
      taken = each_map (λ j. get_or z.map j 1 ≡ 0 → ⊥) (λ j. get_or (set z.map i used) j 1 ≡ 0 → ⊥) (λ j n. set_taken z.map i j f.within n) (ids l) h.taken;
      staged = λ n. record {
        inside = f.inside;
        taken = λ q. omega (arith, get_or-set_same z.map i used 1 f.within);
        apart = each_map (λ j. get_or z.map j 1 ≡ 0 → ⊥) (λ j. j ≡ i → ⊥) (λ j n q. n (ap (λ (k : ℕ). get_or z.map k 1) q ∙ f.free)) (ids l) h.taken;
      };
      idle = λ q. refl;
      array = h.array;
      bytes = ap (λ (k : ℕ). payloads z.image l ++ take k z.writer.staged) (sym (h.idle e)) ∙ h.bytes;
    }

-- ---- bytes put

put_holds : (count d : ℕ) (z : Made) (l : List PagePointer) (b a : List ℕ) → Holds count d z l b → 0 < space z.writer → length a ≤ space z.writer
    → Holds count d (record { image = z.image; map = z.map; cursor = z.cursor; writer = filled_by z.writer a }) l (b ++ a)
unfolding filled_by
put_holds count d z l b a h some k =
    let n = space_on z.writer some in
    let e = space_some z.writer n in
    record {
      room = h.room;
      image = h.image;
      trails = trails_same count d z.image z.writer (filled_by z.writer a) refl refl refl l h.trails;
      taken = h.taken;
      staged = h.staged;
      idle = λ q. absurd (n q);
      array = length_placed z.writer.staged z.writer.length a ∙ h.array;
      bytes =
          ap (λ (t : List ℕ). payloads z.image l ++ t) (take_placed z.writer.staged a z.writer.length (omega (arith, h.array)))
          ∙ sym (append_assoc (payloads z.image l) (take z.writer.length z.writer.staged) a)
          ∙ ap (λ (t : List ℕ). t ++ a) h.bytes;
    }

-- ---- a write

module _ (count d : ℕ) (most : d ≤ 224) (img : List ℕ) (old : List PagePointer) (was : List ℕ) where
  -- with the stores made so far
  abbrev pub Held : List ℕ → Writing → Type 0
  Held b x = (l : List PagePointer) × Holds count d (makes img x) l b × Undoes old was x.map x.writer l

  held_next : (b : List ℕ) (x : Writing) (n : ℕ) → SoundAt count n x → 0 < n → space x.writer ≡ 0 → Held b x → Held b (next_page count x)
  held_next b x n s some e h =
      let more : 0 < pages_for (space x.writer) n = rw e (omega (arith, pages_next n some)) in
      let a = alloc_some x.map count x.cursor (omega (arith, s.room more)) in
      let f = alloc_found x.map count x.cursor (omega (arith, s.able.cursor)) a.page a.is in
      let g = flush_holds count d most old was (makes img x) h.0 b h.1 h.2 s.able e in
      let o : a.page ≡ none → ⊥ = λ z. omega (arith, f.inside, s.able.few) in
      let q = page_holds count d _ g.0 b x.cursor a.page (beyond count a.page) g.1 g.3 f in
      let i : ran img (x.stores ++ stores_of x.writer) ≡ ran (ran img x.stores) (stores_of x.writer) = ran_append img x.stores (stores_of x.writer) in
      let r : Held b (staged count (flushes x) (Some a.page)) = (g.0, rw i q, page_undoes old was x.map (unstaged x.writer) g.0 g.2 a.page g.3 o f.free) in
      subst (Held b) (sym (next_is count x ∙ ap (staged count (flushes x)) a.is)) r

  held_put : (b : List ℕ) (x : Writing) (a : List ℕ) → Able count x.cursor x.writer → 0 < space x.writer → length a ≤ space x.writer → Held b x → Held (b ++ a) (put x a)
  held_put b x a s some k h = (h.0, put_holds count d (makes img x) h.0 b a h.1 some k, put_undoes old was x.map x.writer h.0 h.2 a)

  -- after a write the pages hold the bytes of before, and then those written
  pub write_holds : (b l : List ℕ) (x : Writing) → SoundAt count (length l) x → Held b x → Held (b ++ l) (write_from count (length l) l x)
  write_holds b l x s h =
      let e : length l ≡ length l + 0 = omega arith in
      (keep count Held held_next held_put 0 b l x (subst (λ (n : ℕ). SoundAt count n x) e s) h).1

-- ---- finish

-- the finished page is the last of a chain of full pages but itself, which stands in the image, and they hold all the bytes
pub record Finished (count d : ℕ) (img : List ℕ) (f : FileRecord) (l : List PagePointer) (b : List ℕ) : Type 0 where
  pub chain : Chain count d (read_at img) (last_of f) l
  pub stands : read_at img f.last_page ≡ readable f.header
  pub shaped : f.header.seq + f.header.length ≡ f.last_seq
  pub bytes : payloads img (last_of f ∷ l) ≡ b

pub finish_holds : (count d : ℕ) (z : Made) (l : List PagePointer) (b : List ℕ) (f : FileRecord) → Holds count d z l b → Able count z.cursor z.writer
    → (z.writer.page ≡ none → ⊥) → 1 ≤ z.writer.length → Finished count d (ran z.image (flush_stores z.writer)) (grown f z.writer) l b
unfolding grown staged_header
finish_holds count d z l b f h a n low =
    let s = h.staged n in
    let ar : z.writer.length ≤ length z.writer.staged = omega (arith, h.array, a.length) in
    record {
      chain = flush_chain count d z.image z.writer h.room low a.length a.end s.inside h.image ar l h.trails s.apart;
      stands = flush_stands count d z.image z.writer h.room low a.length a.end s.inside h.image ar l h.trails s.apart;
      shaped = refl;
      bytes = flush_bytes count d z.image z.writer h.room low a.length a.end s.inside h.image ar l h.trails s.apart ∙ h.bytes;
    }
