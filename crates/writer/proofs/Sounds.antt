-- What holds on the way through a write: the sums fit, there is room for what is left, and so a page is found whenever one is needed.
-- Assumes nothing.
use Rattle.std.specs.Prelude.{Some}
use Prim.Native.Nat.{ℕ, ◌+◌, ◌-◌, min, ◌≤◌, ◌<◌}
use mathlib.Core.Path.{◌≡◌, refl, sym, ap, subst, ◌∙◌}
use mathlib.Core.Bool.{Bool, true, false, cond, not}
use mathlib.Core.List.{List, [], ◌++◌, append-nil}
use native.Mathlib.Omega.{arith}
use native.Mathlib.Nat.{pos_of_ne-zero}
use borrow.Author.Tests.{le-leb, lt-leb, eq-eqb, ne_eqb, eqb-true, eqb-false}
use lib.Dec.{eqb}
use lib.ListN.{length, take, drop, length-take, length-drop}
use Rattle.seq.specs.Ids.{none}
use Rattle.page.specs.Store.{Store}
use Rattle.page.proofs.Laws.{split}
use Rattle.map.specs.Map.{alloc_of}
use Rattle.map.proofs.Laws.{alloc_found, alloc_count, alloc_some, beyond_inside}
use Rattle.state.specs.declared.types.Writer.{Writer}
use Rattle.writer.specs.Staging.{is_staged, flush_stores, flushed, on_page, filled_by, space, pages_for}
use Rattle.writer.specs.Write.{Writing, flush, staged, next_page, ready, put}
use Rattle.writer.specs.Inner.{stores_of, unstaged, Sound}

-- ---- room

pub space_none : (x : Writer) → x.page ≡ none → space x ≡ 0
unfolding space
space_none x e = rw (eq-eqb x.page none e)

pub space_some : (x : Writer) → (x.page ≡ none → ⊥) → space x ≡ 224 - x.length
unfolding space
space_some x n = rw (ne_eqb x.page none n)

-- where there is room a page is staged
pub space_on : (x : Writer) → 0 < space x → x.page ≡ none → ⊥
space_on x h e = omega (arith, space_none x e)

pub pages_none : (left len : ℕ) → len ≤ left → pages_for left len ≡ 0
unfolding pages_for
pages_none left len h = rw (le-leb len left h)

-- a page more begins
pub pages_next : (len : ℕ) → 0 < len → pages_for 0 len ≡ 1 + pages_for 224 len
unfolding pages_for
pages_next len h =
    split len 224 (λ k. rw (lt-leb len 0 h, le-leb len 224 k) (omega arith))
    (λ k. rw (lt-leb len 0 h, lt-leb len 224 k) (omega arith))

-- some bytes more are on the page
pub pages_part : (left a len : ℕ) → a ≤ left → pages_for (left - a) len ≡ pages_for left (a + len)
unfolding pages_for
pages_part left a len h =
    split (a + len) left (λ k. let j : len ≤ left - a = omega arith in rw (le-leb len (left - a) j, le-leb (a + len) left k))
    (λ k. let j : left - a < len = omega arith in rw (lt-leb len (left - a) j, lt-leb (a + len) left k) (omega arith))

pub pages_mono : (left k len : ℕ) → k ≤ len → pages_for left k ≤ pages_for left len
unfolding pages_for
pages_mono left k len h =
    split k left (λ a. rw (le-leb k left a) (omega arith))
    (λ a. let b : left < len = omega arith in rw (lt-leb k left a, lt-leb len left b) (omega arith))

-- ---- kept by each step

abbrev pub SoundAt : ℕ → ℕ → Writing → Type 0
SoundAt count len x = Sound count len x.map x.cursor x.writer

-- the numbers after a flush of a page with no room
pub record Past (x y : Writer) : Type 0 where
  pub end : y.seq ≤ x.seq + x.length
  pub stored : y.stored ≤ y.seq

past : (x : Writer) → x.stored ≤ x.seq → x.length ≤ 224 → space x ≡ 0 → Past x (unstaged x)
unfolding flushed
past x s l e = by (eqb x.page none) refl
  where
    by : (b : Bool) → eqb x.page none ≡ b → Past x (cond (not b) (flushed x) x)
    by true t = record { end = omega arith; stored = s }
    by false t = let k = space_some x (eqb-false x.page none t) in record { end = omega arith; stored = omega arith }

-- a flush, by the writer
abbrev pub flushes : Writing → Writing
flushes x = record { stores = x.stores ++ stores_of x.writer; map = x.map; cursor = x.cursor; writer = unstaged x.writer }

pub flush_is : (x : Writing) → flush x ≡ flushes x
unfolding flush
flush_is x = by (is_staged x.writer)
  where
    shut : List Store → Writer → Writing
    shut s w = record { stores = x.stores ++ s; map = x.map; cursor = x.cursor; writer = w }

    by : (b : Bool) → cond b (shut (flush_stores x.writer) (flushed x.writer)) x ≡ shut (cond b (flush_stores x.writer) []) (cond b (flushed x.writer) x.writer)
    by true = refl
    by false = sym (ap (λ (s : List Store). record { stores = s; map = x.map; cursor = x.cursor; writer = x.writer }) (append-nil x.stores))

pub next_is : (count : ℕ) (x : Writing) → next_page count x ≡ staged count (flushes x) (alloc_of x.map count x.cursor)
unfolding next_page
next_is count x = rw (flush_is x)

-- Full is never met where there is room: a page is found, and then there is room on it
pub record Readied (count len : ℕ) (y : Writing) : Type 0 where
  pub sound : SoundAt count len y
  pub space : 0 < space y.writer

next_readied : (count len : ℕ) (x : Writing) → SoundAt count len x → 0 < len → space x.writer ≡ 0 → Readied count len (next_page count x)
unfolding on_page
next_readied count len x h some e =
    let more : 0 < pages_for (space x.writer) len = rw e (omega (arith, pages_next len some)) in
    let room = rw e at (h.room more) in
    let a = alloc_some x.map count x.cursor (omega arith) in
    let i = a.page in
    let f = alloc_found x.map count x.cursor (omega (arith, h.able.cursor)) i a.is in
    let k = alloc_count x.map count x.cursor (omega (arith, h.able.cursor)) i a.is in
    let g = past x.writer h.able.stored h.able.length e in
    let n : i ≡ none → ⊥ = λ z. omega (arith, f.inside, h.able.few) in
    let w = on_page (unstaged x.writer) i in
    let s : space w ≡ 224 = space_some w n ∙ omega arith in
    let o : SoundAt count len (staged count (flushes x) (Some i)) =
    record {
      able = record {
        few = h.able.few;
        cursor = beyond_inside count i (omega (arith, h.able.cursor));
        end = omega (arith, g.end, h.able.end);
        stored = g.stored;
        length = omega arith;
      };
      end = omega (arith, g.end, h.end);
      room = λ _. rw s (omega (arith, pages_next len some));
    } in
    let r : Readied count len (staged count (flushes x) (Some i)) = record { sound = o; space = rw s (omega arith) } in
    rw (next_is count x, a.is) r

pub ready_readied : (count len : ℕ) (x : Writing) → SoundAt count len x → 0 < len → Readied count len (ready count x)
unfolding ready
ready_readied count len x h some = by (eqb (space x.writer) 0) refl
  where
    by : (b : Bool) → eqb (space x.writer) 0 ≡ b → Readied count len (cond b (next_page count x) x)
    by true t = next_readied count len x h some (eqb-true (space x.writer) 0 t)
    by false t = let n = eqb-false (space x.writer) 0 t in record { sound = h; space = pos_of_ne-zero n }

-- some bytes put where there is room for them
pub part_sound : (count len : ℕ) (x : Writing) (a : List ℕ) → SoundAt count (length a + len) x → 0 < space x.writer → length a ≤ space x.writer
    → SoundAt count len (put x a)
unfolding filled_by
part_sound count len x a h some k =
    let n = space_on x.writer some in
    let e = space_some x.writer n in
    let z : space (filled_by x.writer a) ≡ space x.writer - length a = space_some (filled_by x.writer a) n ∙ omega arith in
    let q : pages_for (space (filled_by x.writer a)) len ≡ pages_for (space x.writer) (length a + len) =
    ap (λ (s : ℕ). pages_for s len) z ∙ pages_part (space x.writer) (length a) len k in
    record {
      able = record {
        few = h.able.few;
        cursor = h.able.cursor;
        end = omega (arith, h.end);
        stored = h.able.stored;
        length = omega (arith, h.able.length);
      };
      end = omega (arith, h.end);
      room = λ g. rw q (h.room (rw q at g));
    }

-- as many as there is room for
pub put_sound : (count : ℕ) (x : Writing) (l : List ℕ) → SoundAt count (length l) x → 0 < space x.writer
    → SoundAt count (length (drop (space x.writer) l)) (put x (take (space x.writer) l))
put_sound count x l h some =
    let s = space x.writer in
    let t : length (take (space x.writer) l) ≡ min (space x.writer) (length l) = length-take (space x.writer) l in
    let d : length (drop (space x.writer) l) ≡ length l - space x.writer = length-drop (space x.writer) l in
    let e : length l ≡ length (take (space x.writer) l) + length (drop (space x.writer) l) = omega arith in
    part_sound count (length (drop (space x.writer) l)) x (take (space x.writer) l) (subst (λ (n : ℕ). SoundAt count n x) e h) some (omega arith)

-- fewer bytes
pub less_sound : {count len at : ℕ} {m : List ℕ} (x : Writer) (k : ℕ) → k ≤ len → Sound count len m at x → Sound count k m at x
less_sound {len = len} x k l h =
    let q = pages_mono (space x) k len l in
    record { able = h.able; end = omega (arith, h.end); room = λ g. omega (arith, h.room (omega arith)) }
