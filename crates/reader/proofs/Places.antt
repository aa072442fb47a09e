-- Theorems on the bytes of a read, on any image: where each byte stands, and when reading a + b bytes is reading a, then b.
-- Assumes nothing.
use mathlib.Core.Path.{◌≡◌, refl, sym, ap, ◌∙◌}
use mathlib.Core.List.{List, [], ◌++◌, append-nil}
use mathlib.Core.Logic.{inl, inr}
use Prim.Native.Nat.{ℕ, zero, suc, ◌+◌, ◌-◌, ◌<◌, ◌≤◌}
use native.Mathlib.Nat.{eq-zero-or-pos, eq-or-lt_of_le, add_assoc}
use native.Mathlib.Omega.{arith}
use lib.ListN.{length, take, drop, get_or, length-append, get_or-append}
use lib.Seq.{get_or-take, get_or-drop, get_or-append-add, take-add, drop-drop}
use Rattle.runs.specs.Runs.{part}
use Rattle.page.specs.Page.{page_of, payload_of}
use Rattle.page.proofs.Laws.{split}
use Rattle.page.proofs.Headers.{payload_part}
use Rattle.chain.specs.declared.PagePointer.{PagePointer}
use Rattle.chain.specs.Links.{end}
use Rattle.state.specs.declared.types.FileRecord.{FileRecord}
use Rattle.reader.specs.Read.{Opened, shut, shown, open_at, Bytes, none, some, before, here, bytes_here}
use Rattle.reader.proofs.Exits.{Shows, opened_says}
use Rattle.reader.proofs.Bytes.{here_le, here_some, here_length, before_nil, before_before, bytes, bytes_empty, bytes_shut, bytes_shown}

sub_both : (a b j : ℕ) → a + b - (a + j) ≡ b - j
sub_both a b j = omega arith

add_on : (k t s a : ℕ) → s ≤ t → k + (t - s) + a ≡ k + (t + a - s)
add_on k t s a h = omega arith

-- ---- parts

part_at : (l : List ℕ) (a n i : ℕ) → i < n → get_or (part l a n) i 0 ≡ get_or l (a + i) 0
unfolding part
part_at l a n i h = rw (get_or-take n (drop a l) i 0 h, get_or-drop a l i 0)

part_add : (l : List ℕ) (a m n : ℕ) → part l a (m + n) ≡ part l a m ++ part l (a + m) n
unfolding part
part_add l a m n = take-add m n (drop a l) ∙ ap (λ (x : List ℕ). take m (drop a l) ++ take n x) (drop-drop m a l)

-- bytes, and then bytes, where both are there
abbrev pub joined : Bytes → Bytes → Bytes
joined none y = none
joined (some l) y = before l y

joined_before : (l : List ℕ) (x y : Bytes) → joined (before l x) y ≡ before l (joined x y)
joined_before l none y = refl
joined_before l (some m) y = before_before l m y

module _ (img : List ℕ) (count : ℕ) (f : FileRecord) where
  -- ---- where each byte stands

  -- the k-th byte of a read from seq on is what a page that holds its number has there: the page that was opened for that number,
  -- or for an earlier one of the read
  pub record ByteOf (seq k v : ℕ) : Type 0 where
    pub page : PagePointer
    pub since : ℕ
    pub from : seq ≤ since
    pub upto : since ≤ seq + k
    pub opened : open_at img count f since ≡ shown page
    pub low : page.header.seq ≤ seq + k
    pub high : seq + k < end page
    pub is : v ≡ get_or (payload_of (page_of img page.page_id)) (seq + k - page.header.seq) 0

  -- of the first page
  byte_here : (seq n : ℕ) (p : PagePointer) → open_at img count f seq ≡ shown p → (k : ℕ) → k < here p seq n
      → ByteOf seq k (get_or (bytes_here img p seq n) k 0)
  byte_here seq n p e k h =
      let s = opened_says img count f seq p e in
      let lo = s.low in
      let hi = s.high in
      let pg = page_of img p.page_id in
      let at : 32 + (seq - p.header.seq) + k ≡ 32 + (seq + k - p.header.seq) = omega arith in
      record {
        page = p;
        since = seq;
        from = omega arith;
        upto = omega arith;
        opened = e;
        low = omega arith;
        high = omega arith;
        is =
            part_at pg (32 + (seq - p.header.seq)) (here p seq n) k h
            ∙ rw (payload_part pg p.header s.reads, at) (sym (part_at pg 32 p.header.length (seq + k - p.header.seq) (omega arith)));
      }

  -- of a later one
  byte_later : (seq j k v : ℕ) → j ≤ k → ByteOf (seq + j) (k - j) v → ByteOf seq k v
  byte_later seq j k v h b =
      let e : seq + j + (k - j) ≡ seq + k = omega arith in record {
        page = b.page;
        since = b.since;
        from = omega (arith, b.from);
        upto = omega (arith, b.upto);
        opened = b.opened;
        low = rw e at b.low;
        high = rw e at b.high;
        is = rw e at b.is;
      }

  abbrev Right : ℕ → ℕ → List ℕ → Type 0
  Right seq n l = (length l ≡ n) × ((k : ℕ) → k < n → ByteOf seq k (get_or l k 0))

  right_append : (seq n : ℕ) (p : PagePointer) (m : List ℕ) → open_at img count f seq ≡ shown p → Right (seq + here p seq n) (n - here p seq n) m
      → Right seq n (bytes_here img p seq n ++ m)
  right_append seq n p m e w =
      let s = opened_says img count f seq p e in
      let j = here p seq n in
      let b = bytes_here img p seq n in
      let lb : length (bytes_here img p seq n) ≡ here p seq n = here_length img seq n p s in
      let jn : here p seq n ≤ n = here_le img seq n p s in (
        rw (length-append b m) (omega (arith, w.0)),
        λ k h. split (j + 0) k
            (λ g.
            let at : k ≡ length (bytes_here img p seq n) + (k - here p seq n) = omega arith in
            let v : get_or (bytes_here img p seq n ++ m) k 0 ≡ get_or m (k - here p seq n) 0 =
            ap (λ (i : ℕ). get_or (b ++ m) i 0) at ∙ get_or-append-add b m (k - j) 0 in
            rw v (byte_later seq j k (get_or m (k - j) 0) (omega arith) (w.1 (k - j) (omega arith))))
            (λ g.
            let v : get_or (bytes_here img p seq n ++ m) k 0 ≡ get_or (bytes_here img p seq n) k 0 = get_or-append b m 0 k (omega arith) in
            rw v (byte_here seq n p e k (omega arith))),
      )

  -- a read that succeeds gives so many bytes, each from a page that holds its number
  right_none : (seq n : ℕ) (l : List ℕ) → n ≡ 0 → bytes img count f seq n ≡ some l → Right seq n l
  right_none seq n l h e =
      let z : some [] ≡ some l = sym (bytes_empty img count f zero seq) ∙ rw h at e in
      let nil : ◌≡◌ {A = List ℕ} [] l = cc in
      (sym (ap length nil) ∙ sym h, λ k i. absurd (omega arith))

  right_by : (g n seq : ℕ) (l : List ℕ) → n ≤ g → bytes img count f seq n ≡ some l → Right seq n l
  right_by zero n seq l h e = right_none seq n l (omega arith) e
  right_by (suc g) n seq l h e =
      elim (eq-zero-or-pos n) [
        | inl z ↦ right_none seq n l z e
        | inr pos ↦ go pos (open_at img count f seq) refl (λ m s k i d. right_by g m s k i d)
      ]
    where
      next : (p : PagePointer) → 0 < n → open_at img count f seq ≡ shown p
          → ((m s : ℕ) (k : List ℕ) → m ≤ g → bytes img count f s m ≡ some k → Right s m k)
          → (x : Bytes) → bytes img count f (seq + here p seq n) (n - here p seq n) ≡ x → before (bytes_here img p seq n) x ≡ some l → Right seq n l
      next p pos o r none d q = cc
      next p pos o r (some m) d q =
          let s = opened_says img count f seq p o in
          let a = here_some img seq n p s pos in
          let same : bytes_here img p seq n ++ m ≡ l = cc in
          rw (← same) (right_append seq n p m o (r (n - here p seq n) (seq + here p seq n) m (omega arith) d))

      go : 0 < n → (x : Opened) → open_at img count f seq ≡ x
          → ((m s : ℕ) (k : List ℕ) → m ≤ g → bytes img count f s m ≡ some k → Right s m k) → Right seq n l
      go pos shut o r = let z = sym (bytes_shut img count f seq n pos o) ∙ e in cc
      go pos (shown p) o r =
          next p pos o r (bytes img count f (seq + here p seq n) (n - here p seq n)) refl (sym (bytes_shown img count f seq n p pos o) ∙ e)

  pub bytes_right : (seq n : ℕ) (l : List ℕ) → bytes img count f seq n ≡ some l → (length l ≡ n) × ((k : ℕ) → k < n → ByteOf seq k (get_or l k 0))
  bytes_right seq n l e = right_by n n seq l (omega arith) e

  -- ---- a + b bytes

  -- of the numbers from lo up to hi, the page that opens for one opens for each later one that it holds. On an image that no writer
  -- made this may fail: two numbers of one page may be reached over different links, which name different pages.
  abbrev pub Steady : ℕ → ℕ → Type 0
  Steady lo hi = (t u : ℕ) (p : PagePointer) → lo ≤ t → t ≤ u → u < hi → open_at img count f t ≡ shown p → u < end p → open_at img count f u ≡ shown p

  module _ (lo hi : ℕ) (steady : Steady lo hi) where
    -- a read of a + b bytes, where the first page has the first a of them
    join_here : (a b seq : ℕ) (p : PagePointer) → 0 < a → lo ≤ seq → seq + a + b ≤ hi → open_at img count f seq ≡ shown p → seq + a ≤ end p
        → bytes img count f seq (a + b) ≡ before (bytes_here img p seq a) (bytes img count f (seq + a) b)
    join_here a b seq p pos l h o more =
        elim (eq-zero-or-pos b) [
          | inl z ↦ none_after z
          | inr after ↦ elim (eq-or-lt_of_le more) [ inl e ↦ at_end e | inr lt ↦ inside after lt ]
        ]
      where
        s : Shows img seq p
        s = opened_says img count f seq p o

        -- the page's part of the read ends with a
        ends : here p seq (a + b) ≡ a → bytes img count f seq (a + b) ≡ before (bytes_here img p seq a) (bytes img count f (seq + a) b)
        ends e =
            let same : here p seq a ≡ a = omega arith in
            let left : a + b - a ≡ b = omega arith in
            bytes_shown img count f seq (a + b) p (omega arith) o ∙ rw (e, left, same)

        none_after : b ≡ 0 → bytes img count f seq (a + b) ≡ before (bytes_here img p seq a) (bytes img count f (seq + a) b)
        none_after z = ends (omega arith)

        at_end : seq + a ≡ end p → bytes img count f seq (a + b) ≡ before (bytes_here img p seq a) (bytes img count f (seq + a) b)
        at_end e = ends (omega arith)

        inside : 0 < b → seq + a < end p → bytes img count f seq (a + b) ≡ before (bytes_here img p seq a) (bytes img count f (seq + a) b)
        inside after lt =
            let lw = s.low in
            let next = steady seq (seq + a) p l (omega arith) (omega arith) o lt in
            let j = here p (seq + a) b in
            let both : here p seq (a + b) ≡ a + here p (seq + a) b = omega arith in
            let same : here p seq a ≡ a = omega arith in
            let at : 32 + (seq - p.header.seq) + a ≡ 32 + (seq + a - p.header.seq) = add_on 32 seq p.header.seq a lw in
            let e1 : seq + (a + here p (seq + a) b) ≡ seq + a + here p (seq + a) b = sym (add_assoc seq a j) in
            let e2 : a + b - (a + here p (seq + a) b) ≡ b - here p (seq + a) b = sub_both a b j in
            let cut : part (page_of img p.page_id) (32 + (seq - p.header.seq)) (a + here p (seq + a) b)
            ≡ part (page_of img p.page_id) (32 + (seq - p.header.seq)) a ++ bytes_here img p (seq + a) b =
            rw (← at) (part_add (page_of img p.page_id) (32 + (seq - p.header.seq)) a j) in
            bytes_shown img count f seq (a + b) p (omega arith) o
            ∙ rw (both, cut, e1, e2, same, bytes_shown img count f (seq + a) b p after next)
            (before_before (part (page_of img p.page_id) (32 + (seq - p.header.seq)) a) (bytes_here img p (seq + a) b) (bytes img count f (seq + a + j) (b - j)))

    -- the first a of them alone
    first_here : (a seq : ℕ) (p : PagePointer) → 0 < a → open_at img count f seq ≡ shown p → seq + a ≤ end p
        → bytes img count f seq a ≡ some (bytes_here img p seq a)
    first_here a seq p pos o more =
        let s = opened_says img count f seq p o in
        let lw = s.low in
        let same : here p seq a ≡ a = omega arith in
        let left : a - here p seq a ≡ 0 = omega arith in
        bytes_shown img count f seq a p pos o
        ∙ rw (left, bytes_empty img count f 0 (seq + here p seq a)) (ap some (append-nil (bytes_here img p seq a)))

    split_none : (a b seq : ℕ) → a ≡ 0 → bytes img count f seq (a + b) ≡ joined (bytes img count f seq a) (bytes img count f (seq + a) b)
    split_none a b seq z =
        let e1 : a + b ≡ b = omega arith in
        let e2 : seq + a ≡ seq = omega arith in
        rw (e1, e2, z, bytes_empty img count f 0 seq) (sym (before_nil (bytes img count f seq b)))

    split_by : (g a b seq : ℕ) → a ≤ g → lo ≤ seq → seq + a + b ≤ hi
        → bytes img count f seq (a + b) ≡ joined (bytes img count f seq a) (bytes img count f (seq + a) b)
    split_by zero a b seq h l k = split_none a b seq (omega arith)
    split_by (suc g) a b seq h l k =
        elim (eq-zero-or-pos a) [
          | inl z ↦ split_none a b seq z
          | inr pos ↦ go pos (open_at img count f seq) refl (λ c d s i m n. split_by g c d s i m n)
        ]
      where
        go : 0 < a → (x : Opened) → open_at img count f seq ≡ x
            → ((c d s : ℕ) → c ≤ g → lo ≤ s → s + c + d ≤ hi → bytes img count f s (c + d) ≡ joined (bytes img count f s c) (bytes img count f (s + c) d))
            → bytes img count f seq (a + b) ≡ joined (bytes img count f seq a) (bytes img count f (seq + a) b)
        go pos shut o r = rw (bytes_shut img count f seq (a + b) (omega arith) o, bytes_shut img count f seq a pos o)
        go pos (shown p) o r =
            split (seq + a) (end p)
            (λ m. join_here a b seq p pos l k o m ∙ rw (first_here a seq p pos o m))
            (λ m.
            let s = opened_says img count f seq p o in
            let lw = s.low in
            let hw = s.high in
            let j = here p seq a in
            let same : here p seq (a + b) ≡ here p seq a = omega arith in
            let e1 : a + b - here p seq a ≡ a - here p seq a + b = omega arith in
            let e2 : seq + here p seq a + (a - here p seq a) ≡ seq + a = omega arith in
            let later : bytes img count f (seq + here p seq a) (a - here p seq a + b)
            ≡ joined (bytes img count f (seq + here p seq a) (a - here p seq a)) (bytes img count f (seq + a) b) =
            rw e2 at (r (a - j) b (seq + j) (omega arith) (omega arith) (omega arith)) in
            let whole : bytes img count f seq (a + b)
            ≡ before (bytes_here img p seq a) (joined (bytes img count f (seq + here p seq a) (a - here p seq a)) (bytes img count f (seq + a) b)) =
            bytes_shown img count f seq (a + b) p (omega arith) o ∙ rw (same, e1, later) in
            whole
            ∙ sym (joined_before (bytes_here img p seq a) (bytes img count f (seq + j) (a - j)) (bytes img count f (seq + a) b))
            ∙ ap (λ (x : Bytes). joined x (bytes img count f (seq + a) b)) (sym (bytes_shown img count f seq a p pos o)))

    -- reading a + b bytes is reading a, then b, wherever the split falls
    pub bytes_split : (a b seq : ℕ) → lo ≤ seq → seq + a + b ≤ hi
        → bytes img count f seq (a + b) ≡ joined (bytes img count f seq a) (bytes img count f (seq + a) b)
    bytes_split a b seq l k = split_by a a b seq (omega arith) l k
