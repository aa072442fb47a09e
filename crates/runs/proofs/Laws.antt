-- Laws of parts and splices. A part of a splice is the part as it was where the two lie apart, and a splice of the part where the
-- run lies inside.
-- Assumes nothing.
use Prim.Native.Nat.{ℕ, zero, suc, ◌+◌, ◌-◌, ◌*◌, ◌/◌, ◌%◌, ◌≤◌, ◌<◌}
use mathlib.Core.Path.{◌≡◌, refl, sym, ap, ap₂, ◌∙◌}
use mathlib.Core.List.{List, [], ◌∷◌, ◌++◌, append-nil, append_assoc}
use mathlib.Core.Bool.{Bool, true, false, cond, ◌&&◌}
use Rattle.std.specs.List.{list_all}
use native.Mathlib.Nat.{add-zero, zero-add, suc-add, add_assoc, sub-zero, zero-sub, suc-sub-suc, div-div-eq-div-mul, le_of_suc-le-suc, not-suc-le-zero}
use native.Mathlib.Omega.{arith}
use native.Mathlib.Numerals.{add-one}
use lib.ListN.{length, take, drop, get_or, set, replicate, length-append, length-take, length-drop, drop_of_length-le, get_or-eq_default}
use lib.Dec.{eqb}
use lib.Seq.{get_or-drop, take_all, take-length, length-take-le, take-nil, take-take, drop-drop, take-add, drop_at, take-append-le, take-append-add, drop-cons, get_or-take}
use borrow.Rule.Slice.PartMut.{put_mid}
use borrow.Author.Tests.{le-leb, lt-leb}
use Rattle.runs.specs.Runs.{part, part_of, splice, placed, le16, le32, all_erased}

pub cond_same {ℓ} : {X : Type ℓ} (b : Bool) (x : X) → cond b x x ≡ x
cond_same true x = refl
cond_same false x = refl

-- a choice, by its test
pub cond_by {ℓ} : {X : Type 0} {R : Type ℓ} (b : Bool) (x y z : X) → cond b x y ≡ z → (b ≡ true → x ≡ z → R) → (b ≡ false → y ≡ z → R) → R
cond_by true x y z h f g = f refl h
cond_by false x y z h f g = g refl h

-- ---- a loop that copies

copy_suc : (s d : List ℕ) (i : ℕ) → i < length s → i < length d → set (take i s ++ drop i d) i (get_or s i 0) ≡ take (suc i) s ++ drop (suc i) d
copy_suc [] d i h k = absurd (not-suc-le-zero h)
copy_suc (x ∷ s) [] i h k = absurd (not-suc-le-zero k)
copy_suc (x ∷ s) (y ∷ d) zero h k = refl
copy_suc (x ∷ s) (y ∷ d) (suc i) h k = ap (λ (l : List ℕ). x ∷ l) (copy_suc s d i (le_of_suc-le-suc h) (le_of_suc-le-suc k))

-- a store of s's byte at i takes a copy of i bytes to one of i + 1
pub copy_more : (s d : List ℕ) (i : ℕ) → i < length s → i < length d → set (take i s ++ drop i d) i (get_or s i 0) ≡ take (i + 1) s ++ drop (i + 1) d
copy_more s d i h k = rw add-one (copy_suc s d i h k)

-- a copy of all
pub copy_all : (s d : List ℕ) (i : ℕ) → i ≤ length s → length s ≤ i → length d ≡ length s → take i s ++ drop i d ≡ s
copy_all s d i h k e =
    let a : i ≡ length s = omega arith in
    let b : length d ≤ i = omega arith in
    rw (drop_of_length-le d b, a, take-length s) (append-nil s)

-- ---- parts and splices

-- a part, dropped first or taken first
pub drop_take : (a n : ℕ) (l : List ℕ) → take n (drop a l) ≡ drop a (take (a + n) l)
drop_take zero n l = rw zero-add
drop_take (suc a) n [] = rw (take-nil, take-nil)
drop_take (suc a) n (x ∷ l) = rw suc-add (drop_take a n l)

pub length_splice : (l : List ℕ) (at : ℕ) (r : List ℕ) → at + length r ≤ length l → length (splice l at r) ≡ length l
unfolding splice
length_splice l at r h = simp (length-append, length-take, length-drop) (omega arith)

-- before the run
pub take_splice : (l : List ℕ) (at : ℕ) (r : List ℕ) (n : ℕ) → n ≤ at → at ≤ length l → take n (splice l at r) ≡ take n l
unfolding splice
take_splice l at r n h k =
    let e : n ≤ length (take at l) = simp length-take (omega arith) in
    take-append-le n (take at l) (r ++ drop (at + length r) l) e ∙ take-take n at l h

-- after the run
pub drop_splice : (l : List ℕ) (at : ℕ) (r : List ℕ) (n : ℕ) → at + length r ≤ n → at ≤ length l → drop n (splice l at r) ≡ drop n l
unfolding splice
drop_splice l at r n h k =
    let m = at + length r in
    let e : length (take at l ++ r) ≡ at + length r = simp (length-append, length-take-le at l k) in
    let f : n ≡ m + (n - m) = omega arith in
    let g : drop m (take at l ++ (r ++ drop m l)) ≡ drop m l =
    ap (drop m) (sym (append_assoc (take at l) r (drop m l))) ∙ drop_at (take at l ++ r) (drop m l) m e in
    ap (λ (i : ℕ). drop i (take at l ++ (r ++ drop m l))) f
    ∙ sym (drop-drop (n - m) m (take at l ++ (r ++ drop m l)))
    ∙ ap (drop (n - m)) g
    ∙ drop-drop (n - m) m l
    ∙ ap (λ (i : ℕ). drop i l) (sym f)

-- from some way before the run on
pub drop_splice_add : (l : List ℕ) (a o : ℕ) (r : List ℕ) → a ≤ length l → drop a (splice l (a + o) r) ≡ splice (drop a l) o r
unfolding splice
drop_splice_add l a o r k =
    let t = r ++ drop (a + o + length r) l in
    ap (drop a) (ap (λ (x : List ℕ). x ++ t) (take-add a o l) ∙ append_assoc (take a l) (take o (drop a l)) t)
    ∙ drop_at (take a l) (take o (drop a l) ++ t) a (length-take-le a l k)
    ∙ ap (λ (x : List ℕ). take o (drop a l) ++ (r ++ x))
    (ap (λ (n : ℕ). drop n l) (add_assoc a o (length r)) ∙ sym (drop-drop (o + length r) a l))

-- up to some way after it
pub take_splice_add : (l : List ℕ) (o : ℕ) (r : List ℕ) (n : ℕ) → o + length r ≤ n → n ≤ length l → take n (splice l o r) ≡ splice (take n l) o r
unfolding splice
take_splice_add l o r n h k =
    let m = o + length r in
    let j = n - m in
    let xs = take o l ++ r in
    let ho : o ≤ n = omega arith in
    let hl : o ≤ length l = omega arith in
    let e : length (take o l ++ r) ≡ o + length r = simp (length-append, length-take-le o l hl) in
    let f : n ≡ m + j = omega arith in
    let f' : n ≡ length xs + j = omega arith in
    ap (take n) (sym (append_assoc (take o l) r (drop m l)))
    ∙ ap (λ (i : ℕ). take i (xs ++ drop m l)) f'
    ∙ take-append-add xs (drop m l) j
    ∙ append_assoc (take o l) r (take j (drop m l))
    ∙ ap₂ (λ (x y : List ℕ). x ++ (r ++ y)) (sym (take-take o n l ho)) (drop_take m j l ∙ ap (λ (i : ℕ). drop m (take i l)) (sym f))

-- a run in the place of all
pub splice_all : (l r : List ℕ) → length r ≡ length l → splice l 0 r ≡ r
unfolding splice
splice_all l r e =
    let h : length l ≤ 0 + length r = omega arith in
    rw (drop_of_length-le l h) (append-nil r)

pub length_part : (l : List ℕ) (a n : ℕ) → a + n ≤ length l → length (part l a n) ≡ n
unfolding part
length_part l a n h = simp (length-take, length-drop) (omega arith)

module _ (l : List ℕ) (at : ℕ) (r : List ℕ) (a n : ℕ) where
  pub part_before : a + n ≤ at → at ≤ length l → part (splice l at r) a n ≡ part l a n
  unfolding part
  part_before h k = drop_take a n (splice l at r) ∙ ap (drop a) (take_splice l at r (a + n) h k) ∙ sym (drop_take a n l)

  pub part_after : at + length r ≤ a → at ≤ length l → part (splice l at r) a n ≡ part l a n
  unfolding part
  part_after h k = ap (take n) (drop_splice l at r a h k)

-- the run lies inside the part
pub part_inside : (l : List ℕ) (a o : ℕ) (r : List ℕ) (n : ℕ) → a + n ≤ length l → o + length r ≤ n → part (splice l (a + o) r) a n ≡ splice (part l a n) o r
unfolding part
part_inside l a o r n h k =
    let d : n ≤ length (drop a l) = simp length-drop (omega arith) in
    ap (take n) (drop_splice_add l a o r (omega arith)) ∙ take_splice_add (drop a l) o r n k d

-- a part that is there, and one that is not
pub part_of_in : (l : List ℕ) (at n : ℕ) → at + n ≤ length l → part_of l at n ≡ part l at n
unfolding part_of
part_of_in l at n h = simp (le-leb _ _ h)

pub part_of_out : (l : List ℕ) (at n : ℕ) → length l < at + n → part_of l at n ≡ []
unfolding part_of
part_of_out l at n h = simp (lt-leb _ _ h)

-- the rest of a slice, as the rule for a part says it
pub rest_drop : (a : ℕ) (l : List ℕ) → take (length l - a) (drop a l) ≡ drop a l
rest_drop a l = take_all (length l - a) (drop a l) (simp length-drop (omega arith))

-- what a part that was lent and has come back makes of the whole
pub put_splice : (l : List ℕ) (at k : ℕ) (r : List ℕ) → k ≡ length r → put_mid at k l r ≡ splice l at r
unfolding splice
put_splice l at k r e = rw (e, drop-drop (length r) at l)

pub drop_replicate : (k n v : ℕ) → drop k (replicate n v) ≡ replicate (n - k) v
drop_replicate zero n v = rw sub-zero
drop_replicate (suc k) zero v = rw zero-sub
drop_replicate (suc k) (suc n) v = rw suc-sub-suc (drop_replicate k n v)

-- ---- a list by its elements

-- f at k, at k + 1 and so on, n of them
abbrev pub tab : (ℕ → ℕ) → ℕ → ℕ → List ℕ
tab f k zero = []
tab f k (suc n) = f k ∷ tab f (suc k) n

pub tab_ext : (f g : ℕ → ℕ) → ((i : ℕ) → f i ≡ g i) → (k n : ℕ) → tab f k n ≡ tab g k n
tab_ext f g e k zero = refl
tab_ext f g e k (suc n) = ap₂ (λ (x : ℕ) (l : List ℕ). x ∷ l) (e k) (tab_ext f g e (suc k) n)

pub tab_drop : (l : List ℕ) (k n : ℕ) → k + n ≡ length l → tab (λ i. get_or l i 0) k n ≡ drop k l
tab_drop l k zero e = let h : length l ≤ k = omega arith in sym (drop_of_length-le l h)
tab_drop l k (suc n) e =
    let h : k < length l = omega arith in
    let f : suc k + n ≡ length l = omega arith in
    rw (tab_drop l (suc k) n f) (sym (drop-cons l k 0 h))

-- the number of two bytes, and of four, as they were cut from it
pub val16 : (n : ℕ) → n < 65536 → n % 256 + n / 256 % 256 * 256 ≡ n
val16 n h = omega arith

low16 : (n : ℕ) → n % 256 + n / 256 % 256 * 256 ≡ n % 65536
low16 n =
    let a : n / 65536 ≡ n / 256 / 256 = sym (div-div-eq-div-mul n 256 256) in
    let b : n % 65536 ≡ n - n / 65536 * 65536 = omega arith in
    rw (b, a) (omega arith)

pub val32 : (n : ℕ) → n < 4294967296 → n % 256 + n / 256 % 256 * 256 + (n / 65536 % 256 + n / 16777216 % 256 * 256) * 65536 ≡ n
val32 n h =
    let b : n / 16777216 ≡ n / 65536 / 256 = sym (div-div-eq-div-mul n 65536 256) in
    rw (b, low16 n, val16 (n / 65536) (omega arith)) (omega arith)

-- past the end the fields are 0
pub le16_past : (l : List ℕ) (at : ℕ) → length l ≤ at → le16 l at ≡ 0
unfolding le16
le16_past l at h =
    let k : length l ≤ at + 1 = omega arith in
    rw (get_or-eq_default l 0 h, get_or-eq_default l 0 k)

pub le32_past : (l : List ℕ) (at : ℕ) → length l ≤ at → le32 l at ≡ 0
unfolding le32
le32_past l at h =
    let k : length l ≤ at + 2 = omega arith in
    rw (le16_past l at h, le16_past l (at + 2) k)

-- a field of what is left from some way on
pub le16_drop : (l : List ℕ) (a i : ℕ) → le16 (drop a l) i ≡ le16 l (a + i)
unfolding le16
le16_drop l a i = rw (get_or-drop a l i 0, get_or-drop a l (i + 1) 0, add_assoc a i 1)

pub le16_here : (l : List ℕ) (a : ℕ) → le16 (drop a l) 0 ≡ le16 l a
le16_here l a = rw (le16_drop l a 0, add-zero a)

pub le32_here : (l : List ℕ) (a : ℕ) → le32 (drop a l) 0 ≡ le32 l a
unfolding le32
le32_here l a = rw (le16_here l a, le16_drop l a 2)

-- a field inside what is taken
pub le16_take : (n : ℕ) (l : List ℕ) (at : ℕ) → at + 1 < n → le16 (take n l) at ≡ le16 l at
unfolding le16
le16_take n l at h =
    let k : at < n = omega arith in
    rw (get_or-take n l at 0 k, get_or-take n l (at + 1) 0 h)

pub le32_take : (n : ℕ) (l : List ℕ) (at : ℕ) → at + 3 < n → le32 (take n l) at ≡ le32 l at
unfolding le32
le32_take n l at h = rw (le16_take n l at (omega arith), le16_take n l (at + 2) (omega arith))

pub placed_in : (l : List ℕ) (at : ℕ) (r : List ℕ) → at + length r ≤ length l → placed l at r ≡ splice l at r
unfolding placed
placed_in l at r h = simp (le-leb _ _ h)

pub placed_out : (l : List ℕ) (at : ℕ) (r : List ℕ) → length l < at + length r → placed l at r ≡ l
unfolding placed
placed_out l at r h = simp (lt-leb _ _ h)

-- ---- erased runs

-- the test of each byte
pub erased_all : (bs : List ℕ) → list_all (λ x. eqb x 255) bs ≡ all_erased bs
erased_all [] = refl
erased_all (x ∷ bs) = by (eqb x 255) (erased_all bs)
  where
    by : (b : Bool) → list_all (λ x. eqb x 255) bs ≡ all_erased bs → (b && list_all (λ x. eqb x 255) bs) ≡ cond b (all_erased bs) false
    by true ih = ih
    by false ih = refl
