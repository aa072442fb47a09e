-- Pages and stores of any image. A store makes of its page the splice of that page, and leaves every other page and the length.
-- Assumes nothing.
use Prim.Native.Nat.{ℕ, zero, suc, ◌+◌, ◌-◌, ◌*◌, ◌/◌, ◌≤◌, ◌<◌}
use mathlib.Core.Path.{◌≡◌, refl, sym, ap, ◌∙◌}
use mathlib.Core.List.{List, [], ◌∷◌, ◌++◌}
use mathlib.Core.Bool.{and-false}
use native.Mathlib.Decide.{dec_le, ℕ_discrete}
use native.Mathlib.Nat.{lt_of_not-le, not-suc-le-zero}
use native.Mathlib.Omega.{arith}
use lib.ListN.{length, take, drop, get_or, replicate}
use lib.Seq.{take-take, drop-drop}
use borrow.Rule.Slice.PartMut.{put_mid}
use Rattle.std.proofs.lemmas.List.{take-append-drop, take-replicate}
use borrow.Author.Tests.{lt-ltb, le-ltb, le-leb, lt-leb}
use Rattle.runs.specs.Runs.{part, part_of, splice, placed}
use Rattle.runs.proofs.Laws.{length_splice, take_splice, drop_splice, length_part, placed_in, placed_out, part_before, part_after, part_inside, part_of_in, splice_all, drop_replicate}
use Rattle.page.specs.Page.{page_of, Bytes}
use Rattle.page.specs.Store.{Store, erase, program, page_at, off_at, run_at, stored, ran, Cleans}

-- one order or the other
pub split {ℓ} : {X : Type ℓ} (a b : ℕ) → (a ≤ b → X) → (b < a → X) → X
split a b f g = elim (dec_le a b) [ yes h ↦ f h | no h ↦ g (lt_of_not-le h) ]

-- ---- pages

-- a page that is there has 256 bytes
pub page_length : (img : List ℕ) (p : ℕ) → p < length img / 256 → length (page_of img p) ≡ 256
unfolding page_of
page_length img p h = rw (lt-ltb _ _ h) (length_part img (p * 256) 256 (omega arith))

-- one that is not has none
pub page_none : (img : List ℕ) (p : ℕ) → length img / 256 ≤ p → page_of img p ≡ []
unfolding page_of
page_none img p h = rw (le-ltb _ _ h)

-- no page has more
pub page_most : (img : List ℕ) (p : ℕ) → length (page_of img p) ≤ 256
page_most img p = split (length img / 256) p (λ h. rw (page_none img p h) (omega arith)) (λ h. rw (page_length img p h) (omega arith))

-- a page with a byte is there
pub page_there : (img : List ℕ) (p : ℕ) → 0 < length (page_of img p) → p < length img / 256
page_there img p h = split (length img / 256) p (λ k. absurd (not-suc-le-zero (rw (page_none img p k) at h))) (λ k. k)

-- ---- one store

module _ (img : List ℕ) (s : Store) where
  -- a store into the image, one to a page that is not there, and one past the page's end
  pub stored_in : page_at s < length img / 256 → off_at s + length (run_at s) ≤ 256 → stored img s ≡ splice img (page_at s * 256 + off_at s) (run_at s)
  unfolding stored
  stored_in h k = rw (lt-ltb _ _ h, le-leb _ _ k)

  pub stored_out : length img / 256 ≤ page_at s → stored img s ≡ img
  unfolding stored
  stored_out h = rw (le-ltb _ _ h)

  pub stored_past : 256 < off_at s + length (run_at s) → stored img s ≡ img
  unfolding stored
  stored_past k = rw (lt-leb _ _ k, and-false)

  -- what holds of the image, and of the image with the run in a page of it, holds after the store
  pub by_store : (P : List ℕ → Type 0) → P img
      → (page_at s < length img / 256 → off_at s + length (run_at s) ≤ 256 → P (splice img (page_at s * 256 + off_at s) (run_at s)))
      → P (stored img s)
  by_store P same put =
      split (length img / 256) (page_at s) (λ h. rw (stored_out h) same)
      (λ h. split (off_at s + length (run_at s)) 256 (λ k. rw (stored_in h k) (put h k)) (λ k. rw (stored_past k) same))

  -- the length is as it was
  pub stored_length : length (stored img s) ≡ length img
  stored_length =
      by_store (λ l. length l ≡ length img) refl (λ h k. length_splice img (page_at s * 256 + off_at s) (run_at s) (omega arith))

  -- so is any other page
  pub other_page : (q : ℕ) → (q ≡ page_at s → ⊥) → page_of (stored img s) q ≡ page_of img q
  unfolding page_of
  other_page q h =
      by_store (λ l. page_of l q ≡ page_of img q) refl
      (λ k m.
      let at = page_at s * 256 + off_at s in
      let n : page_at s * 256 + off_at s + length (run_at s) ≤ length img = omega arith in
      let e : part (splice img (page_at s * 256 + off_at s) (run_at s)) (q * 256) 256 ≡ part img (q * 256) 256 =
      split (q + 1) (page_at s) (λ g. part_before img at (run_at s) (q * 256) 256 (omega arith) (omega arith))
      (λ g. part_after img at (run_at s) (q * 256) 256 (omega arith) (omega arith)) in
      rw (length_splice img at (run_at s) n, e))

  -- the page itself has the run at the offset
  pub same_page : page_at s < length img / 256 → off_at s + length (run_at s) ≤ 256
      → page_of (stored img s) (page_at s) ≡ splice (page_of img (page_at s)) (off_at s) (run_at s)
  unfolding page_of
  same_page h k =
      rw (stored_length, lt-ltb _ _ h, stored_in h k)
      (part_inside img (page_at s * 256) (off_at s) (run_at s) 256 (omega arith) k)

-- a part lent from l, given back as the part of m, where l and m are the same on both sides of it
put_part : (l m : List ℕ) (a n : ℕ) → take a m ≡ take a l → drop (a + n) m ≡ drop (a + n) l → put_mid a n l (part m a n) ≡ m
unfolding part
put_part l m a n t d =
    let e : drop n (drop a m) ≡ drop n (drop a l) = drop-drop n a m ∙ d ∙ sym (drop-drop n a l) in
    rw (← t, ← e, take-append-drop, take-append-drop)

-- a page lent from the image, as many bytes as the code computes, given back with the run in it where it fits there
pub page_put : (img : List ℕ) (s : Store) (n : ℕ) → n ≡ 256 → page_at s < length img / 256
    → put_mid (page_at s * 256) n img (placed (part img (page_at s * 256) n) (off_at s) (run_at s)) ≡ stored img s
page_put img s n e h =
    let a = page_at s * 256 in
    let o = off_at s in
    let r = run_at s in
    let whole : length (part img (page_at s * 256) 256) ≡ 256 = length_part img a 256 (omega arith) in
    rw e
    (split (off_at s + length (run_at s)) 256
    (λ k. rw (placed_in (part img a 256) o r (omega arith), ← part_inside img a o r 256 (omega arith) k, stored_in img s h k)
    (put_part img (splice img (a + o) r) a 256 (take_splice img (a + o) r a (omega arith) (omega arith)) (drop_splice img (a + o) r (a + 256) (omega arith) (omega arith))))
    (λ k. rw (placed_out (part img a 256) o r (omega arith), stored_past img s k) (put_part img img a 256 refl refl)))

-- any page after a store is the page as it was, or the store's own page with the run in it
pub page_by_lem : (P : List ℕ → Type 0) (img : List ℕ) (s : Store) (q : ℕ) → P (page_of img q)
    → (q ≡ page_at s → page_at s < length img / 256 → off_at s + length (run_at s) ≤ 256 → P (splice (page_of img q) (off_at s) (run_at s)))
    → P (page_of (stored img s) q)
page_by_lem P img s q same put = go (ℕ_discrete q (page_at s))
  where
    go : Dec (q ≡ page_at s) → P (page_of (stored img s) q)
    go (no n) = rw (other_page img s q n) same
    go (yes e) =
        split (length img / 256) (page_at s) (λ i. rw (stored_out img s i) same)
        (λ i. split (off_at s + length (run_at s)) 256
        (λ w. let own : P (splice (page_of img (page_at s)) (off_at s) (run_at s)) = rw e at (put e i w) in rw (e, same_page img s i w) own)
        (λ w. rw (stored_past img s w) same))

-- it has as many bytes as before
pub page_kept : (img : List ℕ) (s : Store) (q : ℕ) → length (page_of (stored img s) q) ≡ length (page_of img q)
page_kept img s q =
    page_by_lem (λ pg. length pg ≡ length (page_of img q)) img s q refl
    (λ e i w. let l : length (page_of img q) ≡ 256 = rw e (page_length img (page_at s) i) in
    length_splice (page_of img q) (off_at s) (run_at s) (omega arith))

-- an erased page
pub erased_page : (img : List ℕ) (p : ℕ) → p < length img / 256 → page_of (stored img (erase p)) p ≡ replicate 256 255
erased_page img p h =
    same_page img (erase p) h (omega arith) ∙ splice_all (page_of img p) (replicate 256 255) (sym (page_length img p h))

-- ---- stores made one after the other

-- each store is so
abbrev pub Every : (Store → Type 0) → List Store → Type 0
Every Q [] = Unit {0}
Every Q (s ∷ l) = Q s × Every Q l

pub every_map : (P Q : Store → Type 0) → ((s : Store) → P s → Q s) → (l : List Store) → Every P l → Every Q l
every_map P Q f [] e = tt
every_map P Q f (s ∷ l) e = (f s e.0, every_map P Q f l e.1)

pub every_append : (Q : Store → Type 0) (l m : List Store) → Every Q l → Every Q m → Every Q (l ++ m)
every_append Q [] m d e = e
every_append Q (s ∷ l) m d e = (d.0, every_append Q l m d.1 e)

-- stores, and stores after them
pub ran_append : (img : List ℕ) (l m : List Store) → ran img (l ++ m) ≡ ran (ran img l) m
ran_append img [] m = refl
ran_append img (s ∷ l) m = ran_append (stored img s) l m

-- what each of these stores keeps, all of them keep
pub ran_keeps : (P : List ℕ → Type 0) (Q : Store → Type 0) → ((img : List ℕ) (s : Store) → Q s → P img → P (stored img s))
    → (img : List ℕ) (l : List Store) → Every Q l → P img → P (ran img l)
ran_keeps P Q f img [] q p = p
ran_keeps P Q f img (s ∷ l) q p = ran_keeps P Q f (stored img s) l q.1 (f img s q.0 p)

-- the length is as it was
pub ran_length : (img : List ℕ) (l : List Store) → length (ran img l) ≡ length img
ran_length img [] = refl
ran_length img (s ∷ l) = ran_length (stored img s) l ∙ stored_length img s

-- a page that no store is on is as it was
abbrev pub Off : ℕ → Store → Type 0
Off q s = q ≡ page_at s → ⊥

pub untouched : (img : List ℕ) (q : ℕ) (l : List Store) → Every (Off q) l → page_of (ran img l) q ≡ page_of img q
untouched img q l off = ran_keeps (λ i. page_of i q ≡ page_of img q) (Off q) (λ i s o e. other_page i s q o ∙ e) img l off refl

-- stores that are all on page p leave every other page
abbrev pub On : ℕ → Store → Type 0
On p s = page_at s ≡ p

pub others : (img : List ℕ) (p : ℕ) (l : List Store) → Every (On p) l → (q : ℕ) → (q ≡ p → ⊥) → page_of (ran img l) q ≡ page_of img q
others img p l on q n = untouched img q l (every_map (On p) (Off q) (λ s o z. n (z ∙ o)) l on)

-- clean stores, and clean stores after them
pub cleans_append : (img : List ℕ) (l m : List Store) → Cleans img l → Cleans (ran img l) m → Cleans img (l ++ m)
cleans_append img [] m c d = d
cleans_append img (s ∷ l) m c d = (c.0, cleans_append (stored img s) l m c.1 d)

-- ---- a page whose first bytes are erased

-- its first n bytes are 0xFF
abbrev pub Front : ℕ → List ℕ → Type 0
Front n pg = take n pg ≡ replicate n 255

-- the store erases, or programs from byte n on
abbrev pub Behind : ℕ → Store → Type 0
Behind n (erase p) = Unit {0}
Behind n (program p off run) = n ≤ off

-- the first of equal bytes
pub take_replicate : (m n v : ℕ) → m ≤ n → take m (replicate n v) ≡ replicate m v
take_replicate = take-replicate

-- fewer bytes
pub front_less : (m n : ℕ) (pg : List ℕ) → m ≤ n → Front n pg → Front m pg
front_less m n pg h f = sym (take-take m n pg h) ∙ ap (take m) f ∙ take_replicate m n 255 h

-- an erased page's front is erased
pub front_erased : (n : ℕ) (img : List ℕ) (p : ℕ) → n ≤ 256 → p < length img / 256 → Front n (page_of (stored img (erase p)) p)
front_erased n img p h i = ap (take n) (erased_page img p i) ∙ take_replicate n 256 255 h

-- a store behind the front keeps it, on its own page and on any other
pub front_stored : (n : ℕ) (img : List ℕ) (q : ℕ) (s : Store) → n ≤ 256 → Behind n s → Front n (page_of img q) → Front n (page_of (stored img s) q)
front_stored n img q s h b f =
    page_by_lem (Front n) img s q f (λ e i w. let l : length (page_of img q) ≡ 256 = rw e (page_length img (page_at s) i) in go s b l w)
  where
    go : (s : Store) → Behind n s → length (page_of img q) ≡ 256 → off_at s + length (run_at s) ≤ 256 → Front n (splice (page_of img q) (off_at s) (run_at s))
    go (erase p) b l w = ap (take n) (splice_all (page_of img q) (replicate 256 255) (sym l)) ∙ take_replicate n 256 255 h
    go (program p off run) b l w = take_splice (page_of img q) off run n b (omega arith) ∙ f

-- and so do several
pub front_ran : (n : ℕ) (img : List ℕ) (q : ℕ) (l : List Store) → n ≤ 256 → Every (Behind n) l → Front n (page_of img q) → Front n (page_of (ran img l) q)
front_ran n img q l h b f = ran_keeps (λ i. Front n (page_of i q)) (Behind n) (λ i s o e. front_stored n i q s h o e) img l b f

-- ---- parts of a page

-- a part of equal bytes
pub part_replicate : (k v a n : ℕ) → a + n ≤ k → part (replicate k v) a n ≡ replicate n v
unfolding part
part_replicate k v a n h = let e : n ≤ k - a = omega arith in rw (drop_replicate a k v) (take_replicate n (k - a) v e)

-- of an erased page
pub area_erased : (img : List ℕ) (p a n : ℕ) → p < length img / 256 → a + n ≤ 256 → part_of (page_of (stored img (erase p)) p) a n ≡ replicate n 255
area_erased img p a n i h =
    rw (erased_page img p i) (part_of_in (replicate 256 255) a n (omega arith) ∙ part_replicate 256 255 a n h)

module _ (img : List ℕ) (p off : ℕ) (run : List ℕ) (q : ℕ) where
  -- what is taken before a run is as it was
  pub take_kept : (n : ℕ) → n ≤ off → take n (page_of (stored img (program p off run)) q) ≡ take n (page_of img q)
  take_kept n h =
      page_by_lem (λ pg. take n pg ≡ take n (page_of img q)) img (program p off run) q refl
      (λ e i w. let l : length (page_of img q) ≡ 256 = rw e (page_length img p i) in
      take_splice (page_of img q) off run n h (omega arith))

  area_by : (a n : ℕ) → (off ≤ length (page_of img q) → part (splice (page_of img q) off run) a n ≡ part (page_of img q) a n)
      → part_of (page_of (stored img (program p off run)) q) a n ≡ part_of (page_of img q) a n
  unfolding part_of
  area_by a n f =
      page_by_lem (λ pg. part_of pg a n ≡ part_of (page_of img q) a n) img (program p off run) q refl
      (λ e i w. let l : length (page_of img q) ≡ 256 = rw e (page_length img p i) in
      rw (length_splice (page_of img q) off run (omega arith), f (omega arith)))

  -- so is a part before it
  pub area_before : (a n : ℕ) → a + n ≤ off → part_of (page_of (stored img (program p off run)) q) a n ≡ part_of (page_of img q) a n
  area_before a n h = area_by a n (part_before (page_of img q) off run a n h)

  -- and a part behind it
  pub area_after : (a n : ℕ) → off + length run ≤ a → part_of (page_of (stored img (program p off run)) q) a n ≡ part_of (page_of img q) a n
  area_after a n h = area_by a n (part_after (page_of img q) off run a n h)

-- a part that the run lies in has the run
pub area_stored : (img : List ℕ) (p a o : ℕ) (run : List ℕ) (n : ℕ) → p < length img / 256 → a + n ≤ 256 → o + length run ≤ n
    → part_of (page_of (stored img (program p (a + o) run)) p) a n ≡ splice (part_of (page_of img p) a n) o run
area_stored img p a o run n i h k =
    let l = page_length img p i in
    let e : a + n ≤ length (splice (page_of img p) (a + o) run) = rw (length_splice (page_of img p) (a + o) run (omega arith)) (omega arith) in
    rw (same_page img (program p (a + o) run) i (omega arith), part_of_in (splice (page_of img p) (a + o) run) a n e, part_of_in (page_of img p) a n (omega arith))
    (part_inside (page_of img p) a o run n (omega arith) k)

-- ---- bytes

-- bytes, by their places
pub bytes_at : (l : List ℕ) → Bytes l → (i : ℕ) → get_or l i 0 < 256
bytes_at [] b i = omega arith
bytes_at (x ∷ l) b zero = b.0
bytes_at (x ∷ l) b (suc i) = bytes_at l b.1 i

pub bytes_by_lem : (l : List ℕ) → ((i : ℕ) → get_or l i 0 < 256) → Bytes l
bytes_by_lem [] f = tt
bytes_by_lem (x ∷ l) f = (f 0, bytes_by_lem l (λ i. f (suc i)))

-- and by their making
pub bytes_append : (a b : List ℕ) → Bytes a → Bytes b → Bytes (a ++ b)
bytes_append [] b x y = y
bytes_append (n ∷ a) b x y = (x.0, bytes_append a b x.1 y)

pub bytes_take : (n : ℕ) (l : List ℕ) → Bytes l → Bytes (take n l)
bytes_take zero l b = tt
bytes_take (suc n) [] b = tt
bytes_take (suc n) (x ∷ l) b = (b.0, bytes_take n l b.1)

pub bytes_drop : (n : ℕ) (l : List ℕ) → Bytes l → Bytes (drop n l)
bytes_drop zero l b = b
bytes_drop (suc n) [] b = tt
bytes_drop (suc n) (x ∷ l) b = bytes_drop n l b.1

pub bytes_replicate : (n v : ℕ) → v < 256 → Bytes (replicate n v)
bytes_replicate zero v h = tt
bytes_replicate (suc n) v h = (h, bytes_replicate n v h)

pub bytes_splice : (l : List ℕ) (at : ℕ) (r : List ℕ) → Bytes l → Bytes r → Bytes (splice l at r)
unfolding splice
bytes_splice l at r b c =
    bytes_append (take at l) (r ++ drop (at + length r) l) (bytes_take at l b)
    (bytes_append r (drop (at + length r) l) c (bytes_drop (at + length r) l b))

-- a page of bytes has bytes
pub bytes_page : (img : List ℕ) (p : ℕ) → Bytes img → Bytes (page_of img p)
unfolding page_of part
bytes_page img p b =
    split (length img / 256) p (λ h. rw (le-ltb _ _ h) tt) (λ h. rw (lt-ltb _ _ h) (bytes_take 256 (drop (p * 256) img) (bytes_drop (p * 256) img b)))

-- stores of bytes keep bytes
abbrev pub OfBytes : Store → Type 0
OfBytes s = Bytes (run_at s)

pub bytes_stored : (img : List ℕ) (s : Store) → OfBytes s → Bytes img → Bytes (stored img s)
bytes_stored img s r b = by_store img s Bytes b (λ h k. bytes_splice img (page_at s * 256 + off_at s) (run_at s) b r)

pub bytes_ran : (img : List ℕ) (l : List Store) → Every OfBytes l → Bytes img → Bytes (ran img l)
bytes_ran = ran_keeps Bytes OfBytes bytes_stored
