-- Any cutting of the same bytes into writes gives the same. Assumes nothing.
use Rattle.std.specs.Prelude.{Option, Some, None}
use Prim.Native.Nat.{ℕ, zero, suc, ◌+◌, ◌-◌, ◌≤◌, ◌<◌}
use mathlib.Core.Path.{◌≡◌, refl, sym, ap, ap₂, subst, ◌∙◌}
use mathlib.Core.Bool.{Bool, true, false, cond}
use mathlib.Core.List.{List, [], ◌∷◌, ◌++◌, append-nil, append_assoc}
use native.Mathlib.Nat.{not-suc-le-zero}
use native.Mathlib.Omega.{arith}
use lib.Dec.{eqb}
use lib.ListN.{length, take, drop, length-append, length-take, length-drop, drop_of_length-le}
use lib.Seq.{take_all, take_at, length-take-le, take-append-le, drop-append-le, take-append-add, drop-append-add}
use Rattle.seq.specs.Ids.{none}
use Rattle.runs.specs.Runs.{splice, placed}
use Rattle.runs.proofs.Laws.{length_splice, drop_splice, placed_in, placed_out}
use Rattle.page.proofs.Laws.{split}
use Rattle.map.specs.Map.{alloc_of}
use Rattle.state.specs.declared.types.Writer.{Writer}
use Rattle.writer.specs.Staging.{is_staged, flushed, on_page, filled_by, space}
use Rattle.writer.specs.Write.{Writing, staged, next_page, ready, put, write_from}
use Rattle.writer.proofs.Sounds.{space_some, space_on, SoundAt, flushes, next_is, ready_readied, part_sound, put_sound, less_sound}
use Rattle.writer.proofs.Turns.{fewer, fuel}
use Rattle.writer.proofs.Pages.{ready_here}

-- ---- bytes placed one after the other

pub length_placed : (l : List ℕ) (at : ℕ) (r : List ℕ) → length (placed l at r) ≡ length l
length_placed l at r =
    split (at + length r) (length l) (λ h. ap length (placed_in l at r h) ∙ length_splice l at r h) (λ h. ap length (placed_out l at r h))

splice_splice : (s a b : List ℕ) (n : ℕ) → n + length a + length b ≤ length s → splice (splice s n a) (n + length a) b ≡ splice s n (a ++ b)
unfolding splice
splice_splice s a b n h =
    let m = n + length a in
    let tl = drop (n + length a) s in
    let e : length (take n s ++ a) ≡ n + length a = simp (length-append, length-take-le n s (omega arith)) in
    let f : take (n + length a) (take n s ++ (a ++ drop (n + length a) s)) ≡ take n s ++ a =
    ap (take (n + length a)) (sym (append_assoc (take n s) a (drop (n + length a) s))) ∙ take_at (take n s ++ a) (drop (n + length a) s) (n + length a) e in
    let g : drop (n + length a + length b) (take n s ++ (a ++ drop (n + length a) s)) ≡ drop (n + length a + length b) s =
    drop_splice s n a (n + length a + length b) (omega arith) (omega arith) in
    let k : n + length (a ++ b) ≡ n + length a + length b = simp length-append (omega arith) in
    ap₂ (λ (p q : List ℕ). p ++ (b ++ q)) f g
    ∙ append_assoc (take n s) a (b ++ drop (n + length a + length b) s)
    ∙ ap (λ (q : List ℕ). take n s ++ q) (sym (append_assoc a b (drop (n + length a + length b) s)))
    ∙ ap (λ (i : ℕ). take n s ++ ((a ++ b) ++ drop i s)) (sym k)

placed_placed : (s a b : List ℕ) (n : ℕ) → n + length a + length b ≤ length s → placed (placed s n a) (n + length a) b ≡ placed s n (a ++ b)
placed_placed s a b n h =
    let i : n + length a ≤ length s = omega arith in
    let e : placed s n a ≡ splice s n a = placed_in s n a i in
    let l : length (splice s n a) ≡ length s = length_splice s n a i in
    let j : n + length a + length b ≤ length (splice s n a) = omega arith in
    let k : n + length (a ++ b) ≤ length s = simp length-append (omega arith) in
    rw e (placed_in (splice s n a) (n + length a) b j ∙ splice_splice s a b n h ∙ sym (placed_in s n (a ++ b) k))

-- bytes put on the staged page, and more of them
pub filled_filled : (x : Writer) (a b : List ℕ) → x.length + length a + length b ≤ length x.staged → filled_by (filled_by x a) b ≡ filled_by x (a ++ b)
unfolding filled_by
filled_filled x a b h =
    let k : x.length + length a + length b ≡ x.length + length (a ++ b) = simp length-append (omega arith) in
    let p = placed_placed x.staged a b x.length h in
    rw (p, k)

-- ---- the staged bytes keep their number

-- a next page leaves them
pub ready_staged : (count : ℕ) (x : Writing) → (ready count x).writer.staged ≡ x.writer.staged
unfolding ready flushed on_page
ready_staged count x = by (eqb (space x.writer) 0)
  where
    flush_same : (b : Bool) → (cond b (flushed x.writer) x.writer).staged ≡ x.writer.staged
    flush_same true = refl
    flush_same false = refl

    page_same : (a : Option ℕ) → (staged count (flushes x) a).writer.staged ≡ x.writer.staged
    page_same (Some p) = flush_same (is_staged x.writer)
    page_same None = flush_same (is_staged x.writer)

    by : (b : Bool) → (cond b (next_page count x) x).writer.staged ≡ x.writer.staged
    by true = ap (λ (z : Writing). z.writer.staged) (next_is count x) ∙ page_same (alloc_of x.map count x.cursor)
    by false = refl

put_staged : (x : Writing) (a : List ℕ) → length (put x a).writer.staged ≡ length x.writer.staged
unfolding filled_by
put_staged x a = length_placed x.writer.staged x.writer.length a

-- ---- a turn

pub unrolled : (count : ℕ) (l : List ℕ) (x : Writing) → SoundAt count (length l) x → 0 < length l
    → let y = ready count x in
    let s = space y.writer in
    write_from count (length l) l x ≡ write_from count (length (drop s l)) (drop s l) (put y (take s l))
unfolding write_from
unrolled count [] x h some = absurd (not-suc-le-zero some)
unrolled count (b ∷ l) x h some =
    let r = ready_readied count (length (b ∷ l)) x h some in
    let s = space (ready count x).writer in
    fuel count (length l) (length (drop s (b ∷ l))) (drop s (b ∷ l)) (put (ready count x) (take s (b ∷ l)))
    (put_sound count (ready count x) (b ∷ l) r.sound r.space) (fewer s b l r.space) (omega arith)

-- ---- the cut

filled_space : (q : Writer) (a : List ℕ) → (q.page ≡ none → ⊥) → space (filled_by q a) ≡ space q - length a
unfolding filled_by
filled_space q a n = space_some (filled_by q a) n ∙ omega (arith, space_some q n)

-- all on the page at hand
once : (count : ℕ) (l : List ℕ) (x : Writing) → SoundAt count (length l) x → 0 < length l → length l ≤ space (ready count x).writer
    → write_from count (length l) l x ≡ put (ready count x) l
unfolding write_from
once count l x h some k =
    unrolled count l x h some
    ∙ rw (take_all (space (ready count x).writer) l k, drop_of_length-le l k)

-- the first part ends on a page that has room for more
cut_inside : (count : ℕ) (l l' : List ℕ) (x : Writing) → SoundAt count (length (l ++ l')) x → length x.writer.staged ≡ 224 → 0 < length l → 0 < length l'
    → length l < space (ready count x).writer
    → write_from count (length (l ++ l')) (l ++ l') x ≡ write_from count (length l') l' (write_from count (length l) l x)
cut_inside count l l' x h full some some' k =
    let y = ready count x in
    let s = space (ready count x).writer in
    let a = length-append l l' in
    let r = ready_readied count (length (l ++ l')) x h (omega arith) in
    let n = space_on y.writer r.space in
    let e = space_some y.writer n in
    let z = put (ready count x) l in
    let so : SoundAt count (length l') (put (ready count x) l) =
    part_sound count (length l') (ready count x) l (subst (λ (i : ℕ). SoundAt count i (ready count x)) a r.sound) r.space (omega arith) in
    let j = space (put (ready count x) l).writer in
    let f : space (put (ready count x) l).writer ≡ space (ready count x).writer - length l = filled_space (ready count x).writer l n in
    let st : ready count (put (ready count x) l) ≡ put (ready count x) l = ready_here count (put (ready count x) l) (λ q. omega arith) in
    let g : space (ready count x).writer ≡ length l + space (put (ready count x) l).writer = omega arith in
    let tk : take (space (ready count x).writer) (l ++ l') ≡ l ++ take (space (put (ready count x) l).writer) l' =
    ap (λ (i : ℕ). take i (l ++ l')) g ∙ take-append-add l l' j in
    let dr : drop (space (ready count x).writer) (l ++ l') ≡ drop (space (put (ready count x) l).writer) l' =
    ap (λ (i : ℕ). drop i (l ++ l')) g ∙ drop-append-add l l' j in
    let c = length-take (space (put (ready count x) l).writer) l' in
    let w = ready_staged count x in
    let fit : y.writer.length + length l + length (take (space (put (ready count x) l).writer) l') ≤ length y.writer.staged =
    rw w (omega (arith, r.sound.able.length)) in
    let fl : put (put (ready count x) l) (take (space (put (ready count x) l).writer) l') ≡ put (ready count x) (l ++ take (space (put (ready count x) l).writer) l') =
    ap (λ (q : Writer). record { stores = y.stores; map = y.map; cursor = y.cursor; writer = q }) (filled_filled y.writer l (take j l') fit) in
    let al : length l ≤ space (ready count x).writer = omega arith in
    let first : write_from count (length l) l x ≡ put (ready count x) l = once count l x (less_sound x.writer (length l) (omega arith) h) some al in
    let second : write_from count (length l') l' (put (ready count x) l) ≡ write_from count (length (drop j l')) (drop j l') (put (put (ready count x) l) (take j l')) =
    unrolled count l' z so some' ∙ ap (λ (q : Writing). write_from count (length (drop (space q.writer) l')) (drop (space q.writer) l') (put q (take (space q.writer) l'))) st in
    unrolled count (l ++ l') x h (omega arith)
    ∙ ap₂ (λ (p q : List ℕ). write_from count (length q) q (put (ready count x) p)) tk dr
    ∙ ap (λ (q : Writing). write_from count (length (drop j l')) (drop j l') q) (sym fl)
    ∙ sym (ap (write_from count (length l') l') first ∙ second)

-- nothing in the first part
cut_none : (count : ℕ) (l l' : List ℕ) (x : Writing) → length l ≤ 0
    → write_from count (length (l ++ l')) (l ++ l') x ≡ write_from count (length l') l' (write_from count (length l) l x)
unfolding write_from
cut_none count [] l' x h = refl
cut_none count (c ∷ l) l' x h = absurd (not-suc-le-zero h)

-- no more than k bytes in the first part
cut_by : (k count : ℕ) (l l' : List ℕ) (x : Writing) → length l ≤ k → SoundAt count (length (l ++ l')) x → length x.writer.staged ≡ 224 → 0 < length l'
    → write_from count (length (l ++ l')) (l ++ l') x ≡ write_from count (length l') l' (write_from count (length l) l x)
cut_by zero count l l' x b h full some' = cut_none count l l' x b
cut_by (suc k) count l l' x b h full some' =
    let y = ready count x in
    let s = space (ready count x).writer in
    let a = length-append l l' in
    let r = ready_readied count (length (l ++ l')) x h (omega arith) in
    split (length l) 0 (λ z. cut_none count l l' x z)
    (λ some. split (space (ready count x).writer) (length l)
    (λ i.
    let tk : take (space (ready count x).writer) (l ++ l') ≡ take (space (ready count x).writer) l = take-append-le (space (ready count x).writer) l l' i in
    let dr : drop (space (ready count x).writer) (l ++ l') ≡ drop (space (ready count x).writer) l ++ l' = drop-append-le (space (ready count x).writer) l l' i in
    let so : SoundAt count (length (drop (space (ready count x).writer) l ++ l')) (put (ready count x) (take (space (ready count x).writer) l)) =
    rw (← tk, ← dr) (put_sound count (ready count x) (l ++ l') r.sound r.space) in
    let d = length-drop (space (ready count x).writer) l in
    unrolled count (l ++ l') x h (omega arith)
    ∙ ap₂ (λ (p q : List ℕ). write_from count (length q) q (put (ready count x) p)) tk dr
    ∙ cut_by k count (drop s l) l' (put (ready count x) (take s l)) (omega (arith, r.space)) so
    (put_staged (ready count x) (take s l) ∙ ap length (ready_staged count x) ∙ full) some'
    ∙ sym (ap (write_from count (length l') l') (unrolled count l x (less_sound x.writer (length l) (omega arith) h) some)))
    (λ i. cut_inside count l l' x h full some some' i))

-- writing l and then l' is writing both at once
pub cut : (count : ℕ) (l l' : List ℕ) (x : Writing) → SoundAt count (length (l ++ l')) x → length x.writer.staged ≡ 224
    → write_from count (length (l ++ l')) (l ++ l') x ≡ write_from count (length l') l' (write_from count (length l) l x)
unfolding write_from
cut count l [] x h full = rw (append-nil l)
cut count l (c ∷ l') x h full = cut_by (length l) count l (c ∷ l') x (omega arith) h full (omega arith)
