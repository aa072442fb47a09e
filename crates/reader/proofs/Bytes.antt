-- The bytes of a read, page by page: what one page gives, that fuel beyond the bytes changes nothing, and what a turn of the code's
-- loop leaves to read. Assumes nothing.
use Rattle.std.specs.Prelude.{Option, Some, None, Ok, Err}
use mathlib.Core.Path.{◌≡◌, refl, sym, ap, subst, ◌∙◌}
use mathlib.Core.Bool.{true, false}
use mathlib.Core.List.{List, [], ◌++◌, append-nil, append_assoc}
use mathlib.Core.Logic.{inl, inr}
use Prim.Native.Nat.{ℕ, zero, suc, min, ◌+◌, ◌-◌, ◌<◌, ◌≤◌}
use native.Mathlib.Nat.{eq-zero-or-pos, sub_self, zero-add}
use native.Mathlib.Omega.{arith}
use borrow.Author.Tests.{ne_eqb}
use lib.ListN.{length, take, drop, replicate, length-append, length-drop}
use borrow.Rule.Slice.PartMut.{mid_of, post_of, put_mid}
use lib.Seq.{take_all, take_at, length-take-le}
use Rattle.runs.specs.Runs.{part_of, splice, placed}
use Rattle.runs.proofs.Laws.{length_part, part_of_in, placed_in}
use Rattle.page.specs.Page.{page_of}
use Rattle.chain.specs.declared.PagePointer.{PagePointer}
use Rattle.state.specs.declared.types.FileRecord.{FileRecord}
use Rattle.reader.specs.declared.pages.Opening.{Opening}
use Rattle.reader.specs.Read.{Opened, shut, shown, open_at, Bytes, none, some, before, here, bytes_here, bytes_by, bytes_from, after_read, read_by, read_in}
use Rattle.reader.specs.Turn.{opening, Turn, turn, turn_by, turned, all_of, behind}
use Rattle.state.specs.Refusals.{fine}
use Rattle.state.specs.declared.types.Refusal.TheVariants.{Damaged}
use Rattle.state.specs.Values.{in_shape}
use Rattle.reader.specs.declared.Reader.{Reader}
use Rattle.std.specs.Option.{is_some}
use Rattle.std.proofs.lemmas.Option.{same_Some}
use Rattle.reader.proofs.Exits.{Shows, opened_says, read_shaped, read_shapeless}

-- ---- one page's bytes

module _ (img : List ℕ) (seq n : ℕ) (p : PagePointer) (s : Shows img seq p) where
  pub here_le : here p seq n ≤ n
  here_le = omega arith

  -- one byte at least
  pub here_some : 0 < n → 0 < here p seq n
  here_some h = omega (arith, s.high)

  -- they are in the page
  pub here_inside : 32 + (seq - p.header.seq) + here p seq n ≤ length (page_of img p.page_id)
  here_inside = omega (arith, s.low, s.high, s.long, s.whole)

  pub here_length : length (bytes_here img p seq n) ≡ here p seq n
  here_length = length_part (page_of img p.page_id) (32 + (seq - p.header.seq)) (here p seq n) here_inside

-- up to a run's end a list is what stands before the run, and the run
take_run : (l r t : List ℕ) (at : ℕ) → at ≤ length l → take (at + length r) (take at l ++ (r ++ t)) ≡ take at l ++ r
take_run l r t at h =
    let e : length (take at l ++ r) ≡ at + length r = simp (length-append, length-take-le at l h) in
    ap (take (at + length r)) (sym (append_assoc (take at l) r t)) ∙ take_at (take at l ++ r) t (at + length r) e

-- ---- bytes after bytes

pub before_nil : (b : Bytes) → before [] b ≡ b
before_nil none = refl
before_nil (some l) = refl

pub before_before : (l m : List ℕ) (b : Bytes) → before (l ++ m) b ≡ before l (before m b)
before_before l m none = refl
before_before l m (some k) = ap some (append_assoc l m k)

-- ---- fuel

module _ (img : List ℕ) (count : ℕ) (f : FileRecord) where
  -- n bytes from seq on, with as much fuel as bytes
  abbrev pub bytes : ℕ → ℕ → Bytes
  bytes seq n = bytes_from img count f n seq n

  pub bytes_empty : (k seq : ℕ) → bytes_from img count f k seq 0 ≡ some []
  unfolding bytes_from
  bytes_empty zero seq = refl
  bytes_empty (suc k) seq = refl

  bytes_step : (k seq n : ℕ) → 0 < n
      → bytes_from img count f (suc k) seq n ≡ bytes_by img (open_at img count f seq) seq n (λ j. bytes_from img count f k (seq + j) (n - j))
  unfolding bytes_from
  bytes_step k seq n h = let e : n ≡ 0 → ⊥ = λ z. omega arith in rw (ne_eqb n 0 e)

  -- more fuel than bytes changes nothing
  pub fuel : (k j seq n : ℕ) → n ≤ k → n ≤ j → bytes_from img count f k seq n ≡ bytes_from img count f j seq n
  fuel zero j seq n h g = let e : n ≡ 0 = omega arith in rw e (bytes_empty zero seq ∙ sym (bytes_empty j seq))
  fuel (suc k) zero seq n h g = let e : n ≡ 0 = omega arith in rw e (bytes_empty (suc k) seq ∙ sym (bytes_empty zero seq))
  fuel (suc k) (suc j) seq n h g =
      elim (eq-zero-or-pos n) [
        | inl e ↦ rw e (bytes_empty (suc k) seq ∙ sym (bytes_empty (suc j) seq))
        | inr pos ↦ bytes_step k seq n pos ∙ go pos (open_at img count f seq) refl (λ m s i l. fuel k j s m i l) ∙ sym (bytes_step j seq n pos)
      ]
    where
      go : 0 < n → (x : Opened) → open_at img count f seq ≡ x
          → ((m s : ℕ) → m ≤ k → m ≤ j → bytes_from img count f k s m ≡ bytes_from img count f j s m)
          → bytes_by img x seq n (λ i. bytes_from img count f k (seq + i) (n - i)) ≡ bytes_by img x seq n (λ i. bytes_from img count f j (seq + i) (n - i))
      go pos shut e r = refl
      go pos (shown p) e r =
          let s = opened_says img count f seq p e in
          let a = here_some img seq n p s pos in
          let i = here p seq n in
          ap (before (bytes_here img p seq n)) (r (n - i) (seq + i) (omega arith) (omega arith))

  -- where no page opens there are none
  pub bytes_shut : (seq n : ℕ) → 0 < n → open_at img count f seq ≡ shut → bytes seq n ≡ none
  bytes_shut seq zero h e = absurd (omega arith)
  bytes_shut seq (suc k) h e = bytes_step k seq (suc k) h ∙ rw e

  -- a page's bytes, and then those from its end on
  pub bytes_shown : (seq n : ℕ) (p : PagePointer) → 0 < n → open_at img count f seq ≡ shown p
      → bytes seq n ≡ before (bytes_here img p seq n) (bytes (seq + here p seq n) (n - here p seq n))
  bytes_shown seq zero p h e = absurd (omega arith)
  bytes_shown seq (suc k) p h e =
      let s = opened_says img count f seq p e in
      let a = here_some img seq (suc k) p s h in
      let j = here p seq (suc k) in
      bytes_step k seq (suc k) h
      ∙ ap (λ (x : Opened). bytes_by img x seq (suc k) (λ i. bytes_from img count f k (seq + i) (suc k - i))) e
      ∙ ap (before (bytes_here img p seq (suc k))) (fuel k (suc k - j) (seq + j) (suc k - j) (omega arith) (omega arith))

  -- ---- one turn of the code's loop

  module _ (seq : ℕ) (out : List ℕ) where
    -- no page opens
    pub turn_shut : None ≡ opening seq (open_at img count f seq) → turn None out ≡ turned img count f seq out
    unfolding turned
    turn_shut e = by (open_at img count f seq) e
      where
        by : (x : Opened) → None ≡ opening seq x → turn None out ≡ turn_by img seq out x
        by shut e = refl
        by (shown p) e = cc

    -- a page's bytes are there, and stand in front
    module _ (o : Opening) (n : ℕ) (run : List ℕ) (is : Some o ≡ opening seq (open_at img count f seq)) (en : n ≡ min (length out) o.left)
        (er : run ≡ part_of (page_of img o.page) (32 + o.offset) n) where
      shown_as : (x : Opened) → open_at img count f seq ≡ x → Some o ≡ opening seq x
          → (n ≡ length run) × (turn (Some n) (run ++ drop n out) ≡ turn_by img seq out x)
      shown_as shut e is = cc
      shown_as (shown p) e is =
          let s = opened_says img count f seq p e in
          let same : o ≡ record { page = p.page_id; offset = seq - p.header.seq; left = p.header.seq + p.header.length - seq } = same_Some _ _ is in
          let k : n ≡ here p seq (length out) = en ∙ ap (λ (y : Opening). min (length out) y.left) same in
          let taken : run ≡ bytes_here img p seq (length out) =
          er
          ∙ ap (λ (y : Opening). part_of (page_of img y.page) (32 + y.offset) n) same
          ∙ rw k (part_of_in (page_of img p.page_id) (32 + (seq - p.header.seq)) (here p seq (length out)) (here_inside img seq (length out) p s)) in
          (k ∙ sym (ap length taken ∙ here_length img seq (length out) p s), rw (k, taken))

      pub turn_shown : turn (Some n) (run ++ drop n out) ≡ turned img count f seq out
      unfolding turned
      turn_shown = (shown_as (open_at img count f seq) refl is).1

      -- stored in front, as the code does it
      pub turn_placed : turn (Some n) (placed out 0 run) ≡ turned img count f seq out
      unfolding splice
      turn_placed =
          let k : n ≡ length run = (shown_as (open_at img count f seq) refl is).0 in
          let e : splice out 0 run ≡ run ++ drop n out = rw (k, zero-add) refl in
          ap (turn (Some n)) (placed_in out 0 run (omega arith) ∙ e) ∙ turn_shown

  -- what is read so far, and what is left to read
  abbrev pub rest : ℕ → ℕ → ℕ → List ℕ → Bytes
  rest seq n done out = before (take done out) (bytes (seq + done) (n - done))

  pub rest_last : (seq n : ℕ) (out : List ℕ) → length out ≤ n → rest seq n n out ≡ some out
  rest_last seq n out h = rw (sub_self n, bytes_empty 0 (seq + n), append-nil (take n out), take_all n out h)

  -- the part of the output behind what is read was lent to a turn, and is back
  module _ (seq done : ℕ) (out : List ℕ) (m : Option ℕ) (front : List ℕ) (room : done < length out)
      (lent : turn m front ≡ turned img count f (seq + done) (mid_of done (length out - done) out)) where
    left : length (drop done out) ≡ length out - done
    left = length-drop done out

    is : turn m front ≡ turned img count f (seq + done) (drop done out)
    is = rw (take_all (length out - done) (drop done out) (omega (arith, left))) at lent

    -- no page opens: the read is damaged
    pub rest_shut : m ≡ None → rest seq (length out) done out ≡ none
    unfolding turned
    rest_shut z = go (open_at img count f (seq + done)) refl is
      where
        go : (x : Opened) → open_at img count f (seq + done) ≡ x → turn m front ≡ turn_by img (seq + done) (drop done out) x
            → rest seq (length out) done out ≡ none
        go shut e is = rw (bytes_shut (seq + done) (length out - done) (omega arith) e)
        go (shown p) e is = let t = ap (λ (y : Turn). y.taken) is in cc

    -- one does: the rest is as it was
    pub rest_more : (k : ℕ) → m ≡ Some k
        → (0 < k) × (done + k ≤ length out) × (rest seq (length out) (done + k) (put_mid done (length out - done) out front) ≡ rest seq (length out) done out)
    unfolding turned
    rest_more k z = go (open_at img count f (seq + done)) refl is
      where
        go : (x : Opened) → open_at img count f (seq + done) ≡ x → turn m front ≡ turn_by img (seq + done) (drop done out) x
            → (0 < k) × (done + k ≤ length out) × (rest seq (length out) (done + k) (put_mid done (length out - done) out front) ≡ rest seq (length out) done out)
        go shut e is = let t = ap (λ (y : Turn). y.taken) is in cc
        go (shown p) e is =
            let s = opened_says img count f (seq + done) p e in
            let n = length out - done in
            let b = bytes_here img p (seq + done) n in
            let tail = drop (here p (seq + done) n) (drop done out) in
            let taken : Some k ≡ Some (here p (seq + done) (length out - done)) = sym z ∙ rw left at (ap (λ (y : Turn). y.taken) is) in
            let t : k ≡ here p (seq + done) (length out - done) = same_Some _ _ taken in
            let o : front ≡ bytes_here img p (seq + done) (length out - done) ++ drop (here p (seq + done) (length out - done)) (drop done out) =
            rw left at (ap (λ (y : Turn). y.out) is) in
            let l : length (bytes_here img p (seq + done) (length out - done)) ≡ k = here_length img (seq + done) n p s ∙ sym t in
            let pos : 0 < here p (seq + done) (length out - done) = here_some img (seq + done) n p s (omega arith) in
            let i : k ≤ length out - done = omega arith in
            let e1 : take (done + k) (put_mid done (length out - done) out front) ≡ take done out ++ bytes_here img p (seq + done) (length out - done) =
            rw (o, ← l, append_assoc b tail (post_of done n out)) (take_run out b (tail ++ post_of done n out) done (omega arith)) in
            let e2 : bytes (seq + done) (length out - done) ≡ before (bytes_here img p (seq + done) (length out - done)) (bytes (seq + done + k) (length out - done - k)) =
            rw t (bytes_shown (seq + done) n p (omega arith) e) in
            let e3 : seq + (done + k) ≡ seq + done + k = omega arith in
            let e4 : length out - (done + k) ≡ length out - done - k = omega arith in
            (omega arith, omega arith, rw (e1, e2, e3, e4) (before_before (take done out) b (bytes (seq + done + k) (length out - done - k))))

    -- ---- as the loop says it: n bytes are wanted, and whole is what a read of them gives

    module _ (n : ℕ) (whole : Bytes) (long : length out ≡ n) (inv : rest seq n done out ≡ whole) where
      pub turn_none : m ≡ None → whole ≡ none
      turn_none z = sym inv ∙ rw (← long) (rest_shut z)

      pub turn_again : (k : ℕ) → m ≡ Some k
          → (0 < k) × (done + k ≤ n) × (rest seq n (done + k) (put_mid done (length out - done) out front) ≡ whole)
      turn_again k z =
          let w = rest_more k z in
          let same = subst (λ (x : ℕ). rest seq x (done + k) (put_mid done (length out - done) out front) ≡ rest seq x done out) long w.2 in
          (w.0, rw long at w.1, same ∙ inv)

-- ---- all of a read

-- where every page opened, and where one did not
all_read : (b : Option (Unit {0})) (out : List ℕ) (whole : Bytes) → all_of b out ≡ whole → is_some b ≡ true → whole ≡ some out
all_read None out whole e t = cc
all_read (Some u) out whole e t = sym e

all_lost : (b : Option (Unit {0})) (out : List ℕ) (whole : Bytes) → all_of b out ≡ whole → is_some b ≡ false → whole ≡ none
all_lost None out whole e t = sym e
all_lost (Some u) out whole e t = cc

module _ (img : List ℕ) (count : ℕ) (f : FileRecord) (r : Reader) (out : List ℕ) (some : length out ≡ 0 → ⊥) (end : ℕ)
    (ends : Ok end ≡ behind f r.seq (length out)) where
  -- a read's bytes come out, and the reader stands behind them
  pub read_whole : (b : Option (Unit {0})) (out' : List ℕ) → end ≡ r.seq + length out → in_shape count f ≡ true
      → all_of b out' ≡ bytes img count f r.seq (length out) → is_some b ≡ true
      → after_read fine (record { file = r.file; seq = end }) out' ≡ read_in img count f r out
  read_whole b out' is fits e t =
      rw is (ap (read_by r out) (sym (all_read b out' (bytes img count f r.seq (length out)) e t)) ∙ read_shaped img count f r out some end ends fits)

  -- they don't, and the output is zero
  module _ (zero : List ℕ) (is : zero ≡ replicate (length out) 0) where
    pub read_zero : in_shape count f ≡ false → after_read (Err Damaged) r zero ≡ read_in img count f r out
    read_zero fits = rw is (read_shapeless img count f r out some end ends fits)

    pub read_lost : (b : Option (Unit {0})) (out' : List ℕ) → in_shape count f ≡ true
        → all_of b out' ≡ bytes img count f r.seq (length out) → is_some b ≡ false
        → after_read (Err Damaged) r zero ≡ read_in img count f r out
    read_lost b out' fits e t =
        rw is (ap (read_by r out) (sym (all_lost b out' (bytes img count f r.seq (length out)) e t)) ∙ read_shaped img count f r out some end ends fits)
