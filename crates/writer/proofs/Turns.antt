-- A write turn by turn: fuel, the stores made so far, and what one turn of the code's loop leaves. Assumes nothing.
use Rattle.std.specs.Prelude.{Option, Some, None}
use Prim.Native.Nat.{ℕ, zero, suc, ◌+◌, min, ◌≤◌, ◌<◌}
use mathlib.Core.Path.{◌≡◌, refl, sym, ap, subst, ◌∙◌}
use mathlib.Core.Bool.{Bool, true, false, cond}
use mathlib.Core.List.{List, [], ◌∷◌, ◌++◌, append-nil, append_assoc}
use native.Mathlib.Nat.{not-suc-le-zero}
use native.Mathlib.Omega.{arith}
use lib.Dec.{eqb}
use lib.ListN.{length, take, drop, length-take, length-drop}
use Rattle.page.specs.Store.{Store, ran}
use Rattle.page.proofs.Laws.{ran_append}
use Rattle.map.specs.Map.{alloc_of}
use Rattle.map.proofs.Turns.{take_min}
use Rattle.state.specs.declared.types.Writer.{Writer}
use Rattle.state.specs.declared.types.State.{State}
use Rattle.state.specs.Values.{with_cursor, with_writer}
use Rattle.writer.specs.Staging.{filled_by, space}
use Rattle.writer.specs.Write.{Writing, staged, next_page, ready, put, write_from}
use Rattle.writer.specs.Inner.{stores_of, Made, makes, begins, Wrote, wrote, writes, Sound}
use Rattle.writer.proofs.Small.{drop_min}
use Rattle.writer.proofs.Sounds.{space_some, space_on, SoundAt, flushes, next_is, Readied, ready_readied, put_sound}

-- ---- fuel: more than there are bytes changes nothing

-- each turn takes a byte at least
pub fewer : (s : ℕ) (b : ℕ) (l : List ℕ) → 0 < s → length (drop s (b ∷ l)) ≤ length l
fewer s b l h = omega (arith, length-drop s (b ∷ l))

pub fuel : (count k j : ℕ) (l : List ℕ) (x : Writing) → SoundAt count (length l) x → length l ≤ k → length l ≤ j → write_from count k l x ≡ write_from count j l x
unfolding write_from
fuel count zero zero l x h a b = refl
fuel count zero (suc j) [] x h a b = refl
fuel count (suc k) zero [] x h a b = refl
fuel count (suc k) (suc j) [] x h a b = refl
fuel count zero (suc j) (c ∷ l) x h a b = absurd (not-suc-le-zero a)
fuel count (suc k) zero (c ∷ l) x h a b = absurd (not-suc-le-zero b)
fuel count (suc k) (suc j) (c ∷ l) x h a b =
    let r = ready_readied count (length (c ∷ l)) x h (omega arith) in
    let s = space (ready count x).writer in
    let f = fewer s c l r.space in
    fuel count k j (drop s (c ∷ l)) (put (ready count x) (take s (c ∷ l))) (put_sound count (ready count x) (c ∷ l) r.sound r.space) (omega arith) (omega arith)

-- nothing left to write
pub write_none : (count : ℕ) (l : List ℕ) (x : Writing) → length l ≤ 0 → write_from count (length l) l x ≡ x
unfolding write_from
write_none count [] x h = refl
write_none count (b ∷ l) x h = absurd (not-suc-le-zero h)

-- ---- stores made before stay in front

abbrev pub behind : List Store → Writing → Writing
behind st x = record { stores = st ++ x.stores; map = x.map; cursor = x.cursor; writer = x.writer }

behind_staged : (count : ℕ) (st : List Store) (x : Writing) (a : Option ℕ) → staged count (behind st x) a ≡ behind st (staged count x a)
behind_staged count st x (Some p) = refl
behind_staged count st x None = refl

behind_flushes : (st : List Store) (x : Writing) → flushes (behind st x) ≡ behind st (flushes x)
behind_flushes st x =
    ap (λ (s : List Store). record { stores = s; map = (flushes x).map; cursor = (flushes x).cursor; writer = (flushes x).writer })
    (append_assoc st x.stores (stores_of x.writer))

behind_next : (count : ℕ) (st : List Store) (x : Writing) → next_page count (behind st x) ≡ behind st (next_page count x)
behind_next count st x =
    let a = alloc_of x.map count x.cursor in
    next_is count (behind st x)
    ∙ ap (λ (y : Writing). staged count y (alloc_of x.map count x.cursor)) (behind_flushes st x)
    ∙ behind_staged count st (flushes x) (alloc_of x.map count x.cursor)
    ∙ sym (ap (behind st) (next_is count x))

behind_ready : (count : ℕ) (st : List Store) (x : Writing) → ready count (behind st x) ≡ behind st (ready count x)
unfolding ready
behind_ready count st x = by (eqb (space x.writer) 0)
  where
    by : (b : Bool) → cond b (next_page count (behind st x)) (behind st x) ≡ behind st (cond b (next_page count x) x)
    by true = behind_next count st x
    by false = refl

pub behind_write : (count k : ℕ) (l : List ℕ) (st : List Store) (x : Writing) → write_from count k l (behind st x) ≡ behind st (write_from count k l x)
unfolding write_from
behind_write count zero l st x = refl
behind_write count (suc k) [] st x = refl
behind_write count (suc k) (b ∷ l) st x =
    let s = space (ready count x).writer in
    ap (λ (y : Writing). write_from count k (drop (space y.writer) (b ∷ l)) (put y (take (space y.writer) (b ∷ l)))) (behind_ready count st x)
    ∙ behind_write count k (drop s (b ∷ l)) st (put (ready count x) (take s (b ∷ l)))

made_behind : (img : List ℕ) (st : List Store) (x : Writing) → makes img (behind st x) ≡ makes (ran img st) x
made_behind img st x =
    ap (λ (i : List ℕ). record { image = i; map = x.map; cursor = x.cursor; writer = x.writer }) (ran_append img st x.stores)

-- what was made, with nothing stored since
abbrev pub again : Made → Writing
again z = record { stores = []; map = z.map; cursor = z.cursor; writer = z.writer }

-- a write that goes on from what was made
pub resume : (img : List ℕ) (count k : ℕ) (l : List ℕ) (y : Writing)
    → makes img (write_from count k l y) ≡ makes (ran img y.stores) (write_from count k l (again (makes img y)))
resume img count k l y =
    let z = again (makes img y) in
    let e : y ≡ behind y.stores (again (makes img y)) =
    sym (ap (λ (s : List Store). record { stores = s; map = y.map; cursor = y.cursor; writer = y.writer }) (append-nil y.stores)) in
    ap (λ (q : Writing). makes img (write_from count k l q)) e
    ∙ ap (makes img) (behind_write count k l y.stores z)
    ∙ made_behind img y.stores (write_from count k l z)

-- ---- one turn

-- what was made, with the rest of the state
abbrev closes : State → Made → Wrote
closes s z = writes z.image z.map (with_writer (with_cursor s z.cursor) z.writer)

pub turned : (img : List ℕ) (count : ℕ) (l : List ℕ) (x : Writing) → SoundAt count (length l) x → 0 < length l
    → let y = ready count x in
    let s = space y.writer in
    makes img (write_from count (length l) l x) ≡ makes (ran img y.stores) (write_from count (length (drop s l)) (drop s l) (put (again (makes img y)) (take s l)))
unfolding write_from
turned img count [] x h some = absurd (not-suc-le-zero some)
turned img count (b ∷ l) x h some =
    let r = ready_readied count (length (b ∷ l)) x h some in
    let s = space (ready count x).writer in
    let f = fewer s b l r.space in
    let p = put (ready count x) (take s (b ∷ l)) in
    ap (makes img) (fuel count (length l) (length (drop s (b ∷ l))) (drop s (b ∷ l)) p (put_sound count (ready count x) (b ∷ l) r.sound r.space) f (omega arith))
    ∙ resume img count (length (drop s (b ∷ l))) (drop s (b ∷ l)) p

-- of the code's loop: from image, map and state to the next, over the bytes l
module _ (img m : List ℕ) (s : State) (l : List ℕ) (img' m' : List ℕ) (r : State)
    (sound : Sound s.page_count (length l) m s.cursor s.writer) (some : 0 < length l)
    (er : writes img' m' r ≡ wrote img s (ready s.page_count (begins m s))) where
  readied : Readied s.page_count (length l) (ready s.page_count (begins m s))
  readied = ready_readied s.page_count (length l) (begins m s) sound some

  same_space : space r.writer ≡ space (ready s.page_count (begins m s)).writer
  unfolding with_writer with_cursor
  same_space = ap (λ (z : Wrote). space z.state.writer) er

  -- there is room
  pub turn_room : 0 < space r.writer
  turn_room = rw same_space readied.space

  pub turn_sound : Sound r.page_count (length l) m' r.cursor r.writer
  unfolding with_writer with_cursor
  turn_sound = subst (λ (z : Wrote). Sound z.state.page_count (length l) z.map z.state.cursor z.state.writer) (sym er) readied.sound

  -- what is put fits
  pub turn_fits : (n : ℕ) → n ≡ min (space r.writer) (length l) → r.writer.length + length (take n l) < 65536
  turn_fits n e =
      let k = space_some r.writer (space_on r.writer turn_room) in
      omega (arith, length-take n l, turn_sound.able.length)

  module _ (v : Writer) (n : ℕ) (en : n ≡ min (space r.writer) (length l)) (ev : v ≡ filled_by r.writer (take n l)) where
    abbrev next : State
    next = with_writer r v

    same_take : take n l ≡ take (space r.writer) l
    same_take = rw en (take_min (space r.writer) l)

    same_drop : drop n l ≡ drop (space r.writer) l
    same_drop = rw en (drop_min (space r.writer) l)

    pub turn_after : Sound next.page_count (length (drop n l)) m' next.cursor next.writer
    unfolding with_writer
    turn_after = rw (ev, same_take, same_drop) (put_sound r.page_count (begins m' r) l turn_sound turn_room)

    pub turn_made : wrote img' next (write_from next.page_count (length (drop n l)) (drop n l) (begins m' next))
        ≡ wrote img s (write_from s.page_count (length l) l (begins m s))
    unfolding with_writer with_cursor
    turn_made =
        ap (λ (w : Writer). wrote img' (with_writer r w) (write_from r.page_count (length (drop n l)) (drop n l) (begins m' (with_writer r w)))) ev
        ∙ ap (λ (z : Wrote). wrote z.image z.state (write_from z.state.page_count (length (drop n l)) (drop n l) (put (begins z.map z.state) (take n l)))) er
        ∙ (rw (same_take, same_drop, same_space) (ap (closes s) (sym (turned img s.page_count l (begins m s) sound some))))
