-- The calls' definitions, exit by exit, in the order of their tests. Assumes nothing.
use Rattle.std.specs.Prelude.{Err}
use Prim.Native.Nat.{ℕ, ◌+◌, ◌<◌}
use mathlib.Core.Path.{◌≡◌, refl, sym, ap, ◌∙◌}
use mathlib.Core.Bool.{Bool, true, false, cond, not, ◌&&◌}
use mathlib.Core.List.{List, []}
use native.Mathlib.Omega.{arith}
use borrow.Author.Tests.{ltb-false, eqb-true, ne_eqb, not-false}
use lib.Dec.{eqb, ltb}
use lib.ListN.{length, take}
use Rattle.seq.specs.Seq.{limit}
use Rattle.runs.proofs.Laws.{cond_by}
use Rattle.page.specs.declared.DataHeader.{DataHeader}
use Rattle.page.specs.Store.{ran, data_stores}
use Rattle.map.specs.Map.{free, held, free_count}
use Rattle.chain.specs.Steps.{read_at}
use Rattle.state.specs.declared.types.State.{State}
use Rattle.state.specs.declared.types.Writer.{Writer}
use Rattle.state.specs.declared.types.Refusal.{Refusal}
use Rattle.state.specs.declared.types.Refusal.TheVariants.{NoRoom, SeqEnd, NoSearch}
use Rattle.state.specs.Refusals.{on_done, Done, fine}
use Rattle.state.specs.declared.types.Table.{Table}
use Rattle.state.specs.Values.{file_at, with_file, no_writer, opened, with_writer}
use Rattle.state.specs.Checks.{checks}
use Rattle.state.specs.World.{World, Outcome, ended, kept, refuse, checked, before}
use Rattle.state.proofs.Laws.{MountedState, Passed, writer_says}
use Rattle.writer.specs.Staging.{previous_of, staged_header, flush_stores, record_ended, space, pages_for, too_few}
use Rattle.writer.specs.Write.{write_from, begun, written_as, write_in, write, record_end}
use Rattle.writer.specs.Finish.{marked, grown, finished, Back, lost, pages, back_from, discarded_by, discard}
use Rattle.writer.specs.Inner.{open_only, Ends, Sound, may_write, unbroken, freed_by}
use Rattle.writer.proofs.Pages.{flush_by}

-- ---- a write

-- by whether it is refused
pub write_by : (w : World) (l : List ℕ)
    → write_in w l ≡ on_done (may_write w.map w.state (length l)) (refuse w) (written_as w (write_from w.state.page_count (length l) l (begun w)))
unfolding write_in may_write
write_by w l =
    by (not w.state.writer.active) (ltb limit (w.state.writer.seq + w.state.writer.length + length l))
    (too_few w.map w.state.page_count (pages_for (space w.state.writer) (length l)))
  where
    o : Outcome Done
    o = written_as w (write_from w.state.page_count (length l) l (begun w))

    by : (a b c : Bool)
        → cond a (refuse w NoSearch) (cond b (refuse w SeqEnd) (cond c (refuse w NoRoom) o))
        ≡ on_done (cond a (Err NoSearch) (cond b (Err SeqEnd) (cond c (Err NoRoom) fine))) (refuse w) o
    by true b c = refl
    by false true c = refl
    by false false true = refl
    by false false false = refl

never : {why : Refusal} → Err why ≡ fine → ⊥
never e = let z : ◌≡◌ {A = ℕ} 0 1 = cc in omega arith

-- enough pages are free where they are not too few
pub enough : (m : List ℕ) (count k : ℕ) → too_few m count k ≡ false → 0 < k → k < free_count (take count m)
unfolding too_few
enough m count k = by (eqb k 0) refl (ltb (free_count (take count m)) (k + 1)) refl
  where
    by : (a : Bool) → eqb k 0 ≡ a → (b : Bool) → ltb (free_count (take count m)) (k + 1) ≡ b → (not a && b) ≡ false → 0 < k → k < free_count (take count m)
    by true e b f h s = absurd (omega (arith, eqb-true k 0 e))
    by false e true f h s = let z : ◌≡◌ {A = ℕ} 0 1 = cc in absurd (omega arith)
    by false e false f h s = omega (arith, ltb-false (free_count (take count m)) (k + 1) f)

pub may_active : (m : List ℕ) (s : State) (len : ℕ) → may_write m s len ≡ fine → s.writer.active ≡ true
unfolding may_write
may_active m s len h = cond_by (not s.writer.active) _ _ _ h (λ a q. absurd (never q)) (λ a q. not-false s.writer.active a)

-- what is not refused is sound
pub may_sound : (m : List ℕ) (s : State) (len : ℕ) → MountedState s → may_write m s len ≡ fine → Sound s.page_count len m s.cursor s.writer
unfolding may_write
may_sound m s len g h =
    cond_by (not s.writer.active) _ _ _ h (λ a q. absurd (never q))
    (λ a q. cond_by (ltb limit (s.writer.seq + s.writer.length + len)) _ _ _ q (λ b q. absurd (never q))
    (λ b q. cond_by (too_few m s.page_count (pages_for (space s.writer) len)) _ _ _ q (λ c q. absurd (never q))
    (λ c q.
    let on : s.writer.active ≡ true = not-false s.writer.active a in
    let o = writer_says s.page_count s.writer g.writer on in
    record {
      able = record { few = omega (arith, g.inside, g.high); cursor = g.cursor; end = o.end; stored = o.stored; length = o.length };
      end = ltb-false limit (s.writer.seq + s.writer.length + len) b;
      room = enough m s.page_count (pages_for (space s.writer) len) c;
    })))

-- ---- checks 1 to 4

pub cond_on : {X : Type 0} (b : Bool) (x y : X) → b ≡ true → cond b x y ≡ x
cond_on b x y e = rw e

pub cond_off : {X : Type 0} (b : Bool) (x y : X) → b ≡ false → cond b x y ≡ y
cond_off b x y e = rw e

module _ (w : World) (busy : Bool) (file : ℕ) (rest : Outcome Done) (d : Done)
    (e : d ≡ checks (length w.image) (length w.map) w.state busy file) where
  pub checked_refused : (why : Refusal) → d ≡ Err why → record { answer = d; world = w } ≡ ended w (checked w busy file (refuse w) rest)
  checked_refused why h = rw (← e, h)

  pub checked_passed : d ≡ fine → checked w busy file (refuse w) rest ≡ rest
  checked_passed h = rw (← e, h)

module _ (w : World) (d : Done) (e : d ≡ checks (length w.image) (length w.map) w.state false 0) (f : d ≡ fine) where
  abbrev x : Writer
  x = w.state.writer

  -- ---- discard

  abbrev walked : Back
  walked = back_from w.state.page_count (read_at w.image) w.state.writer.stored (previous_of w.state.writer)

  discard_in : discard w ≡ cond w.state.writer.active (discarded_by w w.state.writer walked) (refuse w NoSearch)
  unfolding discard
  discard_in = checked_passed w false 0 _ d e f

  pub discard_done : w.state.writer.active ≡ true → unbroken walked ≡ true
      → discard w ≡ record { answer = fine; stores = []; map = marked (freed_by w.map walked) w.state.writer.page free; table = w.table; state = with_writer w.state no_writer }
  discard_done a u = discard_in ∙ cond_on _ _ _ a ∙ by walked u
    where
      by : (b : Back) → unbroken b ≡ true
          → discarded_by w w.state.writer b ≡ record { answer = fine; stores = []; map = marked (freed_by w.map b) w.state.writer.page free; table = w.table; state = with_writer w.state no_writer }
      by lost u = let z : ◌≡◌ {A = ℕ} 0 1 = cc in absurd (omega arith)
      by (pages l) u = refl

  -- ---- a record's end

  abbrev ends : Outcome Done
  ends = record { answer = fine; stores = []; map = w.map; table = w.table; state = with_writer w.state (record_ended w.state.writer) }

  end_in_lem : record_end w ≡ cond w.state.writer.active ends (refuse w NoSearch)
  unfolding record_end
  end_in_lem = checked_passed w false 0 _ d e f

  -- ---- a write

  module _ (l : List ℕ) where
    write_in_lem : write w l ≡ cond (eqb (length l) 0) (kept w fine) (write_in w l)
    unfolding write
    write_in_lem = checked_passed w false 0 _ d e f

    module _ (some : length l ≡ 0 → ⊥) (may : Done) (g : may ≡ may_write w.map w.state (length l)) where
      write_may : write w l ≡ on_done may (refuse w) (written_as w (write_from w.state.page_count (length l) l (begun w)))
      write_may = write_in_lem ∙ cond_off _ _ _ (ne_eqb (length l) 0 some) ∙ write_by w l ∙ rw (← g)

      pub write_refused : (why : Refusal) → may ≡ Err why → record { answer = may; world = w } ≡ ended w (write w l)
      write_refused why h = sym (ap (ended w) write_may ∙ rw h)

      pub write_done : may ≡ fine → write w l ≡ written_as w (write_from w.state.page_count (length l) l (begun w))
      write_done h = write_may ∙ rw h

-- ---- a page finished

open_says : (s : State) → fine ≡ open_only s → s.writer.active ≡ true
open_says s = by s.writer.active
  where
    by : (b : Bool) → fine ≡ cond b fine (Err NoSearch) → b ≡ true
    by true e = refl
    by false e = absurd (never (sym e))

-- an open writer that passed the checks
pub passed_ends : {image map file : ℕ} {busy : Bool} (s : State) → Passed image map s busy file → fine ≡ open_only s → Ends s.writer
passed_ends s p e =
    let o = writer_says s.page_count s.writer p.mounted.writer (open_says s e) in
    record { file = o.file; end = omega (arith, o.end) }

pub finished_is : (w : World) (img m : List ℕ) (h : DataHeader) (t : Table) (st : State)
    → h ≡ staged_header w.state.writer
    → img ≡ ran w.image (data_stores w.state.writer.page h (take h.length w.state.writer.staged))
    → m ≡ marked w.map w.state.writer.copied held
    → t ≡ with_file w.table w.state.writer.file (grown (file_at w.table w.state.writer.file) w.state.writer)
    → st ≡ with_writer (opened w.state) no_writer
    → record { answer = fine; world = before img m t st } ≡ ended w (finished w w.state.writer)
unfolding finished
finished_is w img m h t st eh ei em et ex =
    let i : img ≡ ran w.image (flush_stores w.state.writer) = ei ∙ ap (ran w.image) (flush_by w.state.writer h eh) in
    rw (i, em, et, ex)
