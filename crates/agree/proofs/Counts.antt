-- A world in which the invariant holds counts as mounted. Assumes nothing.
use Rattle.state.specs.Refusals.{fine}
use Rattle.seq.specs.Ids.{none}
use Rattle.seq.specs.Seq as SeqSpecs
use Rattle.state.specs.World.{World}
use Rattle.state.specs.declared.types.Writer as StateWriter
use Rattle.owners.specs.State as st
use Prim.Native.Nat.{ℕ, ◌+◌, ◌*◌, ◌≤◌, ◌<◌}
use mathlib.Core.Path.{◌≡◌, refl, sym, ap, ◌∙◌}
use mathlib.Core.Bool.{Bool, true, false, ◌||◌, not}
use mathlib.Core.List.{List}
use native.Mathlib.Omega.{arith}
use native.Mathlib.Decide.{ℕ_discrete}
use lib.ListN.{length}
use lib.Dec.{eqb}
use borrow.Author.Tests.{eq-eqb, le-leb, lt-ltb, le-ltb}
use Rattle.agree.specs.Good.{Good}
use Rattle.agree.specs.View.{rec_at}
use Rattle.agree.proofs.Finish.{copied_in}
use Rattle.agree.proofs.Records.{link_some, file_by, file_ranges}
use Rattle.agree.proofs.Staged.{back_inside, page_below, staged_ok, ready_ok}
use Rattle.owners.specs.State.{Base, Writer, Run}
use Rattle.owners.specs.Store.{Link, Store, Owner}
use Rattle.state.specs.Checks.{sizes, id_ok, writer_ok, is_mounted, wrong_size, checks}
use Rattle.seq.specs.Seq.{below}

id_none : (count id : ℕ) → id ≡ none → id_ok count id ≡ true
id_none count id e = rw (eq-eqb id none e)

id_in : (count id : ℕ) → id < count → id_ok count id ≡ true
id_in count id h = rw (lt-ltb id count h) (by (eqb id none))
  where
    by : (a : Bool) → (a || true) ≡ true
    by true = refl
    by false = refl

id_by : (count id : ℕ) → ((id ≡ none → ⊥) → id < count) → id_ok count id ≡ true
id_by count id h = go (ℕ_discrete id none)
  where
    go : Dec (id ≡ none) → id_ok count id ≡ true
    go (yes e) = id_none count id e
    go (no n) = id_in count id (h n)

-- each stored page has a number
run_short : {s : Store} {pc q : ℕ} {k : Link} {l : List ℕ} → Run s pc k q l → length l ≤ q
run_short st.done = omega arith
run_short (st.on a h b r) = let u = run_short r in omega arith

writer_ok_lem : (count : ℕ) (x : StateWriter.Writer) → x.file ≤ 7 → x.length ≤ 224 → id_ok count x.page ≡ true → id_ok count x.copied ≡ true → id_ok count x.previous ≡ true → x.seq + x.length ≤ SeqSpecs.limit → x.stored ≤ x.seq
    → writer_ok count x ≡ true
unfolding writer_ok
writer_ok_lem count x f n p c q l s =
    ap (λ (t : Bool). not x.active || t) (rw (le-leb x.file 7 f, le-leb x.length 224 n, p, c, q, le-leb (x.seq + x.length) SeqSpecs.limit l, le-leb x.stored x.seq s)) ∙ by (not x.active)
  where
    by : (a : Bool) → (a || true) ≡ true
    by true = refl
    by false = refl

writer_off : (count : ℕ) (x : StateWriter.Writer) → x.active ≡ false → writer_ok count x ≡ true
unfolding writer_ok
writer_off count x e = rw e

module _ {D : Type 0} {N : ℕ} {w : World} {b : Base} {own : ℕ → Owner} (g : Good D N w b own) where
  writer_in : writer_ok b.pc w.state.writer ≡ true
  writer_in = by w.state.writer.active refl
    where
      x : StateWriter.Writer
      x = w.state.writer

      by_page : (e : w.state.writer.active ≡ true) → Dec (w.state.writer.page ≡ none) → writer_ok b.pc w.state.writer ≡ true
      by_page e (yes n) =
          let r = ready_ok g e n in
          let q = (g.sees.wr e).waits n in
          let f = rec_at w.table w.state.writer.file in
          let k = g.sees.recs w.state.writer.file in
          let top : f.last_seq ≤ SeqSpecs.limit = file_by f (λ z y. omega (arith, (k.empty z).last)) (λ z y. omega (arith, (file_ranges f y (g.inv.files w.state.writer.file).ok).limit)) in
          let last : (w.state.writer.previous ≡ none → ⊥) → w.state.writer.previous < b.pc = λ z.
          file_by f (λ y u. absurd (z (q.previous ∙ y))) (λ y u. omega (arith, (file_ranges f u (g.inv.files w.state.writer.file).ok).inside, q.previous)) in
          writer_ok_lem b.pc w.state.writer (omega (arith, r.0)) (omega (arith, q.length)) (id_none b.pc w.state.writer.page n) (id_none b.pc w.state.writer.copied q.copied)
          (id_by b.pc w.state.writer.previous last) (omega (arith, q.seq, q.length)) (omega (arith, q.stored))
      by_page e (no n) =
          let m = staged_ok g e n in
          let s = m.staged in
          writer_ok_lem b.pc w.state.writer (omega (arith, s.below)) s.long.1 (id_in b.pc w.state.writer.page (page_below m))
          (id_by b.pc w.state.writer.copied (λ z. copied_in w.state.writer.file w.state.writer.copied g.inv.owners s.copy z))
          (id_by b.pc w.state.writer.previous (λ z. back_inside s.back (link_some w.state.writer.previous z)))
          s.fits (omega (arith, run_short s.run, s.many))

      by : (c : Bool) → w.state.writer.active ≡ c → writer_ok b.pc w.state.writer ≡ true
      by true e = by_page e (ℕ_discrete w.state.writer.page none)
      by false e = writer_off b.pc w.state.writer e

  pub good_mounted : is_mounted w.state ≡ true
  unfolding is_mounted
  good_mounted =
      let s = g.sees in
      let m = g.inv.mounted in
      let lo : 4 ≤ w.state.pages = omega (arith, s.pages, s.big) in
      let hi : w.state.pages ≤ 1024 = omega (arith, s.pages, s.small) in
      let one : 1 ≤ w.state.page_count = omega (arith, s.pc, m.mp_in) in
      let le : w.state.page_count ≤ w.state.pages = omega (arith, s.pc, s.pages, m.pc_in) in
      let mp : w.state.meta_page < w.state.page_count = omega (arith, s.mp, s.pc, m.mp_in) in
      let cu : w.state.cursor < w.state.page_count = omega (arith, s.cursor, s.pc) in
      let wr : writer_ok w.state.page_count w.state.writer ≡ true = ap (λ (c : ℕ). writer_ok c w.state.writer) s.pc ∙ writer_in in
      rw (
        s.flag,
        le-leb 4 w.state.pages lo,
        le-leb w.state.pages 1024 hi,
        le-leb 1 w.state.page_count one,
        le-leb w.state.page_count w.state.pages le,
        lt-ltb w.state.meta_page w.state.page_count mp,
        lt-ltb w.state.cursor w.state.page_count cu,
        wr,
        s.search.ok,
      )

  -- so checks 1 to 4 pass for whatever is not busy
  pub good_checks : (i : ℕ) → i ≤ 7 → checks (length w.image) (length w.map) w.state false i ≡ fine
  unfolding checks wrong_size sizes
  good_checks i h =
      let s = g.sees in
      let n = s.owners.size in
      let lo : 4 ≤ length w.map = omega (arith, s.big) in
      let hi : length w.map ≤ 1024 = omega (arith, s.small) in
      let e : length w.image ≡ 256 * length w.map = s.size ∙ ap (λ (k : ℕ). 256 * k) (sym n) in
      let p : length w.map ≡ w.state.pages = n ∙ sym s.pages in
      rw (good_mounted, le-leb (length w.map) 1024 hi, le-leb 4 (length w.map) lo, eq-eqb (length w.image) (256 * length w.map) e, eq-eqb (length w.map) w.state.pages p, le-ltb 7 i h)
