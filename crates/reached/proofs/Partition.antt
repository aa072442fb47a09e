-- Each page below page_count is of exactly one kind, in every sound world that counts as mounted. Assumes nothing.
use Rattle.seq.specs.Ids.{none}
use Rattle.state.specs.World.{World}
use Rattle.chain.specs.Files.{last_of}
use Rattle.writer.specs.Staging.{previous_of}
use Rattle.writer.specs.Finish.{pages, back_from}
use Rattle.owners.specs.Store as st
use Rattle.owners.specs.Store.{Owner}
use Rattle.reached.specs.Asked.{free, held, meta, file, writer}
use Prim.Native.Nat.{ℕ, ◌<◌}
use mathlib.Core.Path.{◌≡◌, refl, sym, ap, subst, ◌∙◌}
use mathlib.Core.Bool.{Bool, true, false}
use mathlib.Core.Logic.{inl, inr}
use mathlib.Core.List.{List, [], ◌∷◌}
use native.Mathlib.Omega.{arith}
use native.Mathlib.Decide.{ℕ_discrete, dec_lt}
use lib.ListN.{length}
use Rattle.state.specs.declared.types.FileRecord.{FileRecord}
use Rattle.reached.specs.Asked.{In, Kind, OnChain, OfWriter, Is, One}
use Rattle.reached.proofs.Reach.{Sound}
use Rattle.agree.specs.Good.{Good}
use Rattle.agree.specs.View.{view, code, as_file, rec_at}
use Rattle.agree.proofs.Finish.{zero_back, back_new}
use Rattle.agree.proofs.Keeps.{writer_shut}
use Rattle.agree.proofs.Maps.{code_free, code_held}
use Rattle.agree.proofs.Pages.{clash}
use Rattle.agree.proofs.Records.{file_live, file_by, file_at_lem}
use Rattle.agree.proofs.Staged.{staged_ok, ready_ok}
use Rattle.agree.proofs.Walking.{walk_complete, file_walk}
use Rattle.owners.specs.Moves.{mem_nil}
use Rattle.owners.specs.State.{Base, shut, WriterOk}
use Rattle.owners.specs.Store.{Store, File, gone, outside, Mem, here, there, FileOk}
use Rattle.owners.proofs.Finding.{case}
use Rattle.state.specs.Checks.{is_mounted}
use Rattle.state.specs.Values.{file_at}
use Rattle.chain.specs.Steps.{read_at, walk, visited}

pub in_mem : {p : ℕ} {l : List ℕ} → In p l → Mem p l
in_mem {p} {l} h = go l h
  where
    go : (l : List ℕ) → In p l → Mem p l
    go [] h = absurd h
    go (q ∷ l) (inl e) = rw e st.here
    go (q ∷ l) (inr h) = st.there (go l h)

pub mem_in : {p : ℕ} {l : List ℕ} → Mem p l → In p l
mem_in st.here = inl refl
mem_in (st.there k) = inr (mem_in k)

abbrev owner_of : Kind → Owner
owner_of free = st.free
owner_of held = st.held
owner_of meta = st.meta
owner_of (file i) = st.file i
owner_of writer = st.writer

abbrev kind_of : Owner → Kind
kind_of st.free = free
kind_of st.held = held
kind_of st.meta = meta
kind_of st.outside = free
kind_of st.writer = writer
kind_of (st.file i) = file i

owner_kind : (k : Kind) → kind_of (owner_of k) ≡ k
owner_kind free = refl
owner_kind held = refl
owner_kind meta = refl
owner_kind (file i) = refl
owner_kind writer = refl

kind_owner : (o : Owner) → (o ≡ st.outside → ⊥) → o ≡ owner_of (kind_of o)
kind_owner st.free n = refl
kind_owner st.held n = refl
kind_owner st.meta n = refl
kind_owner st.outside n = absurd (n refl)
kind_owner st.writer n = refl
kind_owner (st.file i) n = refl

no_pages : {s : st.Store} {pc p : ℕ} {f : File} {l : List ℕ} → FileOk s pc f l → f ≡ gone → Mem p l → ⊥
no_pages st.empty e m = mem_nil m refl
no_pages (st.full a h b c d w) e m = clash cc

module _ {D : Type 0} {N : ℕ} {w : World} {b : Base} {own : ℕ → Owner} (g : Good D N w b own) where
  -- a file's walk visits its pages
  pub chain_pages : (i : ℕ) → ((rec_at w.table i).last_page ≡ none → ⊥)
      → visited (last_of (rec_at w.table i)) (walk w.state.page_count (read_at w.image) (rec_at w.table i).first_seq (last_of (rec_at w.table i))) ≡ (g.inv.files i).pages
  chain_pages i n =
      let r = rec_at w.table i in
      ap (λ (c : ℕ). visited (last_of r) (walk c (read_at w.image) r.first_seq (last_of r))) g.sees.pc
      ∙ (walk_complete w.image b.pc r.first_seq (last_of r) ((g.sees.recs i).stands n) (file_walk (g.inv.files i).ok (file_live r n))).pages

  module _ (p : ℕ) (h : p < w.state.page_count) where
    under : p < b.pc
    under = omega (arith, g.sees.pc)

    in_map : p < N
    in_map = omega (arith, under, g.inv.mounted.pc_in)

    low : p ≡ none → ⊥
    low z = omega (arith, in_map, g.sees.small)

    -- the writer's
    writer_page : OfWriter w w.state.writer p → own p ≡ st.writer
    writer_page o = by (ℕ_discrete w.state.writer.page none)
      where
        by : Dec (w.state.writer.page ≡ none) → own p ≡ st.writer
        by (no n) =
            let m = staged_ok g o.active n in
            let e : pages o.stored ≡ pages m.staged.new =
            sym o.are ∙ ap (λ (c : ℕ). back_from c (read_at w.image) w.state.writer.stored (previous_of w.state.writer)) g.sees.pc ∙ back_new m in
            let z : o.stored ≡ m.staged.new = cc in
            m.staged.written p (in_mem (subst (λ (l : List ℕ). In p (w.state.writer.page ∷ l)) z o.one))
        by (yes n) =
            let q = (g.sees.wr o.active).waits n in
            let e : pages o.stored ≡ pages [] =
            sym o.are ∙ ap (λ (c : ℕ). back_from w.state.page_count (read_at w.image) c (previous_of w.state.writer)) q.stored ∙ zero_back w.state.page_count (read_at w.image) (previous_of w.state.writer) in
            let z : o.stored ≡ [] = cc in
            case (subst (λ (l : List ℕ). In p (w.state.writer.page ∷ l)) z o.one) (λ y. absurd (low (y ∙ n))) (λ y. absurd y)

    page_writer : own p ≡ st.writer → OfWriter w w.state.writer p
    page_writer e = by w.state.writer.active refl
      where
        staged_by_lem : (a : w.state.writer.active ≡ true) → Dec (w.state.writer.page ≡ none) → OfWriter w w.state.writer p
        staged_by_lem a (yes n) = absurd ((ready_ok g a n).1 p e)
        staged_by_lem a (no n) =
            let m = staged_ok g a n in
            record {
              active = a;
              stored = m.staged.new;
              are = ap (λ (c : ℕ). back_from c (read_at w.image) w.state.writer.stored (previous_of w.state.writer)) g.sees.pc ∙ back_new m;
              one = mem_in (m.staged.all_written p e);
            }

        by : (c : Bool) → w.state.writer.active ≡ c → OfWriter w w.state.writer p
        by true a = staged_by_lem a (ℕ_discrete w.state.writer.page none)
        by false a =
            let z : WriterOk (view w.image) b.pc (λ i. as_file (rec_at w.table i)) own shut = subst (WriterOk (view w.image) b.pc (λ i. as_file (rec_at w.table i)) own) (writer_shut w.state.writer a) g.inv.wr_ok in
            absurd (z p e)

    -- a file's
    page_file : (i : ℕ) → own p ≡ st.file i → (i < 8) × OnChain w (file_at w.table i) p
    page_file i e =
        let a = g.inv.files i in
        let m = a.all p e in
        let i8 : i < 8 = by_id m (dec_lt i 8) in
        let l : i < length w.table.files = omega (arith, g.sees.eight) in (
          i8,
          subst (λ (f : FileRecord). OnChain w f p) (sym (file_at_lem w.table i l))
              (file_by (rec_at w.table i) (λ z y. absurd (no_pages a.ok y m))
              (λ z y. record { some = z; visits = subst (In p) (sym (chain_pages i z)) (mem_in m) })),
        )
      where
        by_id : Mem p (g.inv.files i).pages → Dec (i < 8) → i < 8
        by_id m (yes k) = k
        by_id m (no k) = absurd (no_pages (g.inv.files i).ok (g.inv.above i (omega arith)) m)

    is_owner : (k : Kind) → Is w p k → own p ≡ owner_of k
    is_owner free e = code_free (own p) (sym (g.sees.owners.byte p in_map) ∙ e)
    is_owner held e = code_held (own p) (sym (g.sees.owners.byte p in_map) ∙ e)
    is_owner meta e = ap own (e ∙ g.sees.mp) ∙ g.inv.owners.meta_at
    is_owner (file i) (i8, c) =
        let l : i < length w.table.files = omega (arith, g.sees.eight) in
        let o = subst (λ (f : FileRecord). OnChain w f p) (file_at_lem w.table i l) c in
        (g.inv.files i).mine p (in_mem (subst (In p) (chain_pages i o.some) o.visits))
    is_owner writer o = writer_page o

    owner_is : (k : Kind) → own p ≡ owner_of k → Is w p k
    owner_is free e = g.sees.owners.byte p in_map ∙ ap code e
    owner_is held e = g.sees.owners.byte p in_map ∙ ap code e
    owner_is meta e = g.inv.owners.meta_only p e ∙ sym g.sees.mp
    owner_is (file i) e = page_file i e
    owner_is writer e = page_writer e

    pub one_kind : One w p
    one_kind =
        record {
          kind = kind_of (own p);
          is = owner_is (kind_of (own p)) (kind_owner (own p) (λ z. omega (arith, g.inv.owners.out_only p z, under)));
          only = λ k i. sym (ap kind_of (is_owner k i) ∙ owner_kind k);
        }

-- PARTITION
pub sound_partition : {w : World} → Sound w → is_mounted w.state ≡ true → (p : ℕ) → p < w.state.page_count → One w p
sound_partition s e p h = one_kind (s.mounted e).good p h
