-- A call keeps the invariant: what all calls share, and the calls that store nothing and move no page: search, record end, flags, rename.
-- Assumes nothing.
use Rattle.std.specs.Prelude.{Ok, Err}
use Rattle.seq.specs.Ids.{none}
use Rattle.seq.specs.Seq as SeqSpecs
use Rattle.state.specs.declared.types.Refusal.{Refusal}
use Rattle.state.specs.declared.types.Writer as StateWriter
use Rattle.state.specs.World.{World, Outcome, ended, checked}
use Rattle.transact.specs.Rename as TransactRename
use Rattle.transact.specs.Rename.{swapped, changed_table, rename}
use Rattle.transact.specs.Truncate.{dirtied}
use Rattle.search.specs.declared.search.Stand.{Stand as Stood}
use Rattle.search.specs.Search as SearchCalls
use Rattle.search.specs.Hunt as hunting
use Rattle.writer.specs.Staging.{record_ended, is_staged, staged_header, staged_links}
use Rattle.writer.specs.Write.{record_end}
use borrow.Author.Tests.{not-true}
use Rattle.state.specs.declared.types.Search.{Search}
use Prim.Native.Nat.{ℕ, ◌≤◌, ◌<◌}
use mathlib.Core.Path.{◌≡◌, refl, sym, ap, subst, ◌∙◌}
use mathlib.Core.Bool.{Bool, true, false, cond, ◌&&◌}
use mathlib.Core.List.{List, []}
use native.Mathlib.Omega.{arith}
use native.Mathlib.Decide.{ℕ_discrete}
use lib.ListN.{length}
use lib.Dec.{ltb, eqb}
use borrow.Author.Tests.{eq-eqb, ne_eqb, lt-ltb, eqb-false, ltb-false}
use Rattle.state.specs.declared.types.FileRecord.{FileRecord}
use Rattle.state.specs.declared.types.Table.{Table}
use Rattle.agree.specs.Good.{RecordOk, SearchIs, Good, Known}
use Rattle.agree.specs.Rules.{ChainOf, staged_page}
use Rattle.agree.specs.View.{view, code, Mapped, as_file, rec_at, staged_by, writer_by, as_writer, now_of}
use Rattle.agree.proofs.Seen.{sees_on}
use Rattle.agree.proofs.Hunts.{hunt_small, offering_ok, no_search_ok}
use Rattle.agree.proofs.Maps.{mapped_same}
use Rattle.agree.proofs.Pages.{clash}
use Rattle.agree.proofs.Records.{file_live, file_by, file_at_lem, with_at, with_off, with_eight, with_files, with_marks, with_each, file_ranges, now_is, inv_is}
use Rattle.agree.proofs.Ruling.{reaches_copy, record_chain, chain_record}
use Rattle.owners.specs.Moves.{swap, swap_o, set_f, set_d, set_flags}
use Rattle.owners.specs.State.{link_of, Base, Writer, shut, ready, staging, WriterOk, Inv}
use Rattle.owners.specs.Store.{pick, File, Owner, free, held, meta, writer, outside, file}
use Rattle.owners.proofs.Tables.{pick_yes, pick_no, inv_flags, inv_touch, inv_rename}
use Rattle.state.specs.Checks.{checks}
use Rattle.state.specs.Refusals.{on_done, Done, fine}
use Rattle.state.specs.Values.{file_at, with_file, is_empty, in_shape, flagged, with_flags, no_search, opened, with_writer, with_search}
use Rattle.state.proofs.Laws.{OpenSearch, search_says, Passed, checks_pass}
use Rattle.chain.specs.Steps.{read_at}

abbrev pub Keeps : {A : Type 0} → Type 0 → ℕ → World → Outcome A → Type 0
Keeps D N w o = Known D N (ended w o).world

-- ---- tests

pub cond_by : {A : Type 0} (P : A → Type 0) (t : Bool) (a b : A) → (t ≡ true → P a) → (t ≡ false → P b) → P (cond t a b)
cond_by P true a b f g = f refl
cond_by P false a b f g = g refl

-- checks 1 to 4
pub checked_by : {A : Type 0} (P : A → Type 0) (w : World) (busy : Bool) (k : ℕ) (no_go : Refusal → A) (go : A) → ((why : Refusal) → P (no_go why))
    → (Passed (length w.image) (length w.map) w.state busy k → P go) → P (checked w busy k no_go go)
checked_by P w busy k no_go go f g = by (checks (length w.image) (length w.map) w.state busy k) refl
  where
    by : (d : Done) → checks (length w.image) (length w.map) w.state busy k ≡ d → P (on_done d no_go go)
    by (Err why) e = f why
    by (Ok u) e = g (checks_pass (length w.image) (length w.map) w.state busy k e)

-- ---- the writer

pub writer_shut : (x : StateWriter.Writer) → x.active ≡ false → as_writer x ≡ shut
unfolding as_writer
writer_shut x e = ap (writer_by x) e

pub writer_ready : (x : StateWriter.Writer) → x.active ≡ true → x.page ≡ none → as_writer x ≡ ready x.file
unfolding as_writer
writer_ready x e h = ap (writer_by x) e ∙ ap (staged_by x) (eq-eqb x.page none h)

pub writer_staged : (x : StateWriter.Writer) → x.active ≡ true → (x.page ≡ none → ⊥)
    → as_writer x ≡ staging x.file (link_of x.previous) x.seq x.page x.length (link_of x.copied) x.stored
unfolding as_writer
writer_staged x e h = ap (writer_by x) e ∙ ap (staged_by x) (ne_eqb x.page none h)

module _ {D : Type 0} {N : ℕ} {w : World} {b : Base} {own : ℕ → Owner} (g : Good D N w b own) where
  pub known : Known D N w
  known = record { base = b; own = own; good = g }

  -- ---- only the search changes

  pub search_keeps : (q : Search) → SearchIs q → Known D N (record { image = w.image; map = w.map; table = w.table; state = with_search w.state q })
  unfolding with_search
  search_keeps q sok =
      let s = g.sees in
      record {
        base = b;
        own = own;
        good =
            record {
              sees =
                  sees_on s _ _ (refl, refl, refl) (refl, refl, refl, refl, refl, refl) s.bytes s.cursor sok s.owners s.eight s.recs
                  s.wr;
              inv = g.inv;
              rules = λ d. let r = g.rules d in record { now = r.now; base = r.base; wr = r.wr };
            };
      }

  sought_keeps : (s : Stood) → s.file ≤ 7 → s.right ≤ SeqSpecs.limit → s.result ≤ SeqSpecs.limit → Keeps D N w (SearchCalls.sought w s)
  unfolding SearchCalls.sought
  sought_keeps s f r t = by (hunting.hunt w.state.page_count (read_at w.image) s.left s.right s.links) refl
    where
      by : (y : hunting.Sought) → hunting.hunt w.state.page_count (read_at w.image) s.left s.right s.links ≡ y → Keeps D N w (SearchCalls.sought_by w s y)
      by (hunting.offered left o) e =
          let k = hunt_small w.state.page_count (read_at w.image) s.right s.links s.left left o e in
          search_keeps (SearchCalls.offering s left o) (offering_ok s left o f r t k.0 k.1)
      by hunting.ended e = search_keeps no_search no_search_ok
      by hunting.broken e = known

  -- a file's numbers keep the limit
  ends_low : (i : ℕ) → ((rec_at w.table i).first_seq ≤ SeqSpecs.limit) × ((rec_at w.table i).last_seq ≤ SeqSpecs.limit)
  ends_low i =
      let r = rec_at w.table i in
      let k = g.sees.recs i in
      file_by r (λ z e. (omega (arith, (k.empty z).first), omega (arith, (k.empty z).last)))
      (λ z e. let u = file_ranges r e (g.inv.files i).ok in (omega (arith, u.some, u.limit), omega (arith, u.limit)))

  pub in_table : {i : ℕ} → i ≤ 7 → i < length w.table.files
  in_table h = omega (arith, g.sees.eight)

  -- SEARCH
  pub start_keeps : (i : ℕ) → Keeps D N w (SearchCalls.start w i)
  unfolding SearchCalls.start SearchCalls.start_in
  start_keeps i =
      checked_by (Keeps D N w) w w.state.transaction i _ _ (λ why. known)
      (λ h. subst (λ (f : FileRecord). Keeps D N w (SearchCalls.start_in w i f)) (sym (file_at_lem w.table i (in_table h.known)))
      (cond_by (Keeps D N w) (is_empty (rec_at w.table i)) _ _ (λ e. search_keeps no_search no_search_ok)
      (λ e. cond_by (Keeps D N w) (in_shape w.state.page_count (rec_at w.table i)) _ _
      (λ t. sought_keeps (SearchCalls.start_of i (rec_at w.table i)) h.known (ends_low i).1 (ends_low i).0) (λ t. known))))

  -- an offer is answered
  answered_keeps : (f : Search → Stood) → ((q : Search) → OpenSearch q → ((f q).file ≤ 7) × ((f q).right ≤ SeqSpecs.limit) × ((f q).result ≤ SeqSpecs.limit)) → Keeps D N w (SearchCalls.answered w f)
  unfolding SearchCalls.answered
  answered_keeps f small =
      checked_by (Keeps D N w) w w.state.transaction 0 _ _ (λ why. known)
      (λ h. cond_by (Keeps D N w) w.state.search.active _ _
      (λ e. let k = small w.state.search (search_says w.state.search g.sees.search.ok e) in sought_keeps (f w.state.search) k.0 k.1 k.2) (λ e. known))

  pub left_keeps : Keeps D N w (SearchCalls.left w)
  left_keeps = answered_keeps SearchCalls.left_of (λ q k. (k.file, k.low, k.result))

  pub right_keeps : Keeps D N w (SearchCalls.right w)
  right_keeps = answered_keeps SearchCalls.right_of (λ q k. (k.file, k.right, k.mid))

  -- ---- the table changes, and perhaps who has which page; no writer is open

  pub table_keeps : w.state.writer.active ≡ false → (t : Table) (m : List ℕ) (own' : ℕ → Owner) → length t.files ≡ 8 → ((i : ℕ) → RecordOk w.image (rec_at t i))
      → Mapped m N own' → Inv N (view w.image) b (record { tab = λ i. as_file (rec_at t i); own = own'; dirty = λ i. (rec_at t i).dirty; tx = true; wr = shut })
      → (D → (i : ℕ) → ChainOf w.image b.pc (as_file (rec_at t i)))
      → Keeps D N w (record { answer = fine; stores = []; map = m; table = t; state = opened w.state })
  unfolding opened
  table_keeps off t m own' eight recs mapped v rules =
      let s = g.sees in
      record {
        base = b;
        own = own';
        good =
            record {
              sees =
                  sees_on s _ _ (refl, refl, refl) (refl, refl, refl, refl, refl, refl) s.bytes s.cursor no_search_ok mapped eight recs
                  (λ e. clash cc);
              inv = inv_is (now_is (λ i. refl) (λ x. refl) (λ i. refl) refl (sym (writer_shut w.state.writer off))) v;
              rules = λ d. record { now = rules d; base = (g.rules d).base; wr = λ e. clash (cc) };
            };
      }

  -- no writer is open in the store of pages either
  pub shut_now : w.state.writer.active ≡ false → (now_of w.table w.state own).wr ≡ shut
  shut_now e = writer_shut w.state.writer e

  -- ---- FLAGS

  -- the record as it was, or with the flags and the mark
  flagged_by : (P : FileRecord → Type 0) (f : FileRecord) (n : ℕ) → P f
      → ((f.last_page ≡ none → ⊥) → P (record { dirty = true; last_page = f.last_page; header = f.header; first_seq = f.first_seq; last_seq = f.last_seq; flags = n }))
      → P (flagged f n)
  unfolding flagged
  flagged_by P f n a c =
      cond_by P (is_empty f) _ _ (λ e. a)
      (λ e. cond_by P (eqb f.flags n) _ _ (λ t. a) (λ t. c (eqb-false f.last_page none e)))

  pub flags_keeps : (i n : ℕ) → n < 256 → Keeps D N w (TransactRename.flags w i n)
  unfolding TransactRename.flags with_flags
  flags_keeps i n small =
      checked_by (Keeps D N w) w w.state.writer.active i _ _ (λ why. known)
      (λ h. let i8 : i < 8 = omega (arith, h.known) in
      subst (λ (x : Bool). Keeps D N w (changed_table w (cond x (with_file w.table i (flagged (file_at w.table i) n)) w.table))) (sym (lt-ltb i 8 i8))
      (subst (λ (f : FileRecord). Keeps D N w (changed_table w (with_file w.table i (flagged f n)))) (sym (file_at_lem w.table i (in_table h.known)))
      (flagged_by (λ (f : FileRecord). Keeps D N w (changed_table w (with_file w.table i f))) (rec_at w.table i) n (as_was i h) (changed i i8 h))))
    where
      as_was : (i : ℕ) → Passed (length w.image) (length w.map) w.state w.state.writer.active i → Keeps D N w (changed_table w (with_file w.table i (rec_at w.table i)))
      as_was i h =
          let t = w.table in
          let f = rec_at t i in
          let same : (j : ℕ) → rec_at (with_file t i f) j ≡ rec_at t j = same_set in
          table_keeps h.idle (with_file t i f) w.map own (with_eight t i f (in_table h.known) ∙ g.sees.eight)
          (with_each t i f (in_table h.known) (RecordOk w.image) (g.sees.recs i) (λ j n. g.sees.recs j)) g.sees.owners
          (inv_is (now_is (λ j. ap as_file (sym (same j))) (λ x. refl) (λ j. ap (λ (r : FileRecord). r.dirty) (sym (same j))) refl (shut_now h.idle)) (inv_touch g.inv))
          (λ d j. subst (λ (r : FileRecord). ChainOf w.image b.pc (as_file r)) (sym (same j)) ((g.rules d).now j))
        where
          same_set : (j : ℕ) → rec_at (with_file w.table i (rec_at w.table i)) j ≡ rec_at w.table j
          same_set j = go (ℕ_discrete j i)
            where
              go : Dec (j ≡ i) → rec_at (with_file w.table i (rec_at w.table i)) j ≡ rec_at w.table j
              go (yes z) = ap (rec_at (with_file w.table i (rec_at w.table i))) z ∙ with_at w.table i (rec_at w.table i) (in_table h.known) ∙ ap (rec_at w.table) (sym z)
              go (no n) = with_off w.table i (rec_at w.table i) (in_table h.known) j n

      changed : (i : ℕ) → i < 8 → Passed (length w.image) (length w.map) w.state w.state.writer.active i → ((rec_at w.table i).last_page ≡ none → ⊥)
          → Keeps D N w (changed_table w (with_file w.table i (record { dirty = true; last_page = (rec_at w.table i).last_page; header = (rec_at w.table i).header; first_seq = (rec_at w.table i).first_seq; last_seq = (rec_at w.table i).last_seq; flags = n })))
      changed i i8 h some =
          let t = w.table in
          let f = rec_at t i in
          let f' : FileRecord = record { dirty = true; last_page = f.last_page; header = f.header; first_seq = f.first_seq; last_seq = f.last_seq; flags = n } in
          let l = in_table h.known in
          table_keeps h.idle (with_file t i f') w.map own (with_eight t i f' l ∙ g.sees.eight)
          (with_each t i f' l (RecordOk w.image) (record { empty = λ z. absurd (some z); stands = λ z. (g.sees.recs i).stands z; byte = small }) (λ j n. g.sees.recs j)) g.sees.owners
          (inv_is (now_is (with_files t i f' l (set_flags (as_file f) n) (file_live f' some ∙ sym (ap (λ (y : File). set_flags y n) (file_live f some)))) (λ x. refl) (with_marks t i f' l refl) refl refl)
          (inv_flags i n g.inv (shut_now h.idle) i8))
          (λ d. with_each t i f' l (λ (r : FileRecord). ChainOf w.image b.pc (as_file r))
          (let c = record_chain f (g.sees.recs i) some ((g.rules d).now i) in chain_record f' some ((g.sees.recs i).stands some) c) (λ j n. (g.rules d).now j))

  -- ---- RENAME

  swap_code : (i j : ℕ) (o : Owner) → code (swap_o i j o) ≡ code o
  swap_code i j free = refl
  swap_code i j held = refl
  swap_code i j meta = refl
  swap_code i j writer = refl
  swap_code i j outside = refl
  swap_code i j (file k) = refl

  dirtied_ok : (f : FileRecord) → RecordOk w.image f → RecordOk w.image (dirtied f)
  unfolding dirtied
  dirtied_ok f k = record { empty = λ z. record { header = (k.empty z).header; first = (k.empty z).first; last = (k.empty z).last; flags = (k.empty z).flags }; stands = k.stands; byte = k.byte }

  dirtied_file : (f : FileRecord) → as_file (dirtied f) ≡ as_file f
  unfolding dirtied as_file
  dirtied_file f = refl

  dirtied_mark : (f : FileRecord) → (dirtied f).dirty ≡ true
  unfolding dirtied
  dirtied_mark f = refl

  pub rename_keeps : (i j : ℕ) → Keeps D N w (rename w i j)
  unfolding rename swapped
  rename_keeps i j =
      checked_by (Keeps D N w) w w.state.writer.active i _ _ (λ why. known)
      (λ h. cond_by (Keeps D N w) (ltb 7 j) _ _ (λ e. known)
      (λ e. let j7 : j ≤ 7 = ltb-false 7 j e in
      let t = w.table in
      let li = in_table h.known in
      let lj = in_table j7 in
      subst (λ (f : FileRecord). Keeps D N w (changed_table w (with_file (with_file t i (dirtied f)) j (dirtied (file_at t i))))) (sym (file_at_lem t j lj))
      (subst (λ (f : FileRecord). Keeps D N w (changed_table w (with_file (with_file t i (dirtied (rec_at t j))) j (dirtied f)))) (sym (file_at_lem t i li))
      (swapped_keeps h.idle h.known j7))))
    where
      swapped_keeps : w.state.writer.active ≡ false → i ≤ 7 → j ≤ 7 → Keeps D N w (changed_table w (with_file (with_file w.table i (dirtied (rec_at w.table j))) j (dirtied (rec_at w.table i))))
      swapped_keeps off i7 j7 =
          let t = w.table in
          let t₁ = with_file t i (dirtied (rec_at t j)) in
          let t₂ = with_file t₁ j (dirtied (rec_at t i)) in
          let li = in_table i7 in
          let e₁ = with_eight t i (dirtied (rec_at t j)) li in
          let lj : j < length t₁.files = omega (arith, g.sees.eight) in
          table_keeps off t₂ w.map (λ x. swap_o i j (own x)) (with_eight t₁ j (dirtied (rec_at t i)) lj ∙ e₁ ∙ g.sees.eight)
          (with_each t₁ j (dirtied (rec_at t i)) lj (RecordOk w.image) (dirtied_ok (rec_at t i) (g.sees.recs i))
          (λ k n. with_each t i (dirtied (rec_at t j)) li (RecordOk w.image) (dirtied_ok (rec_at t j) (g.sees.recs j)) (λ k n. g.sees.recs k) k))
          (mapped_same g.sees.owners (λ x. swap_o i j (own x)) (λ p k. swap_code i j (own p)))
          (inv_is (now_is tabs (λ x. refl) marks refl refl) (inv_rename i j g.inv (shut_now off) (omega arith) (omega arith)))
          (λ d k. subst (ChainOf w.image b.pc) (tabs k) ((g.rules d).now (swap i j k)))
        where
          l₁ : i < length w.table.files
          l₁ = in_table i7

          l₂ : j < length (with_file w.table i (dirtied (rec_at w.table j))).files
          l₂ = omega (arith, g.sees.eight, with_eight w.table i (dirtied (rec_at w.table j)) l₁)

          tabs : (k : ℕ) → as_file (rec_at w.table (swap i j k)) ≡ as_file (rec_at (with_file (with_file w.table i (dirtied (rec_at w.table j))) j (dirtied (rec_at w.table i))) k)
          tabs k = go (ℕ_discrete k i) (ℕ_discrete k j) ∙ with_files (with_file w.table i (dirtied (rec_at w.table j))) j (dirtied (rec_at w.table i)) l₂ _ (dirtied_file (rec_at w.table i)) k
            where
              one : (k : ℕ) → set_f (λ j. as_file (rec_at w.table j)) i (as_file (rec_at w.table j)) k ≡ as_file (rec_at (with_file w.table i (dirtied (rec_at w.table j))) k)
              one k = with_files w.table i (dirtied (rec_at w.table j)) l₁ _ (dirtied_file (rec_at w.table j)) k

              go : (d : Dec (k ≡ i)) (d' : Dec (k ≡ j)) → as_file (rec_at w.table (pick d j (pick d' i k))) ≡ pick d' (as_file (rec_at w.table i)) (as_file (rec_at (with_file w.table i (dirtied (rec_at w.table j))) k))
              go (yes z) (yes y) = ap (λ (x : ℕ). as_file (rec_at w.table x)) (sym y ∙ z)
              go (yes z) (no y) = sym (pick_yes (ℕ_discrete k i) z (as_file (rec_at w.table j)) (as_file (rec_at w.table k))) ∙ one k
              go (no z) (yes y) = refl
              go (no z) (no y) = sym (pick_no (ℕ_discrete k i) z (as_file (rec_at w.table j)) (as_file (rec_at w.table k))) ∙ one k

          marks : (k : ℕ) → set_d (set_d (λ j. (rec_at w.table j).dirty) i) j k ≡ (rec_at (with_file (with_file w.table i (dirtied (rec_at w.table j))) j (dirtied (rec_at w.table i))) k).dirty
          marks k =
              ap (λ (x : Bool). pick (ℕ_discrete k j) true x) (with_marks w.table i (dirtied (rec_at w.table j)) l₁ (dirtied_mark (rec_at w.table j)) k)
              ∙ with_marks (with_file w.table i (dirtied (rec_at w.table j))) j (dirtied (rec_at w.table i)) l₂ (dirtied_mark (rec_at w.table i)) k

  -- ---- RECORD END

  ended_writer : (x : StateWriter.Writer) → as_writer (record_ended x) ≡ as_writer x
  unfolding record_ended as_writer
  ended_writer x = by x.active refl
    where
      by : (t : Bool) → x.active ≡ t → writer_by (record_ended x) t ≡ writer_by x t
      by false e = refl
      by true e = by' (eqb x.page none)
        where
          by' : (t : Bool) → staged_by (record_ended x) t ≡ staged_by x t
          by' true = refl
          by' false = refl

  ended_seq : (x : StateWriter.Writer) → (staged_header (record_ended x)).seq ≡ (staged_header x).seq
  unfolding staged_header record_ended
  ended_seq x = refl

  ended_links : (x : StateWriter.Writer) → (staged_header (record_ended x)).skiplist ≡ (staged_header x).skiplist
  unfolding staged_header staged_links record_ended
  ended_links x = refl

  staged_long : (x : StateWriter.Writer) → w.state.writer ≡ x → x.active ≡ true → is_staged x ≡ true → x.length < 65536
  staged_long x z e h = go (as_writer x) (writer_staged x e (eqb-false x.page none (not-true (eqb x.page none) h))) (subst (λ (y : StateWriter.Writer). WriterOk (view w.image) b.pc (now_of w.table w.state own).tab own (as_writer y)) z g.inv.wr_ok)
    where
      go : (y : Writer) → y ≡ staging x.file (link_of x.previous) x.seq x.page x.length (link_of x.copied) x.stored → WriterOk (view w.image) b.pc (now_of w.table w.state own).tab own y → x.length < 65536
      go shut q k = clash cc
      go (ready i) q k = clash cc
      go (staging i a c d n f t) q k = let z : n ≡ x.length = cc in omega (arith, k.long)

  pub record_end_keeps : Keeps D N w (record_end w)
  unfolding record_end with_writer record_ended
  record_end_keeps =
      checked_by (Keeps D N w) w false 0 _ _ (λ why. known)
      (λ h. cond_by (Keeps D N w) w.state.writer.active _ _ (λ e. ended_keeps e) (λ e. known))
    where
      ended_keeps : w.state.writer.active ≡ true → Keeps D N w (record { answer = fine; stores = []; map = w.map; table = w.table; state = with_writer w.state (record_ended w.state.writer) })
      ended_keeps e =
          let s = g.sees in
          let x = w.state.writer in
          record {
            base = b;
            own = own;
            good =
                record {
                  sees =
                      sees_on s _ _ (refl, refl, refl) (refl, refl, refl, refl, refl, refl) s.bytes s.cursor s.search s.owners s.eight
                      s.recs
                      (λ on. record {
                        boundary = named (is_staged x) refl (eqb x.boundary none);
                        size = (s.wr e).size;
                        bytes = (s.wr e).bytes;
                        stands = (s.wr e).stands;
                        waits = λ z. let q = (s.wr e).waits z in record { seq = q.seq; previous = q.previous; copied = q.copied; stored = q.stored; length = q.length };
                      });
                  inv = inv_is (now_is (λ i. refl) (λ y. refl) (λ i. refl) refl (sym (ended_writer x))) g.inv;
                  rules = λ d. let r = g.rules d in record {
                    now = r.now;
                    base = r.base;
                    wr = λ on. record { full = (r.wr e).full; chain = λ n. reaches_copy (staged_page (record_ended x)) (ended_seq x) (ended_links x) ((r.wr e).chain n) };
                  };
                };
          }
        where
          named : (t : Bool) → is_staged w.state.writer ≡ t → (u : Bool) → cond (t && u) w.state.writer.length w.state.writer.boundary < 65536
          named true k true = staged_long w.state.writer refl e k
          named true k false = (g.sees.wr e).boundary
          named false k u = (g.sees.wr e).boundary
