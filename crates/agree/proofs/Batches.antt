-- What the log of a metadata page says of each file after a batch, and what the table says. Assumes nothing.
use Rattle.seq.specs.Ids as ids
use Rattle.metalog.specs.Log.{adds, add, put, put_in, no_files, sound}
use Rattle.metalog.specs.Batch.{entry_for, chosen_from, chosen, marked_from}
use Rattle.metalog.proofs.Table.{Typed}
use Rattle.transact.specs.Commit.{files_of}
use Rattle.owners.specs.State.{none}
use Prim.Native.Nat.{ℕ, zero, suc, ◌+◌, ◌≤◌, ◌<◌}
use mathlib.Core.Path.{◌≡◌, refl, sym, ap, ap₂, subst, ◌∙◌}
use mathlib.Core.Bool.{Bool, true, false, cond, not}
use mathlib.Core.Logic.{◌⊎◌, inl, inr}
use mathlib.Core.List.{List, [], ◌∷◌, ◌++◌, map}
use native.Mathlib.Omega.{arith}
use native.Mathlib.Decide.{ℕ_discrete, dec_lt}
use lib.ListN.{length, get_or, length-set, length-map, get_or-eq_default, get_or-replicate}
use lib.Seq.{get_or-set_same, get_or-set_other}
use lib.Dec.{ltb, eqb}
use borrow.Author.Tests.{eq-eqb, lt-ltb, eqb-true, eqb-false}
use Rattle.metalog.specs.declared.Entry.{Entry}
use Rattle.metalog.specs.declared.Files.{Files}
use Rattle.metalog.specs.Log.{Replay}
use Rattle.state.specs.declared.types.FileRecord.{FileRecord}
use Rattle.state.specs.declared.types.Table.{Table}
use Rattle.agree.specs.View.{as_file, rec_at}
use Rattle.agree.proofs.Keeps.{cond_by}
use Rattle.agree.proofs.Pages.{clash}
use Rattle.agree.proofs.Records.{link_none, link_some, file_by}
use Rattle.owners.specs.State.{link_of, val_l, val_in, val_of}
use Rattle.owners.specs.Store.{Link}
use Rattle.owners.proofs.Finding.{case}
use Rattle.state.specs.Values.{empty_record, is_empty}

-- ---- entries of a batch

-- three lists of eight
pub record Eight (f : Files) : Type 0 where
  pub last : length f.last ≡ 8
  pub first : length f.first ≡ 8
  pub flags : length f.flags ≡ 8

put_eight : (f : Files) (e : Entry) → Eight f → Eight (put f e)
unfolding put
put_eight f e h = cond_by Eight (ltb e.file 8) (put_in f e) f
    (λ t. record {
      last = length-set f.last e.file e.last ∙ h.last;
      first = length-set f.first e.file e.first ∙ h.first;
      flags = length-set f.flags e.file e.flags ∙ h.flags;
    }) (λ t. h)

-- the entry of file i of t says what t says, and nothing of other files
put_at : (f t : Files) (i : ℕ) → Eight f → i < 8 → val_in (put f (entry_for t i)) i ≡ val_in t i
unfolding put
put_at f t i h k =
    let a = get_or-set_same f.last i (get_or t.last i 0) 0 (omega (arith, h.last)) in
    let b = get_or-set_same f.first i (get_or t.first i 0) 0 (omega (arith, h.first)) in
    let c = get_or-set_same f.flags i (get_or t.flags i 0) 0 (omega (arith, h.flags)) in
    rw (lt-ltb i 8 k, a, b, c)

put_off : (f t : Files) (i j : ℕ) → (j ≡ i → ⊥) → i < 8 → val_in (put f (entry_for t i)) j ≡ val_in f j
unfolding put
put_off f t i j n k =
    let a = get_or-set_other f.last i j (get_or t.last i 0) 0 n in
    let b = get_or-set_other f.first i j (get_or t.first i 0) 0 n in
    let c = get_or-set_other f.flags i j (get_or t.flags i 0) 0 n in
    rw (lt-ltb i 8 k, a, b, c)

module _ (count : ℕ) (t : Files) (marks : List Bool) where
  -- a file before i, or not marked
  batch_off : (j i n : ℕ) (r : Replay) → i + n ≤ 8 → (j < i) ⊎ (get_or marks j false ≡ false) → val_in (adds count r (chosen_from t marks i n)).files j ≡ val_in r.files j
  batch_off j i zero r h o = refl
  batch_off j i (suc n) r h o = by (get_or marks i false) refl (λ (r : Replay). batch_off j (suc i) n r (omega arith) (case o (λ a. inl (omega arith)) (λ a. inr a)))
    where
      by : (c : Bool) → get_or marks i false ≡ c → ((r : Replay) → val_in (adds count r (chosen_from t marks (suc i) n)).files j ≡ val_in r.files j)
          → val_in (adds count r (cond c (entry_for t i ∷ []) [] ++ chosen_from t marks (suc i) n)).files j ≡ val_in r.files j
      by false e ih = ih r
      by true e ih = ih (add count r (entry_for t i)) ∙ put_off r.files t i j (λ z. case o (λ a. omega arith) (λ a. clash (cc))) (omega arith)

  -- a marked one
  batch_in : (j i n : ℕ) (r : Replay) → Eight r.files → i + n ≤ 8 → i ≤ j → j < i + n → get_or marks j false ≡ true → val_in (adds count r (chosen_from t marks i n)).files j ≡ val_in t j
  batch_in j i zero r e8 h a b m = absurd (omega arith)
  batch_in j i (suc n) r e8 h a b m =
      by (get_or marks i false) refl (ℕ_discrete j i) (λ (r : Replay) (k : Eight r.files) (q : suc i ≤ j). batch_in j (suc i) n r k (omega arith) q (omega arith) m)
    where
      by : (c : Bool) → get_or marks i false ≡ c → Dec (j ≡ i) → ((r : Replay) → Eight r.files → suc i ≤ j → val_in (adds count r (chosen_from t marks (suc i) n)).files j ≡ val_in t j)
          → val_in (adds count r (cond c (entry_for t i ∷ []) [] ++ chosen_from t marks (suc i) n)).files j ≡ val_in t j
      by c e (no k) ih = off c
        where
          off : (c : Bool) → val_in (adds count r (cond c (entry_for t i ∷ []) [] ++ chosen_from t marks (suc i) n)).files j ≡ val_in t j
          off false = ih r e8 (omega arith)
          off true = ih (add count r (entry_for t i)) (put_eight r.files (entry_for t i) e8) (omega arith)
      by false e (yes z) ih = clash (cc)
      by true e (yes z) ih =
          batch_off j (suc i) n (add count r (entry_for t i)) (omega arith) (inl (omega arith))
          ∙ subst (λ (k : ℕ). val_in (put r.files (entry_for t i)) k ≡ val_in t k) (sym z) (put_at r.files t i e8 (omega arith))

  pub chosen_off : (r : Replay) (j : ℕ) → get_or marks j false ≡ false → val_in (adds count r (chosen t marks)).files j ≡ val_in r.files j
  unfolding chosen
  chosen_off r j e = batch_off j 0 8 r (omega arith) (inr e)

  pub chosen_in : (r : Replay) (j : ℕ) → Eight r.files → j < 8 → get_or marks j false ≡ true → val_in (adds count r (chosen t marks)).files j ≡ val_in t j
  unfolding chosen
  chosen_in r j h k e = batch_in j 0 8 r h (omega arith) (omega arith) (omega arith) e

-- none marked
pub none_marked : (marks : List Bool) (i n : ℕ) → marked_from marks i n ≡ 0 → (j : ℕ) → i ≤ j → j < i + n → get_or marks j false ≡ false
none_marked marks i zero e j a b = absurd (omega arith)
none_marked marks i (suc n) e j a b = by (get_or marks i false) refl e (ℕ_discrete j i) (λ z k. none_marked marks (suc i) n z j k (omega arith))
  where
    by : (c : Bool) → get_or marks i false ≡ c → cond c 1 0 + marked_from marks (suc i) n ≡ 0 → Dec (j ≡ i) → (marked_from marks (suc i) n ≡ 0 → suc i ≤ j → get_or marks j false ≡ false) → get_or marks j false ≡ false
    by true m e d ih = absurd (omega arith)
    by false m e (yes z) ih = ap (λ (k : ℕ). get_or marks k false) z ∙ m
    by false m e (no k) ih = ih (omega arith) (omega arith)

-- ---- the table's entries

map_at : {A : Type 0} (f : FileRecord → A) (l : List FileRecord) (i : ℕ) (d : A) (e : FileRecord) → i < length l → get_or (map f l) i d ≡ f (get_or l i e)
map_at f [] i d e h = absurd (omega arith)
map_at f (x ∷ l) zero d e h = refl
map_at f (x ∷ l) (suc i) d e h = map_at f l i d e (omega arith)

module _ (t : Table) (eight : length t.files ≡ 8) (i : ℕ) (h : i < 8) where
  in_files : i < length t.files
  in_files = omega arith

  pub table_val : val_in (files_of t) i ≡ val_of (as_file (rec_at t i))
  table_val =
      let r = rec_at t i in
      let a = map_at (λ (f : FileRecord). f.last_page) t.files i 0 empty_record in_files in
      let b = map_at (λ (f : FileRecord). f.first_seq) t.files i 0 empty_record in_files in
      let c = map_at (λ (f : FileRecord). f.flags) t.files i 0 empty_record in_files in
      ap (λ (k : ℕ). val_l (link_of k) (get_or (files_of t).first i 0) (get_or (files_of t).flags i 0)) a
      ∙ ap₂ (λ (k j : ℕ). val_l (link_of r.last_page) k j) b c
      ∙ file_by r (λ z e. ap (λ (k : Link). val_l k r.first_seq r.flags) (link_none r.last_page z) ∙ sym (ap val_of e))
      (λ z e. ap (λ (k : Link). val_l k r.first_seq r.flags) (link_some r.last_page z) ∙ sym (ap val_of e))

  pub dirty_mark : get_or (map (λ (f : FileRecord). f.dirty) t.files) i false ≡ (rec_at t i).dirty
  dirty_mark = map_at (λ (f : FileRecord). f.dirty) t.files i false empty_record in_files

  pub live_mark : get_or (map (λ (f : FileRecord). not (is_empty f)) t.files) i false ≡ not (is_empty (rec_at t i))
  live_mark = map_at (λ (f : FileRecord). not (is_empty f)) t.files i false empty_record in_files

-- past the end a map gives what was asked
map_past : {A : Type 0} (f : FileRecord → A) (l : List FileRecord) (i : ℕ) (d : A) → length l ≤ i → get_or (map f l) i d ≡ d
map_past f l i d h = get_or-eq_default (map f l) d (rw (length-map l f) h)

map_below : (f : FileRecord → ℕ) (l : List FileRecord) (top : ℕ) → 0 < top → ((i : ℕ) → f (get_or l i empty_record) < top) → (i : ℕ) → get_or (map f l) i 0 < top
map_below f l top h g i = by (dec_lt i (length l))
  where
    by : Dec (i < length l) → get_or (map f l) i 0 < top
    by (yes k) = rw (map_at f l i 0 empty_record k) (g i)
    by (no k) = rw (map_past f l i 0 (omega arith)) h

-- an entry of the table is one that mount takes
pub record EntryOk (count : ℕ) (r : FileRecord) : Type 0 where
  pub empty : r.last_page ≡ ids.none → r.first_seq ≡ 0
  pub below : (r.last_page ≡ ids.none → ⊥) → r.last_page < count
  pub last : r.last_page < 65536
  pub first : r.first_seq < 4294967296
  pub flags : r.flags < 256

pub table_typed : (count : ℕ) (t : Table) → length t.files ≡ 8 → ((i : ℕ) → EntryOk count (rec_at t i)) → Typed (files_of t)
table_typed count t e k =
    record {
      lasts = length-map t.files (λ (f : FileRecord). f.last_page) ∙ e;
      firsts = length-map t.files (λ (f : FileRecord). f.first_seq) ∙ e;
      marks = length-map t.files (λ (f : FileRecord). f.flags) ∙ e;
      last = map_below (λ (f : FileRecord). f.last_page) t.files 65536 (omega arith) (λ i. (k i).last);
      first = map_below (λ (f : FileRecord). f.first_seq) t.files 4294967296 (omega arith) (λ i. (k i).first);
      flags = map_below (λ (f : FileRecord). f.flags) t.files 256 (omega arith) (λ i. (k i).flags);
    }

pub table_sound : (count : ℕ) (t : Table) → length t.files ≡ 8 → ((i : ℕ) → EntryOk count (rec_at t i)) → (i : ℕ) → i < 8 → sound count (entry_for (files_of t) i) ≡ true
unfolding sound
table_sound count t e k i h =
    let l : i < length t.files = omega arith in
    let r = rec_at t i in
    let a = map_at (λ (f : FileRecord). f.last_page) t.files i 0 empty_record l in
    let b = map_at (λ (f : FileRecord). f.first_seq) t.files i 0 empty_record l in
    rw (lt-ltb i 8 h) (ap₂ (λ (x y : ℕ). cond (eqb x 65535) (eqb y 0) (ltb x count)) a b ∙ by (eqb r.last_page 65535) refl)
  where
    by : (c : Bool) → eqb (rec_at t i).last_page 65535 ≡ c → cond c (eqb (rec_at t i).first_seq 0) (ltb (rec_at t i).last_page count) ≡ true
    by true z = eq-eqb (rec_at t i).first_seq 0 ((k i).empty (eqb-true (rec_at t i).last_page 65535 z))
    by false z = lt-ltb (rec_at t i).last_page count ((k i).below (eqb-false (rec_at t i).last_page 65535 z))

pub none_eight : Eight no_files
none_eight = record { last = refl; first = refl; flags = refl }

pub none_val : (i : ℕ) → i < 8 → val_in no_files i ≡ none
none_val i h = ap (λ (k : ℕ). val_l (link_of k) (get_or no_files.first i 0) (get_or no_files.flags i 0)) (get_or-replicate {A = ℕ} 8 i 65535 0 h) ∙ ap (λ (k : Link). val_l k (get_or no_files.first i 0) (get_or no_files.flags i 0)) (link_none 65535 refl)
