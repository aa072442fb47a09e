-- Records as files, and a world's table. Assumes nothing.
use Rattle.seq.specs.Ids.{none}
use Rattle.owners.specs.Store as st
use Prim.Native.Nat.{ℕ, zero, suc, ◌+◌, ◌≤◌, ◌<◌}
use mathlib.Core.Path.{◌≡◌, refl, sym, ap, ap₂, subst, ◌∙◌, fun_ext}
use mathlib.Core.Bool.{Bool, true, false}
use mathlib.Core.List.{List, [], ◌∷◌}
use native.Mathlib.Omega.{arith}
use native.Mathlib.Decide.{ℕ_discrete}
use lib.ListN.{length, get_or, length-set}
use lib.Seq.{get_or-set_same, get_or-set_other}
use lib.Dec.{eqb}
use borrow.Author.Tests.{eq-eqb, ne_eqb, eqb-true, eqb-false}
use Rattle.page.specs.declared.DataHeader.{DataHeader}
use Rattle.state.specs.declared.types.FileRecord.{FileRecord}
use Rattle.state.specs.declared.types.Table.{Table}
use Rattle.agree.specs.Good.{RecordOk}
use Rattle.agree.specs.View.{view, as_file, rec_at}
use Rattle.agree.proofs.Pages.{clash, view_data}
use Rattle.owners.specs.Moves.{set_f, set_d}
use Rattle.owners.specs.State.{link_of, Base, Writer, Now, Inv}
use Rattle.owners.specs.Store.{nil, to, Store, pick, File, gone, live, Owner, file, Mem, FileOk, FileAt}
use Rattle.owners.proofs.Walks.{walk_head}
use Rattle.page.specs.Page.{readable}
use Rattle.state.specs.Values.{empty_record, absent, file_at, with_file}
use Rattle.chain.specs.Steps.{read_at}

-- ---- a link and a record

pub link_none : (p : ℕ) → p ≡ none → link_of p ≡ nil
unfolding link_of
link_none p h = rw (eq-eqb p none h)

pub link_some : (p : ℕ) → (p ≡ none → ⊥) → link_of p ≡ to p
unfolding link_of
link_some p h = rw (ne_eqb p none h)

pub link_by {ℓ} : {X : Type ℓ} (p : ℕ) → (p ≡ none → link_of p ≡ nil → X) → ((p ≡ none → ⊥) → link_of p ≡ to p → X) → X
link_by {X = X} p f g = go (eqb p none) refl
  where
    go : (t : Bool) → eqb p none ≡ t → X
    go true e = let h = eqb-true p none e in f h (link_none p h)
    go false e = let h = eqb-false p none e in g h (link_some p h)

pub file_gone : (r : FileRecord) → r.last_page ≡ none → as_file r ≡ gone
unfolding as_file
file_gone r h = rw (eq-eqb r.last_page none h)

pub file_live : (r : FileRecord) → (r.last_page ≡ none → ⊥) → as_file r ≡ live r.last_page r.first_seq r.last_seq r.flags
unfolding as_file
file_live r h = rw (ne_eqb r.last_page none h)

pub file_by {ℓ} : {X : Type ℓ} (r : FileRecord) → (r.last_page ≡ none → as_file r ≡ gone → X)
    → ((r.last_page ≡ none → ⊥) → as_file r ≡ live r.last_page r.first_seq r.last_seq r.flags → X) → X
file_by {X = X} r f g = go (eqb r.last_page none) refl
  where
    go : (t : Bool) → eqb r.last_page none ≡ t → X
    go true e = let h = eqb-true r.last_page none e in f h (file_gone r h)
    go false e = let h = eqb-false r.last_page none e in g h (file_live r h)

pub empty_gone : as_file empty_record ≡ gone
unfolding empty_record
empty_gone = file_gone empty_record refl

pub empty_ok : (img : List ℕ) → RecordOk img empty_record
unfolding empty_record
empty_ok img = record { empty = λ z. record { header = refl; first = refl; last = refl; flags = refl }; stands = λ n. absurd (n refl); byte = omega arith }

-- ---- the table

-- within, what is read past the end does not matter
pub rec_at_lem : (l : List FileRecord) (i : ℕ) (d e : FileRecord) → i < length l → get_or l i d ≡ get_or l i e
rec_at_lem [] i d e h = absurd (omega arith)
rec_at_lem (x ∷ l) zero d e h = refl
rec_at_lem (x ∷ l) (suc i) d e h = rec_at_lem l i d e (omega arith)

pub file_at_lem : (t : Table) (i : ℕ) → i < length t.files → file_at t i ≡ rec_at t i
file_at_lem t i h = rec_at_lem t.files i absent empty_record h

-- one record set
module _ (t : Table) (i : ℕ) (f : FileRecord) (h : i < length t.files) where
  pub with_at : rec_at (with_file t i f) i ≡ f
  unfolding with_file
  with_at = get_or-set_same t.files i f empty_record h

  pub with_off : (j : ℕ) → ¬ (j ≡ i) → rec_at (with_file t i f) j ≡ rec_at t j
  unfolding with_file
  with_off j n = get_or-set_other t.files i j f empty_record n

  pub with_eight : length (with_file t i f).files ≡ length t.files
  unfolding with_file
  with_eight = length-set t.files i f

  -- as files, as marks, and any property of records
  pub with_files : (g : File) → as_file f ≡ g → (j : ℕ) → set_f (λ j. as_file (rec_at t j)) i g j ≡ as_file (rec_at (with_file t i f) j)
  with_files g e j = go (ℕ_discrete j i)
    where
      go : (d : Dec (j ≡ i)) → pick d g (as_file (rec_at t j)) ≡ as_file (rec_at (with_file t i f) j)
      go (yes z) = sym (ap as_file (ap (rec_at (with_file t i f)) z ∙ with_at) ∙ e)
      go (no n) = ap as_file (sym (with_off j n))

  pub with_marks : f.dirty ≡ true → (j : ℕ) → set_d (λ j. (rec_at t j).dirty) i j ≡ (rec_at (with_file t i f) j).dirty
  with_marks e j = go (ℕ_discrete j i)
    where
      go : (d : Dec (j ≡ i)) → pick d true (rec_at t j).dirty ≡ (rec_at (with_file t i f) j).dirty
      go (yes z) = sym (ap (λ (r : FileRecord). r.dirty) (ap (rec_at (with_file t i f)) z ∙ with_at) ∙ e)
      go (no n) = ap (λ (r : FileRecord). r.dirty) (sym (with_off j n))

  pub with_each : (P : FileRecord → Type 0) → P f → ((j : ℕ) → ¬ (j ≡ i) → P (rec_at t j)) → (j : ℕ) → P (rec_at (with_file t i f) j)
  with_each P a g j = go (ℕ_discrete j i)
    where
      go : Dec (j ≡ i) → P (rec_at (with_file t i f) j)
      go (yes z) = subst P (sym (ap (rec_at (with_file t i f)) z ∙ with_at)) a
      go (no n) = subst P (sym (with_off j n)) (g j n)

-- ---- a file stands on its last page

pub last_mine : {s : Store} {pc : ℕ} {f : File} {own : ℕ → Owner} {i p a e g : ℕ} → FileAt s pc f own i → f ≡ live p a e g → own p ≡ file i
last_mine {s} {pc} {own = own} {i = i} {p = p} h z = go h.ok h.mine z
  where
    go : {f : File} {l : List ℕ} {a e g : ℕ} → FileOk s pc f l → ((x : ℕ) → Mem x l → own x ≡ file i) → f ≡ live p a e g → own p ≡ file i
    go st.empty m z = clash cc
    go (st.full {p = p'} a b c d e w) m z = let y : p' ≡ p = cc in rw y at (m p' (walk_head w))

-- and its numbers are in range
pub record Ranges (pc : ℕ) (r : FileRecord) : Type 0 where
  pub inside : r.last_page < pc
  pub some : r.first_seq < r.last_seq
  pub limit : r.last_seq ≤ 4294967294

pub file_ranges : {s : Store} {pc : ℕ} {l : List ℕ} {f : File} (r : FileRecord) → f ≡ live r.last_page r.first_seq r.last_seq r.flags → FileOk s pc f l → Ranges pc r
file_ranges r e st.empty = clash cc
file_ranges r e (st.full {p = p} {first = a} {q = q} {n = n} u v w x y z) =
    let z₁ : p ≡ r.last_page = cc in
    let z₂ : a ≡ r.first_seq = cc in
    let z₃ : q + n ≡ r.last_seq = cc in
    record { inside = omega arith; some = omega arith; limit = omega arith }

-- the last page's numbers end where the file does
pub file_end : (img : List ℕ) {pc : ℕ} {l : List ℕ} {f : File} (r : FileRecord) → f ≡ live r.last_page r.first_seq r.last_seq r.flags → FileOk (view img) pc f l → read_at img r.last_page ≡ readable r.header → r.header.seq + r.header.length ≡ r.last_seq
file_end img r e st.empty s = clash cc
file_end img r e (st.full {p = p} {q = q} {n = n} {x = x} {k = k} u v w c y z) s =
    let z₁ : p ≡ r.last_page = cc in
    let z₃ : q + n ≡ r.last_seq = cc in
    let d = view_data img p v in
    let t : readable d.header ≡ readable r.header = sym d.reads ∙ ap (read_at img) z₁ ∙ s in
    let h : d.header ≡ r.header = cc in
    ap₂ (λ (a c : ℕ). a + c) (ap (λ (y : DataHeader). y.seq) (sym h) ∙ d.seq) (ap (λ (y : DataHeader). y.length) (sym h) ∙ d.long) ∙ z₃

-- ---- states that are the same

pub now_is : {c c' : Now} → ((i : ℕ) → c.tab i ≡ c'.tab i) → ((x : ℕ) → c.own x ≡ c'.own x) → ((i : ℕ) → c.dirty i ≡ c'.dirty i) → c.tx ≡ c'.tx → c.wr ≡ c'.wr → c ≡ c'
now_is {c} {c'} a o d t w =
    ap (λ (x : ℕ → File). record { tab = x; own = c.own; dirty = c.dirty; tx = c.tx; wr = c.wr }) (fun_ext a)
    ∙ ap (λ (x : ℕ → Owner). record { tab = c'.tab; own = x; dirty = c.dirty; tx = c.tx; wr = c.wr }) (fun_ext o)
    ∙ ap (λ (x : ℕ → Bool). record { tab = c'.tab; own = c'.own; dirty = x; tx = c.tx; wr = c.wr }) (fun_ext d)
    ∙ ap (λ (x : Bool). record { tab = c'.tab; own = c'.own; dirty = c'.dirty; tx = x; wr = c.wr }) t
    ∙ ap (λ (x : Writer). record { tab = c'.tab; own = c'.own; dirty = c'.dirty; tx = c'.tx; wr = x }) w

pub inv_is : {N : ℕ} {s : Store} {b : Base} {c c' : Now} → c ≡ c' → Inv N s b c → Inv N s b c'
inv_is {N} {s} {b} e v = subst (λ (c : Now). Inv N s b c) e v
