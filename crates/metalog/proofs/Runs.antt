-- The marked files: their entries, how many they are, and their bytes in id order.
-- Assumes nothing.
use Prim.Native.Nat.{ℕ, zero, suc, ◌+◌, ◌-◌, ◌*◌, ◌/◌, ◌≤◌, ◌<◌}
use mathlib.Core.Path.{◌≡◌, refl, sym, ap, ◌∙◌}
use mathlib.Core.List.{List, [], ◌∷◌, ◌++◌, append-nil, append_assoc}
use mathlib.Core.Bool.{Bool, true, false, cond}
use native.Mathlib.Omega.{arith}
use native.Mathlib.Numerals.{add-one}
use native.Mathlib.Nat.{zero-add}
use lib.ListN.{length, get_or, length-append}
use Rattle.std.specs.List.{count_by}
use Rattle.std.proofs.lemmas.List.Recursion.{is_count_by}
use Rattle.page.specs.Store.{program, stored, ran}
use Rattle.page.proofs.Laws.{stored_past}
use Rattle.metalog.proofs.Append.{length_entries}
use Rattle.metalog.specs.declared.Entry.{Entry}
use Rattle.metalog.specs.declared.Files.{Files}
use Rattle.metalog.specs.Batch.{entry_bytes, entries_bytes, pair_bytes, entry_for, chosen_from, chosen, marked_from, marked, batch_stores}

-- as many entries as marks
pub length_chosen : (f : Files) (marks : List Bool) → length (chosen f marks) ≡ marked marks
unfolding marked chosen
length_chosen f marks = go 0 8
  where
    go : (i n : ℕ) → length (chosen_from f marks i n) ≡ marked_from marks i n
    go i zero = refl
    go i (suc n) = by (get_or marks i false) (go (suc i) n)
      where
        by : (b : Bool) → length (chosen_from f marks (suc i) n) ≡ marked_from marks (suc i) n
            → length (cond b (entry_for f i ∷ []) [] ++ chosen_from f marks (suc i) n) ≡ cond b 1 0 + marked_from marks (suc i) n
        by true h = omega arith
        by false h = omega arith

marked_few : (marks : List Bool) (i n : ℕ) → marked_from marks i n ≤ n
marked_few marks i zero = omega arith
marked_few marks i (suc n) = by (get_or marks i false) (marked_few marks (suc i) n)
  where
    by : (b : Bool) → marked_from marks (suc i) n ≤ n → cond b 1 0 + marked_from marks (suc i) n ≤ suc n
    by true h = omega arith
    by false h = omega arith

-- at most eight
pub marked_le : (marks : List Bool) → marked marks ≤ 8
unfolding marked
marked_le marks = marked_few marks 0 8

-- so are the entries
pub chosen_few : (f : Files) (marks : List Bool) → length (chosen f marks) ≤ 8
chosen_few f marks = rw (length_chosen f marks) (marked_le marks)

-- with no mark no store
pub batch_none : (p e : ℕ) (f : Files) (marks : List Bool) → marked marks ≡ 0 → batch_stores p e (chosen f marks) ≡ []
unfolding batch_stores
batch_none p e f marks h = by (chosen f marks) (length_chosen f marks ∙ h)
  where
    by : (es : List Entry) → length es ≡ 0 → batch_stores p e es ≡ []
    by [] k = refl
    by (x ∷ es) k = absurd (omega arith)

-- so many are marked
pub marked_count : (marks : List Bool) → length marks ≡ 8 → marked marks ≡ count_by (λ b. b) marks
unfolding marked
marked_count marks h = ap (marked_from marks 0) (sym h) ∙ all marks
  where
    behind : (x : Bool) (bs : List Bool) (i n : ℕ) → marked_from (x ∷ bs) (suc i) n ≡ marked_from bs i n
    behind x bs i zero = refl
    behind x bs i (suc n) = ap (λ (k : ℕ). cond (get_or bs i false) 1 0 + k) (behind x bs (suc i) n)

    step : (x : Bool) (bs : List Bool) → marked_from (x ∷ bs) 0 (length (x ∷ bs)) ≡ cond x (1 + marked_from bs 0 (length bs)) (marked_from bs 0 (length bs))
    step true bs = ap (λ (k : ℕ). 1 + k) (behind true bs 0 (length bs))
    step false bs = zero-add (marked_from (false ∷ bs) 1 (length bs)) ∙ behind false bs 0 (length bs)

    all : (bs : List Bool) → marked_from bs 0 (length bs) ≡ count_by (λ b. b) bs
    all bs = is_count_by (λ l. marked_from l 0 (length l)) (λ b. b) refl step bs

-- ---- the stores of a batch, by its bytes

-- no bytes are no store
pub stores_none : (p e : ℕ) (es : List Entry) → length (entries_bytes es) ≡ 0 → batch_stores p e es ≡ []
unfolding batch_stores
stores_none p e [] h = refl
stores_none p e (x ∷ es) h = absurd (omega arith)

-- others are stored before their count pair
pub stores_some : (img : List ℕ) (p e : ℕ) (es : List Entry) → 0 < length (entries_bytes es)
    → ran img (batch_stores p e es)
    ≡ stored (stored img (program p (12 + (e + 4)) (entries_bytes es))) (program p (12 + e) (pair_bytes (length (entries_bytes es) / 8)))
unfolding batch_stores
stores_some img p e [] h = absurd (omega arith)
stores_some img p e (x ∷ es) h =
    let k = length_entries (x ∷ es) in
    let n : length (entries_bytes (x ∷ es)) / 8 ≡ length (x ∷ es) = omega arith in
    ap (λ (m : ℕ). stored (stored img (program p (12 + (e + 4)) (entries_bytes (x ∷ es)))) (program p (12 + e) (pair_bytes m))) (sym n)

-- and nothing changes past the page
pub stores_past : (img : List ℕ) (p e : ℕ) (es : List Entry) → 256 < e → ran img (batch_stores p e es) ≡ img
unfolding batch_stores
stores_past img p e [] h = refl
stores_past img p e (x ∷ es) h =
    stored_past (stored img (program p (12 + (e + 4)) (entries_bytes (x ∷ es)))) (program p (12 + e) (pair_bytes (length (x ∷ es)))) (omega arith)
    ∙ stored_past img (program p (12 + (e + 4)) (entries_bytes (x ∷ es))) (omega arith)

-- ---- a turn at a time

chosen_more : (f : Files) (marks : List Bool) (i : ℕ) → i < 8
    → chosen_from f marks i (8 - i) ≡ cond (get_or marks i false) (entry_for f i ∷ []) [] ++ chosen_from f marks (i + 1) (8 - (i + 1))
chosen_more f marks i h =
    let e : 8 - i ≡ suc (8 - (i + 1)) = omega arith in
    rw (e, add-one)

-- l has the entries of the marked files below i
pub record Below (f : Files) (marks : List Bool) (i : ℕ) (l : List ℕ) : Type 0 where
  pub few : length l ≤ 8 * i
  pub is : l ++ entries_bytes (chosen_from f marks i (8 - i)) ≡ entries_bytes (chosen f marks)

pub below_none : (f : Files) (marks : List Bool) → Below f marks 0 []
unfolding chosen
below_none f marks = record { few = omega arith; is = refl }

module _ {f : Files} {marks : List Bool} {i : ℕ} {l : List ℕ} (b : Below f marks i l) (h : i < 8) where
  below_is : {c : Bool} → get_or marks i false ≡ c
      → l ++ entries_bytes (cond c (entry_for f i ∷ []) [] ++ chosen_from f marks (i + 1) (8 - (i + 1))) ≡ entries_bytes (chosen f marks)
  below_is {c} q =
      ap (λ (d : Bool). l ++ entries_bytes (cond d (entry_for f i ∷ []) [] ++ chosen_from f marks (i + 1) (8 - (i + 1)))) (sym q)
      ∙ ap (λ (es : List Entry). l ++ entries_bytes es) (sym (chosen_more f marks i h))
      ∙ b.is

  pub below_more : get_or marks i false ≡ true → Below f marks (i + 1) (l ++ entry_bytes (entry_for f i))
  below_more q =
      record {
        few = simp length-append (omega (arith, b.few));
        is = append_assoc l (entry_bytes (entry_for f i)) (entries_bytes (chosen_from f marks (i + 1) (8 - (i + 1)))) ∙ below_is q;
      }

  pub below_same : get_or marks i false ≡ false → Below f marks (i + 1) l
  below_same q = record { few = omega (arith, b.few); is = below_is q }

-- all of them
pub below_all : {f : Files} {marks : List Bool} {l : List ℕ} → Below f marks 8 l → l ≡ entries_bytes (chosen f marks)
below_all {f} {marks} {l} b = sym (append-nil l) ∙ b.is
