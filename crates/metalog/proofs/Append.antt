-- A batch that is appended: entries first, then the count pair. What the log says of its bytes up to its end does not depend on what
-- follows (`log_prefix`), so the log reads as before after the entries alone, and with the batch after it once the pair is there.
-- Assumes nothing.
use Prim.Native.Nat.{ℕ, zero, suc, ◌+◌, ◌-◌, ◌*◌, ◌≤◌, ◌<◌}
use mathlib.Core.Path.{◌≡◌, refl, sym, ap, ap₂, ◌∙◌}
use mathlib.Core.List.{List, [], ◌∷◌, ◌++◌, append-nil, append_assoc}
use native.Mathlib.Omega.{arith}
use native.Mathlib.Nat.{add_assoc, add-zero, zero-add}
use lib.ListN.{length, take, drop, replicate, length-append, length-drop, length-replicate}
use lib.Seq.{take-take, drop-drop, take_at, drop_at}
use lib.Dec.{ltb}
use borrow.Author.Tests.{eq-eqb, ne_eqb, le-ltb, le-leb}
use Rattle.runs.specs.Runs.{part, splice, le16, le32}
use Rattle.runs.proofs.Laws.{cond_same, drop_take, drop_splice_add, take_splice, length_splice, drop_replicate, val16, val32, le16_take}
use Rattle.metalog.specs.declared.Entry.{Entry}
use Rattle.metalog.specs.declared.Batch.{Batch}
use Rattle.metalog.specs.declared.Batch.TheVariants.{End, Entries, Bad}
use Rattle.metalog.specs.Log.{good_pair, batch_of, batch_at, entry_of, entries, Log, ended, damaged, after, log_of}
use Rattle.metalog.specs.Batch.{entries_bytes, pair_bytes, Fit}
use Rattle.metalog.proofs.Laws.{by_step, batch_room}

after_nil : (l : Log) → after [] 0 l ≡ l
after_nil (ended fs e) = ap (ended fs) (zero-add e)
after_nil damaged = refl

after_after : (es fs : List Entry) (k f : ℕ) (l : Log) → after es k (after fs f l) ≡ after (es ++ fs) (k + f) l
after_after es fs k f (ended gs g) = ap₂ ended (sym (append_assoc es fs gs)) (sym (add_assoc k f g))
after_after es fs k f damaged = refl

ended_not : {es : List Entry} {e : ℕ} → damaged ≡ ended es e → ⊥
ended_not h = let z : ◌≡◌ {A = ℕ} 0 1 = cc in omega arith

-- lists that agree on e elements agree on fewer
take_fewer : (j e : ℕ) (l l' : List ℕ) → j ≤ e → take e l' ≡ take e l → take j l' ≡ take j l
take_fewer j e l l' h q = sym (take-take j e l' h) ∙ ap (take j) q ∙ take-take j e l h

-- and so do their parts
part_fewer : (a n e : ℕ) (l l' : List ℕ) → a + n ≤ e → take e l' ≡ take e l → part l' a n ≡ part l a n
unfolding part
part_fewer a n e l l' h q = drop_take a n l' ∙ ap (drop a) (take_fewer (a + n) e l l' h q) ∙ sym (drop_take a n l)

-- and so do the batches that stand at their beginning
batch_same : (e : ℕ) (l l' : List ℕ) → 4 ≤ e → take e l' ≡ take e l → length l' ≡ length l → batch_at l' ≡ batch_at l
unfolding batch_at le32
batch_same e l l' h q n =
    let f : (at : ℕ) → at + 1 < e → le16 l' at ≡ le16 l at =
    λ at k. sym (le16_take e l' at k) ∙ ap (λ (x : List ℕ). le16 x at) q ∙ le16_take e l at k in
    rw (f 0 (omega arith), f 2 (omega arith), n)

-- what the log says of the bytes up to its end it says whatever follows them
abbrev Prefix : ℕ → Type 0
Prefix m =
    (bs bs' : List ℕ) (es : List Entry) (e : ℕ) → length bs ≤ m → log_of bs ≡ ended es e → length bs' ≡ length bs → take e bs' ≡ take e bs
    → log_of bs' ≡ after es e (log_of (drop e bs'))

module _ (bs bs' : List ℕ) (es : List Entry) (e : ℕ) (h : log_of bs ≡ ended es e) (hl : length bs' ≡ length bs) (ht : take e bs' ≡ take e bs) where
  prefix_more : (m : ℕ) → Prefix m → length bs ≤ suc m → (n : ℕ) → batch_at bs ≡ Entries n → (l : Log) → log_of (drop (4 + 8 * n) bs) ≡ l
      → log_of bs' ≡ after es e (log_of (drop e bs'))
  unfolding part
  prefix_more m ih hm n hb damaged q =
      absurd (ended_not (sym (by_step bs (Entries n) hb ∙ ap (after (entries n (part bs 4 (8 * n))) (4 + 8 * n)) q) ∙ h))
  prefix_more m ih hm n hb (ended fs f) q =
      let k = 4 + 8 * n in
      let r = batch_room bs n hb in
      let x : ended (entries n (part bs 4 (8 * n)) ++ fs) (k + f) ≡ ended es e =
      sym (by_step bs (Entries n) hb ∙ ap (after (entries n (part bs 4 (8 * n))) k) q) ∙ h in
      let pe : es ≡ entries n (part bs 4 (8 * n)) ++ fs = cc in
      let qe : e ≡ k + f = cc in
      let hb' : batch_at bs' ≡ Entries n = batch_same e bs bs' (omega arith) ht hl ∙ hb in
      let dl : length (drop k bs) ≤ m = simp length-drop (omega arith) in
      let dl' : length (drop k bs') ≡ length (drop k bs) = simp (length-drop, hl) in
      by_step bs' (Entries n) hb'
      ∙ ap₂ (λ (y : List ℕ) (l : Log). after (entries n y) k l) (part_fewer 4 (8 * n) e bs bs' (omega arith) ht)
      (ih (drop k bs) (drop k bs') fs f dl q dl' (part_fewer k f e bs bs' (omega arith) ht))
      ∙ after_after (entries n (part bs 4 (8 * n))) fs k f (log_of (drop f (drop k bs')))
      ∙ rw (pe, qe, drop-drop f k bs')

  prefix_by : ((n : ℕ) → batch_at bs ≡ Entries n → log_of bs' ≡ after es e (log_of (drop e bs'))) → (b : Batch) → batch_at bs ≡ b
      → log_of bs' ≡ after es e (log_of (drop e bs'))
  prefix_by f End hb =
      let x : ended [] 0 ≡ ended es e = sym (by_step bs End hb) ∙ h in
      let pe : es ≡ [] = cc in
      let qe : e ≡ 0 = cc in
      rw (pe, qe) (sym (after_nil (log_of bs')))
  prefix_by f Bad hb = absurd (ended_not (sym (by_step bs Bad hb) ∙ h))
  prefix_by f (Entries n) hb = f n hb

-- the log up to its end reads alike whatever follows
pub log_prefix : (m : ℕ) → Prefix m
log_prefix zero bs bs' es e hm h hl ht =
    prefix_by bs bs' es e h hl ht (λ n hb. let r = batch_room bs n hb in absurd (omega arith)) (batch_at bs) refl
log_prefix (suc m) bs bs' es e hm h hl ht =
    prefix_by bs bs' es e h hl ht (λ n hb. prefix_more bs bs' es e h hl ht m (log_prefix m) hm n hb (log_of (drop (4 + 8 * n) bs)) refl)
    (batch_at bs) refl

-- ---- what ends a log

-- four 0xFF bytes end a log
pub log_blank : (t : List ℕ) → log_of (255 ∷ 255 ∷ 255 ∷ 255 ∷ t) ≡ ended [] 0
unfolding batch_at batch_of le32 le16
log_blank t =
    by_step (255 ∷ 255 ∷ 255 ∷ 255 ∷ t) End (cond_same (ltb (length (255 ∷ 255 ∷ 255 ∷ 255 ∷ t)) 4) End)

-- erased bytes are an empty log
pub log_erased : (j : ℕ) → log_of (replicate j 255) ≡ ended [] 0
unfolding batch_at batch_of
log_erased zero = by_step [] End refl
log_erased (suc zero) = by_step (replicate 1 255) End refl
log_erased (suc (suc zero)) = by_step (replicate 2 255) End refl
log_erased (suc (suc (suc zero))) = by_step (replicate 3 255) End refl
log_erased (suc (suc (suc (suc j)))) = log_blank (replicate j 255)

-- ---- a batch's bytes

-- eight bytes each
pub length_entries : (es : List Entry) → length (entries_bytes es) ≡ 8 * length es
length_entries [] = refl
length_entries (e ∷ es) = let h = length_entries es in omega arith

-- entries read back from their bytes
pub entries_back : (es : List Entry) → Fit es → entries (length es) (entries_bytes es) ≡ es
unfolding entry_of le16 le32
entries_back [] f = refl
entries_back (e ∷ es) f = rw (val16 e.last f.2, val32 e.first f.3) (ap (λ (l : List Entry). e ∷ l) (entries_back es f.4))

batch_by : (bs : List ℕ) (n : ℕ) → le16 bs 0 ≡ n → le16 bs 2 ≡ 65535 - n → 1 ≤ n → n ≤ 8 → 4 + 8 * n ≤ length bs → batch_at bs ≡ Entries n
unfolding batch_at batch_of good_pair le32
batch_by bs n a b lo hi room =
    let x : n + (65535 - n) * 65536 ≡ 0xffff_ffff → ⊥ = λ q. omega arith in
    let y : 4 ≤ length bs = omega arith in
    rw (a, b, le-ltb _ _ y, ne_eqb _ _ x, eq-eqb (65535 - n) (65535 - n) refl, le-leb _ _ lo, le-leb _ _ hi, le-leb _ _ room)

-- ---- a batch appended

module _ (bs : List ℕ) (es : List Entry) (e : ℕ) (h : log_of bs ≡ ended es e) (b : List Entry) (room : e + (4 + 8 * length b) ≤ length bs)
    (blank : drop e bs ≡ replicate (length bs - e) 255) where
  abbrev pub with_entries : List ℕ
  with_entries = splice bs (e + 4) (entries_bytes b)

  abbrev pub with_pair : List ℕ
  with_pair = splice with_entries e (pair_bytes (length b))

  -- neither store changes the length
  pub length_one : length with_entries ≡ length bs
  length_one = let n = length_entries b in length_splice bs (e + 4) (entries_bytes b) (omega arith)

  length_two : length with_pair ≡ length bs
  length_two = let n = length_one in length_splice with_entries e (pair_bytes (length b)) (omega arith) ∙ length_one

  -- what follows the log's end, with the entries and then with the pair
  pub rest_one : drop e with_entries ≡ 255 ∷ 255 ∷ 255 ∷ 255 ∷ entries_bytes b ++ replicate (length bs - e - (4 + 8 * length b)) 255
  unfolding splice
  rest_one =
      let n = length_entries b in
      let m = length bs - e - 4 in
      let f : length bs - e ≡ suc (suc (suc (suc m))) = omega arith in
      drop_splice_add bs e 4 (entries_bytes b) (omega arith)
      ∙ rw (blank, drop_replicate (4 + length (entries_bytes b)) (length bs - e) 255, n, f)

  -- after the entries alone the log reads as before
  pub log_entries : log_of with_entries ≡ ended es e
  log_entries =
      log_prefix (length bs) bs with_entries es e (omega arith) h length_one (take_splice bs (e + 4) (entries_bytes b) e (omega arith) (omega arith))
      ∙ rw (rest_one, log_blank, append-nil, add-zero)

  abbrev pub tail : List ℕ
  tail = entries_bytes b ++ replicate (length bs - e - (4 + 8 * length b)) 255

  -- and what follows once the pair is there
  pub rest_two : drop e with_pair ≡ pair_bytes (length b) ++ tail
  unfolding splice
  rest_two =
      let n = length_one in
      let z : splice with_entries e (pair_bytes (length b)) ≡ splice with_entries (e + 0) (pair_bytes (length b)) = rw add-zero in
      ap (drop e) z ∙ drop_splice_add with_entries e 0 (pair_bytes (length b)) (omega arith) ∙ rw rest_one

  -- and what follows the batch
  pub rest_behind : drop (4 + 8 * length b) (pair_bytes (length b) ++ tail) ≡ replicate (length bs - e - (4 + 8 * length b)) 255
  rest_behind =
      sym (drop-drop (8 * length b) 4 (pair_bytes (length b) ++ tail))
      ∙ drop_at (entries_bytes b) (replicate (length bs - e - (4 + 8 * length b)) 255) (8 * length b) (length_entries b)

  -- once the pair is there the log reads as before with the batch after it
  pub log_appended : 1 ≤ length b → length b ≤ 8 → Fit b → log_of with_pair ≡ ended (es ++ b) (e + (4 + 8 * length b))
  unfolding part le16
  log_appended lo hi fit =
      let k = 4 + 8 * length b in
      let n = length_entries b in
      let one = length_one in
      let t : take e with_pair ≡ take e bs =
      take_splice with_entries e (pair_bytes (length b)) e (omega arith) (omega arith)
      ∙ take_splice bs (e + 4) (entries_bytes b) e (omega arith) (omega arith) in
      let lt : 8 * length b ≤ length tail = simp (length-append, length-replicate) (omega arith) in
      let s : batch_at (pair_bytes (length b) ++ tail) ≡ Entries (length b) =
      batch_by (pair_bytes (length b) ++ tail) (length b)
      (val16 (length b) (omega arith)) (val16 (65535 - length b) (omega arith)) lo hi (omega arith) in
      log_prefix (length bs) bs with_pair es e (omega arith) h length_two t
      ∙ rw rest_two
      (ap (after es e) (by_step (pair_bytes (length b) ++ tail) (Entries (length b)) s)
      ∙ rw (take_at (entries_bytes b) (replicate (length bs - e - k) 255) (8 * length b) n, entries_back b fit, rest_behind, log_erased, append-nil, add-zero))
