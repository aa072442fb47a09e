-- What the log's definitions say at one more step.
-- Assumes nothing.
use Prim.Native.Nat.{ℕ, zero, suc, ◌+◌, ◌-◌, ◌*◌, ◌/◌, ◌≤◌, ◌<◌}
use mathlib.Core.Path.{◌≡◌, refl, sym, ap, ap₂, ◌∙◌}
use mathlib.Core.List.{List, [], ◌∷◌, ◌++◌}
use mathlib.Core.Bool.{Bool, true, false, cond, ◌&&◌, and-eq-true_iff}
use native.Mathlib.Omega.{arith}
use native.Mathlib.Nat.{add_assoc, add-zero}
use lib.ListN.{length, take, drop, get_or, length-append, length-drop}
use lib.Seq.{get_or-take, take_at, drop_at}
use lib.Dec.{eqb, ltb, leb}
use borrow.Author.Tests.{leb-true, ltb-false}
use Rattle.runs.specs.Runs.{part, le16, le32}
use Rattle.runs.proofs.Laws.{cond_by, le16_take, length_part}
use Rattle.metalog.specs.declared.Entry.{Entry}
use Rattle.metalog.specs.declared.Batch.{Batch}
use Rattle.metalog.specs.declared.Files.{Files}
use Rattle.metalog.specs.declared.Batch.TheVariants.{End, Entries, Bad}
use Rattle.std.specs.Prelude.{Option, Some, None}
use Rattle.metalog.specs.Log.{Replay, pair_size, entry_size, batch_size, good_pair, batch_of, batch_at, entry_of, entries, Log, ended, damaged, after, log_by, log_from, log_of, end_of, end_numbers, add, adds, sound, good, fresh, replayed, taken}
use Rattle.metalog.specs.Batches.{IsFirst}

-- an entry is its own eight bytes
entry_take : (bs : List ℕ) → entry_of (take 8 bs) ≡ entry_of bs
unfolding entry_of le32
entry_take bs =
    let g : (i : ℕ) → i < 8 → get_or (take 8 bs) i 0 ≡ get_or bs i 0 = λ i h. get_or-take 8 bs i 0 h in
    let f : (i : ℕ) → i + 1 < 8 → le16 (take 8 bs) i ≡ le16 bs i = λ i h. le16_take 8 bs i h in
    rw (g 0 (omega arith), g 1 (omega arith), f 2 (omega arith), f 4 (omega arith), f 6 (omega arith))

-- one entry, and those behind it
entries_more : (x bs : List ℕ) → length x ≡ 8 → entries (length (x ++ bs) / 8) (x ++ bs) ≡ entry_of x ∷ entries (length bs / 8) bs
entries_more x bs h =
    let e : length (x ++ bs) / 8 ≡ suc (length bs / 8) = simp length-append (omega arith) in
    rw e
    (ap₂ (λ (e : Entry) (es : List Entry). e ∷ es) (sym (entry_take (x ++ bs)) ∙ ap entry_of (take_at x bs 8 h))
    (ap (entries (length bs / 8)) (drop_at x bs 8 h)))

-- ---- where a log ends

-- the answer's numbers lose nothing: it can be read back from them
abbrev end_in : List ℕ → Option ℕ
end_in l = cond (eqb (get_or l 0 0) 0) (Some (get_or l 1 0)) None

end_back : (a : Option ℕ) → end_in (end_numbers a) ≡ a
end_back (Some e) = refl
end_back None = refl

pub end_same : (a b : Option ℕ) → end_numbers a ≡ end_numbers b → a ≡ b
end_same a b e = sym (end_back a) ∙ ap end_in e ∙ end_back b

-- ---- the log, a batch at a time

abbrev pub step_log : Batch → List ℕ → Log
step_log End bs = ended [] 0
step_log (Entries n) bs = after (entries n (part bs pair_size (entry_size * n))) (batch_size n) (log_of (drop (batch_size n) bs))
step_log Bad bs = damaged

log_skip : (bs : List ℕ) (k : ℕ) → log_from bs k ≡ log_from (drop k bs) 0
log_skip [] zero = refl
log_skip [] (suc k) = refl
log_skip (x ∷ bs) zero = refl
log_skip (x ∷ bs) (suc k) = log_skip bs k

step_by : (b : Batch) (x : ℕ) (bs : List ℕ) → log_by b (x ∷ bs) (λ k. log_from bs k) ≡ step_log b (x ∷ bs)
unfolding log_of
step_by End x bs = refl
step_by (Entries n) x bs =
    let e : 4 + 8 * n ≡ suc (3 + 8 * n) = omega arith in
    rw (log_skip bs (3 + 8 * n), e)
step_by Bad x bs = refl

log_step : (bs : List ℕ) → log_of bs ≡ step_log (batch_at bs) bs
unfolding log_of batch_at batch_of
log_step [] = refl
log_step (x ∷ bs) = step_by (batch_at (x ∷ bs)) x bs

-- a log by what stands at its beginning
pub by_step : (bs : List ℕ) (b : Batch) → batch_at bs ≡ b → log_of bs ≡ step_log b bs
by_step bs b h = log_step bs ∙ ap (λ (x : Batch). step_log x bs) h

-- ---- what a batch says

end_not : {n : ℕ} → End ≡ Entries n → ⊥
end_not h = let z : ◌≡◌ {A = ℕ} 0 1 = cc in omega arith

bad_not : {n : ℕ} → Bad ≡ Entries n → ⊥
bad_not h = let z : ◌≡◌ {A = ℕ} 0 1 = cc in omega arith

bad_end_not : Bad ≡ End → ⊥
bad_end_not h = let z : ◌≡◌ {A = ℕ} 0 1 = cc in omega arith

-- a batch has 1 to 8 entries, and they are there
pub record Room (n left : ℕ) : Type 0 where
  pub low : 1 ≤ n
  pub high : n ≤ 8
  pub room : batch_size n ≤ left

good_few : (n m : ℕ) → good_pair n m ≡ true → (1 ≤ n) × (n ≤ 8)
unfolding good_pair
good_few n m h =
    let a = (and-eq-true_iff (eqb m (65535 - n) && leb 1 n) (leb n 8)).0 h in
    let b = (and-eq-true_iff (eqb m (65535 - n)) (leb 1 n)).0 a.0 in
    (leb-true _ _ b.1, leb-true _ _ a.1)

-- so says a batch that reads
pub batch_room : (bs : List ℕ) (n : ℕ) → batch_at bs ≡ Entries n → Room n (length bs)
unfolding batch_at batch_of
batch_room bs n h =
    let c = le16 bs 0 in
    let l = length bs in
    cond_by (ltb l 4) _ _ _ h (λ t e. absurd (end_not e))
    (λ t h. cond_by (eqb (le32 bs 0) 0xffff_ffff) _ _ _ h (λ t e. absurd (end_not e))
    (λ t h. cond_by (good_pair c (le16 bs 2)) _ _ _ h
    (λ t₁ h. cond_by (leb (4 + 8 * c) l) _ _ _ h
    (λ t₂ h. let e : c ≡ n = cc in
    let g = good_few c (le16 bs 2) t₁ in record {
      low = omega (arith, g.0);
      high = omega (arith, g.1);
      room = omega (arith, leb-true (4 + 8 * c) l t₂);
    })
    (λ t e. absurd (bad_not e)))
    (λ t e. absurd (bad_not e))))

-- a bad batch has its first four bytes
pub bad_room : (bs : List ℕ) → batch_at bs ≡ Bad → 4 ≤ length bs
unfolding batch_at batch_of
bad_room bs h =
    cond_by (ltb (length bs) 4) _ _ _ h (λ t e. absurd (bad_end_not (sym e)))
    (λ t _. ltb-false _ _ t)

-- ---- replay

-- entries replayed, then more entries
pub adds_append : (count : ℕ) (r : Replay) (es fs : List Entry) → adds count r (es ++ fs) ≡ adds count (adds count r es) fs
adds_append count r [] fs = refl
adds_append count r (e ∷ es) fs = adds_append count (add count r e) es fs

replayed_after : (count : ℕ) (r : Replay) (es : List Entry) (k : ℕ) (l : Log)
    → replayed count r (after es k l) ≡ replayed count (adds count r es) l
replayed_after count r es k damaged = refl
replayed_after count r es k (ended fs e) = adds_append count r es fs

module _ (count : ℕ) (r : Replay) (bs : List ℕ) where
  pub replay_more : (n : ℕ) → batch_at bs ≡ Entries n
      → replayed count r (log_of bs) ≡ replayed count (adds count r (entries n (part bs pair_size (entry_size * n)))) (log_of (drop (batch_size n) bs))
  replay_more n h =
      ap (replayed count r) (by_step bs (Entries n) h)
      ∙ replayed_after count r (entries n (part bs 4 (8 * n))) (4 + 8 * n) (log_of (drop (4 + 8 * n) bs))

  -- at its end a replay stands
  pub replay_end : batch_at bs ≡ End → replayed count r (log_of bs) ≡ r
  replay_end h = ap (replayed count r) (by_step bs End h)

  -- and a bad batch spoils it
  pub replay_bad : batch_at bs ≡ Bad → replayed count r (log_of bs) ≡ fresh false
  replay_bad h = ap (replayed count r) (by_step bs Bad h)

-- ---- what mount takes of a replay

-- files that it takes are those of a good replay
pub taken_good : (r : Replay) (f : Files) → taken r ≡ Some f → r ≡ good f
taken_good r f h = by r.ok h
  where
    by : (b : Bool) → cond b (Some r.files) None ≡ Some f → record { ok = b; files = r.files } ≡ good f
    by true h = let e : r.files ≡ f = cc in rw e
    by false h = let z : ◌≡◌ {A = ℕ} 0 1 = cc in absurd (omega arith)

-- and a replay of which it takes none is not good
pub taken_not : (r : Replay) → taken r ≡ None → r.ok ≡ false
taken_not r h = by r.ok h
  where
    by : (b : Bool) → cond b (Some r.files) None ≡ None → b ≡ false
    by true h = let z : ◌≡◌ {A = ℕ} 0 1 = cc in absurd (omega arith)
    by false h = refl

-- a replay that is spoiled stays so
spoiled_adds : (count : ℕ) (r : Replay) (es : List Entry) → r.ok ≡ false → (adds count r es).ok ≡ false
spoiled_adds count r [] h = h
spoiled_adds count r (e ∷ es) h = spoiled_adds count (add count r e) es (ap (λ (b : Bool). b && sound count e) h)

pub spoiled : (count : ℕ) (r : Replay) (es : List Entry) → taken r ≡ None → taken (adds count r es) ≡ None
spoiled count r es h = rw (spoiled_adds count r es (taken_not r h))

spoiled_log : (count : ℕ) (r : Replay) (l : Log) → taken r ≡ None → taken (replayed count r l) ≡ None
spoiled_log count r (ended es e) h = spoiled count r es h
spoiled_log count r damaged h = refl

-- ---- an entry at a time

module _ (count : ℕ) (f : Files) (x bs : List ℕ) (h : length x ≡ 8) where
  entry_adds : taken (adds count (good f) (entries (length (x ++ bs) / 8) (x ++ bs))) ≡ taken (adds count (add count (good f) (entry_of x)) (entries (length bs / 8) bs))
  entry_adds = ap (λ (es : List Entry). taken (adds count (good f) es)) (entries_more x bs h)

  -- a batch goes on behind an entry that mount takes
  pub entry_first : (g : Files) → taken (add count (good f) (entry_of x)) ≡ Some g
      → taken (adds count (good f) (entries (length (x ++ bs) / 8) (x ++ bs))) ≡ taken (adds count (good g) (entries (length bs / 8) bs))
  entry_first g q = entry_adds ∙ ap (λ (r : Replay). taken (adds count r (entries (length bs / 8) bs))) (taken_good (add count (good f) (entry_of x)) g q)

  -- and one that it does not take spoils it
  pub entry_spoiled : taken (add count (good f) (entry_of x)) ≡ None → taken (adds count (good f) (entries (length (x ++ bs) / 8) (x ++ bs))) ≡ None
  entry_spoiled q = entry_adds ∙ spoiled count (add count (good f) (entry_of x)) (entries (length bs / 8) bs) q

-- ---- the log's end

-- an end that lies k bytes further on
abbrev pub further : ℕ → Option ℕ → Option ℕ
further k (Some e) = Some (k + e)
further k None = None

further_after : (k : ℕ) (es : List Entry) (n : ℕ) (l : Log) → further k (end_of (after es n l)) ≡ further (k + n) (end_of l)
further_after k es n (ended fs e) = rw add_assoc
further_after k es n damaged = refl

module _ (k : ℕ) (bs : List ℕ) where
  pub end_more : (n : ℕ) → batch_at bs ≡ Entries n → further k (end_of (log_of bs)) ≡ further (k + batch_size n) (end_of (log_of (drop (batch_size n) bs)))
  end_more n h =
      ap (λ (l : Log). further k (end_of l)) (by_step bs (Entries n) h)
      ∙ further_after k (entries n (part bs 4 (8 * n))) (4 + 8 * n) (log_of (drop (4 + 8 * n) bs))

  -- an end
  pub end_end : batch_at bs ≡ End → further k (end_of (log_of bs)) ≡ Some k
  end_end h = ap (λ (l : Log). further k (end_of l)) (by_step bs End h) ∙ rw add-zero

  -- a bad batch
  pub end_bad : batch_at bs ≡ Bad → further k (end_of (log_of bs)) ≡ None
  end_bad h = ap (λ (l : Log). further k (end_of l)) (by_step bs Bad h)

-- ---- a batch at a time

module _ {bs b rest : List ℕ} (first : IsFirst bs b rest) where
  first_part : length b ≡ 8 * first.n
  first_part = let r = batch_room bs first.n first.is in rw first.bytes (length_part bs 4 (8 * first.n) r.room)

  -- a batch and what follows it are all
  pub first_room : length bs ≡ 4 + length b + length rest
  first_room = let r = batch_room bs first.n first.is in let l = first_part in rw first.follows (simp length-drop (omega (arith, r.room)))

  -- an end behind it
  pub end_first : (k : ℕ) → further k (end_of (log_of bs)) ≡ further (k + (4 + length b)) (end_of (log_of rest))
  end_first k = rw (first_part, first.follows) (end_more k bs first.n first.is)

  first_entries : (count : ℕ) (r : Replay) → replayed count r (log_of bs) ≡ replayed count (adds count r (entries (length b / 8) b)) (log_of rest)
  first_entries count r =
      let n : length b / 8 ≡ first.n = omega (arith, first_part) in
      rw (n, first.bytes, first.follows) (replay_more count r bs first.n first.is)

  -- a replay goes on behind a batch that mount takes
  pub replay_first : (count : ℕ) (f g : Files) → taken (adds count (good f) (entries (length b / 8) b)) ≡ Some g
      → taken (replayed count (good f) (log_of bs)) ≡ taken (replayed count (good g) (log_of rest))
  replay_first count f g h =
      ap taken (first_entries count (good f)) ∙ ap (λ (r : Replay). taken (replayed count r (log_of rest))) (taken_good _ g h)

  -- and one that it does not take spoils it
  pub replay_spoiled : (count : ℕ) (f : Files) → taken (adds count (good f) (entries (length b / 8) b)) ≡ None
      → taken (replayed count (good f) (log_of bs)) ≡ None
  replay_spoiled count f h = ap taken (first_entries count (good f)) ∙ spoiled_log count _ (log_of rest) h
