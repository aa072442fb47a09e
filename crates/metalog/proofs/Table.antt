-- Replay, and batches made of a table of eight files: a batch of the marked files replays to the table that it was made of, and the
-- others stay as they were.
-- Assumes nothing.
use Prim.Native.Nat.{ℕ, zero, suc, ◌+◌, ◌-◌, ◌*◌, ◌/◌, ◌≤◌, ◌<◌}
use mathlib.Core.Path.{◌≡◌, refl, sym, ap, ◌∙◌}
use mathlib.Core.List.{List, [], ◌∷◌, ◌++◌}
use mathlib.Core.Bool.{Bool, true, false, cond, ◌&&◌, and-eq-true_iff}
use native.Mathlib.Omega.{arith}
use lib.ListN.{length, drop, get_or, set, replicate, length-drop, length-set}
use lib.Seq.{ext_get_or, get_or-set_same, get_or-set_other}
use lib.Dec.{leb, ltb}
use borrow.Author.Tests.{lt-ltb, ltb-true}
use Rattle.runs.specs.Runs.{part, part_of}
use Rattle.page.specs.declared.MetaHeader.{MetaHeader}
use Rattle.page.specs.Page.{page_of, Bytes}
use Rattle.page.specs.Store.{ran}
use Rattle.page.proofs.Laws.{split, bytes_at, bytes_take, bytes_drop, bytes_page}
use Rattle.page.proofs.Headers.{le16_fits, le32_fits}
use Rattle.metalog.specs.declared.Entry.{Entry}
use Rattle.metalog.specs.declared.Batch.{Batch}
use Rattle.metalog.specs.declared.Batch.TheVariants.{End, Entries, Bad}
use Rattle.std.specs.Prelude.{Some}
use Rattle.metalog.specs.declared.Files.{Files}
use Rattle.metalog.specs.Log.{Replay, batch_at, entry_of, entries, Log, ended, damaged, after, log_of, area_of, log_at, end_of, log_end, rest_erased, fits, sound, no_files, put_in, put, add, adds, fresh, replayed, replay_of}
use Rattle.metalog.specs.Batch.{entry_for, chosen_from, chosen, batch_stores, end_after, new_meta_stores, Fit}
use Rattle.metalog.proofs.Laws.{by_step, batch_room, adds_append}
use Rattle.metalog.proofs.Pages.{area_length, batch_log, new_log, Ids}

-- ---- whether the replay is good

-- every entry is one that mount takes
abbrev pub Sounds : ℕ → List Entry → Type 0
Sounds count [] = Unit {0}
Sounds count (e ∷ es) = (sound count e ≡ true) × Sounds count es

-- it is good exactly if it was and every entry is sound
pub adds_good : (count : ℕ) (r : Replay) (es : List Entry) → Sounds count es → (adds count r es).ok ≡ r.ok
adds_good count r [] s = refl
adds_good count r (e ∷ es) s = adds_good count (add count r e) es s.1 ∙ rw s.0 (and_true r.ok)
  where
    and_true : (b : Bool) → (b && true) ≡ b
    and_true true = refl
    and_true false = refl

pub record Good (count : ℕ) (r : Replay) (es : List Entry) : Type 0 where
  pub was : r.ok ≡ true
  pub sounds : Sounds count es

-- a good end tells that all was good
pub good_adds : (count : ℕ) (r : Replay) (es : List Entry) → (adds count r es).ok ≡ true → Good count r es
good_adds count r [] h = record { was = h; sounds = tt }
good_adds count r (e ∷ es) h =
    let g = good_adds count (add count r e) es h in
    let a = (and-eq-true_iff r.ok (sound count e)).0 g.was in
    record { was = a.0; sounds = (a.1, g.sounds) }

-- what a log that reads replays to, and one that does not
pub replay_ended : (count : ℕ) (img : List ℕ) (p : ℕ) (es : List Entry) (e : ℕ) → log_at img p ≡ ended es e → replay_of count img p ≡ adds count (fresh true) es
unfolding replay_of
replay_ended count img p es e h = ap (replayed count (fresh true)) h

-- nothing, and not good
pub replay_damaged : (count : ℕ) (img : List ℕ) (p : ℕ) → log_at img p ≡ damaged → replay_of count img p ≡ fresh false
unfolding replay_of
replay_damaged count img p h = ap (replayed count (fresh true)) h

-- a replay that is good comes of a log that reads, all of whose entries are sound
pub record GoodLog (count : ℕ) (l : Log) : Type 0 where
  pub list : List Entry
  pub end : ℕ
  pub is : l ≡ ended list end
  pub sounds : Sounds count list

-- the log behind a good replay
pub replay_good : (count : ℕ) (img : List ℕ) (p : ℕ) → (replay_of count img p).ok ≡ true → GoodLog count (log_at img p)
unfolding replay_of
replay_good count img p h = by (log_at img p) h
  where
    by : (l : Log) → (replayed count (fresh true) l).ok ≡ true → GoodLog count l
    by (ended es e) h = record { list = es; end = e; is = refl; sounds = (good_adds count (fresh true) es h).sounds }
    by damaged h = let z : ◌≡◌ {A = ℕ} 0 1 = cc in absurd (omega arith)

-- ---- what the types of the code already say

-- eight files, whose fields fit
pub record Typed (f : Files) : Type 0 where
  pub lasts : length f.last ≡ 8
  pub firsts : length f.first ≡ 8
  pub marks : length f.flags ≡ 8
  pub last : (i : ℕ) → get_or f.last i 0 < 65536
  pub first : (i : ℕ) → get_or f.first i 0 < 4294967296
  pub flags : (i : ℕ) → get_or f.flags i 0 < 256

-- the entries of a batch fit
pub chosen_fit : (f : Files) (marks : List Bool) → Typed f → Fit (chosen f marks)
unfolding chosen
chosen_fit f marks t = go 0 8 (omega arith)
  where
    go : (i n : ℕ) → i + n ≤ 8 → Fit (chosen_from f marks i n)
    go i zero h = tt
    go i (suc n) h = by (get_or marks i false) (go (suc i) n (omega arith))
      where
        by : (c : Bool) → Fit (chosen_from f marks (suc i) n) → Fit (cond c (entry_for f i ∷ []) [] ++ chosen_from f marks (suc i) n)
        by true k = (omega arith, t.flags i, t.last i, t.first i, k)
        by false k = k

-- and are of the eight files
pub chosen_ids : (f : Files) (marks : List Bool) → Ids (chosen f marks)
unfolding chosen
chosen_ids f marks = go 0 8 (omega arith)
  where
    go : (i n : ℕ) → i + n ≤ 8 → Ids (chosen_from f marks i n)
    go i zero h = tt
    go i (suc n) h = by (get_or marks i false) (go (suc i) n (omega arith))
      where
        by : (c : Bool) → Ids (chosen_from f marks (suc i) n) → Ids (cond c (entry_for f i ∷ []) [] ++ chosen_from f marks (suc i) n)
        by true k = (omega arith, k)
        by false k = k

-- and so are entries that mount takes
pub sounds_ids : (count : ℕ) (es : List Entry) → Sounds count es → Ids es
unfolding sound
sounds_ids count [] s = tt
sounds_ids count (e ∷ es) s = (ltb-true _ _ ((and-eq-true_iff (ltb e.file 8) _).0 s.0).0, sounds_ids count es s.1)

set_below : (l : List ℕ) (i x b : ℕ) → x < b → ((j : ℕ) → get_or l j 0 < b) → (j : ℕ) → get_or (set l i x) j 0 < b
set_below [] i x b h k j = k j
set_below (y ∷ l) zero x b h k zero = h
set_below (y ∷ l) zero x b h k (suc j) = k (suc j)
set_below (y ∷ l) (suc i) x b h k zero = k zero
set_below (y ∷ l) (suc i) x b h k (suc j) = set_below l i x b h (λ j. k (suc j)) j

replicate_below : (n v b : ℕ) → v < b → (j : ℕ) → get_or (replicate n v) j 0 < b
replicate_below zero v b h j = omega arith
replicate_below (suc n) v b h zero = h
replicate_below (suc n) v b h (suc j) = replicate_below n v b h j

-- empty files are typed
pub typed_none : Typed no_files
typed_none =
    record {
      lasts = refl;
      firsts = refl;
      marks = refl;
      last = replicate_below 8 65535 65536 (omega arith);
      first = replicate_below 8 0 4294967296 (omega arith);
      flags = replicate_below 8 0 256 (omega arith);
    }

typed_put : (f : Files) (e : Entry) → Typed f → e.flags < 256 → e.last < 65536 → e.first < 4294967296 → Typed (put f e)
unfolding put
typed_put f e t g l s = by (ltb e.file 8)
  where
    by : (b : Bool) → Typed (cond b (put_in f e) f)
    by false = t
    by true =
        record {
          lasts = length-set f.last e.file e.last ∙ t.lasts;
          firsts = length-set f.first e.file e.first ∙ t.firsts;
          marks = length-set f.flags e.file e.flags ∙ t.marks;
          last = set_below f.last e.file e.last 65536 l t.last;
          first = set_below f.first e.file e.first 4294967296 s t.first;
          flags = set_below f.flags e.file e.flags 256 g t.flags;
        }

-- typed files stay typed under entries that fit
pub typed_adds : (count : ℕ) (r : Replay) (es : List Entry) → Typed r.files → Fit es → Typed (adds count r es).files
typed_adds count r [] t f = t
typed_adds count r (e ∷ es) t f = typed_adds count (add count r e) es (typed_put r.files e t f.1 f.2 f.3) f.4

bytes_part : (l : List ℕ) (a n : ℕ) → Bytes l → Bytes (part l a n)
unfolding part
bytes_part l a n b = bytes_take n (drop a l) (bytes_drop a l b)

bytes_cond : (l : List ℕ) (c : Bool) → Bytes l → Bytes (cond c l [])
bytes_cond l true b = b
bytes_cond l false b = tt

-- ---- what a log that reads tells

-- entries that fit, and more of them
pub fit_append : (es fs : List Entry) → Fit es → Fit fs → Fit (es ++ fs)
fit_append [] fs a b = b
fit_append (e ∷ es) fs a b = (a.0, a.1, a.2, a.3, fit_append es fs a.4 b)

fit_entries : (n : ℕ) (bs : List ℕ) → Bytes bs → Fit (entries n bs)
unfolding entry_of
fit_entries zero bs b = tt
fit_entries (suc n) bs b = (bytes_at bs b 0, bytes_at bs b 1, le16_fits bs b 2, le32_fits bs b 4, fit_entries n (drop 8 bs) (bytes_drop 8 bs b))

-- it ends within its bytes, and its entries fit
pub record Told (bs : List ℕ) (es : List Entry) (e : ℕ) : Type 0 where
  pub within : e ≤ length bs
  pub fit : Bytes bs → Fit es

ended_not : {es : List Entry} {e : ℕ} → damaged ≡ ended es e → ⊥
ended_not h = let z : ◌≡◌ {A = ℕ} 0 1 = cc in omega arith

module _ (bs : List ℕ) (es : List Entry) (e : ℕ) (h : log_of bs ≡ ended es e) where
  told_more : (n : ℕ) → batch_at bs ≡ Entries n → ((fs : List Entry) (f : ℕ) → log_of (drop (4 + 8 * n) bs) ≡ ended fs f → Told (drop (4 + 8 * n) bs) fs f)
      → (l : Log) → log_of (drop (4 + 8 * n) bs) ≡ l → Told bs es e
  told_more n q ih damaged k =
      absurd (ended_not (sym (by_step bs (Entries n) q ∙ ap (after (entries n (part bs 4 (8 * n))) (4 + 8 * n)) k) ∙ h))
  told_more n q ih (ended fs f) k =
      let x : ended (entries n (part bs 4 (8 * n)) ++ fs) (4 + 8 * n + f) ≡ ended es e =
      sym (by_step bs (Entries n) q ∙ ap (after (entries n (part bs 4 (8 * n))) (4 + 8 * n)) k) ∙ h in
      let a : es ≡ entries n (part bs 4 (8 * n)) ++ fs = cc in
      let b : e ≡ 4 + 8 * n + f = cc in
      let r = batch_room bs n q in
      let t = ih fs f k in
      let w : f ≤ length bs - (4 + 8 * n) = rw (length-drop (4 + 8 * n) bs) at t.within in
      record {
        within = omega arith;
        fit = λ c. rw a (fit_append (entries n (part bs 4 (8 * n))) fs (fit_entries n (part bs 4 (8 * n)) (bytes_part bs 4 (8 * n) c)) (t.fit (bytes_drop (4 + 8 * n) bs c)));
      }

  told_by_lem : ((n : ℕ) → batch_at bs ≡ Entries n → Told bs es e) → (b : Batch) → batch_at bs ≡ b → Told bs es e
  told_by_lem f End q =
      let x : ended [] 0 ≡ ended es e = sym (by_step bs End q) ∙ h in
      let a : es ≡ [] = cc in
      let b : e ≡ 0 = cc in
      record { within = omega arith; fit = λ c. rw a tt }
  told_by_lem f Bad q = absurd (ended_not (sym (by_step bs Bad q) ∙ h))
  told_by_lem f (Entries n) q = f n q

told_upto : (m : ℕ) (bs : List ℕ) (es : List Entry) (e : ℕ) → length bs ≤ m → log_of bs ≡ ended es e → Told bs es e
told_upto zero bs es e k h = told_by_lem bs es e h (λ n q. let r = batch_room bs n q in absurd (omega arith)) (batch_at bs) refl
told_upto (suc m) bs es e k h =
    told_by_lem bs es e h
    (λ n q. let r = batch_room bs n q in
    let l : length (drop (4 + 8 * n) bs) ≤ m = simp length-drop (omega arith) in
    told_more bs es e h n q (λ fs f x. told_upto m (drop (4 + 8 * n) bs) fs f l x) (log_of (drop (4 + 8 * n) bs)) refl)
    (batch_at bs) refl

-- what any log tells
pub log_told : (bs : List ℕ) (es : List Entry) (e : ℕ) → log_of bs ≡ ended es e → Told bs es e
log_told bs es e h = told_upto (length bs) bs es e (omega arith) h

-- the same of a page
pub log_fit : (img : List ℕ) (p : ℕ) (es : List Entry) (e : ℕ) → Bytes img → log_at img p ≡ ended es e → Fit es
unfolding area_of part_of
log_fit img p es e b h = (log_told (area_of img p) es e h).fit (bytes_cond _ (leb (12 + 244) (length (page_of img p))) (bytes_part (page_of img p) 12 244 (bytes_page img p b)))

-- so what a replay gives are eight files whose fields fit
pub replay_typed : (count : ℕ) (img : List ℕ) (p : ℕ) → Bytes img → Typed (replay_of count img p).files
unfolding replay_of
replay_typed count img p b = by (log_at img p) refl
  where
    by : (l : Log) → log_at img p ≡ l → Typed (replayed count (fresh true) l).files
    by (ended es e) h = typed_adds count (fresh true) es typed_none (log_fit img p es e b h)
    by damaged h = typed_none

-- ---- a batch of the marked files

-- one field of the table after the entries of the marked files among n from i on
abbrev set_all : List ℕ → List ℕ → List Bool → ℕ → ℕ → List ℕ
set_all l v marks i zero = l
set_all l v marks i (suc n) = set_all (cond (get_or marks i false) (set l i (get_or v i 0)) l) v marks (suc i) n

-- l is v below i, and at what is not marked
abbrev Near : List ℕ → List ℕ → List Bool → ℕ → Type 0
Near l v marks i = (j : ℕ) → j < 8 → (j < i → get_or l j 0 ≡ get_or v j 0) × (get_or marks j false ≡ false → get_or l j 0 ≡ get_or v j 0)

near_more : (l v : List ℕ) (marks : List Bool) (f : ℕ) → f < 8 → length l ≡ 8 → (b : Bool) → get_or marks f false ≡ b → Near l v marks f
    → Near (cond b (set l f (get_or v f 0)) l) v marks (suc f)
near_more l v marks f h e false q x j k =
    ((λ m. split f j (λ g. let z : j ≡ f = omega arith in rw z ((x f h).1 q)) (λ g. (x j k).0 g)), (x j k).1)
near_more l v marks f h e true q x j k =
    let same : get_or (set l f (get_or v f 0)) f 0 ≡ get_or v f 0 = get_or-set_same l f (get_or v f 0) 0 (omega arith) in
    let other : (j ≡ f → ⊥) → get_or (set l f (get_or v f 0)) j 0 ≡ get_or l j 0 = λ n. get_or-set_other l f j (get_or v f 0) 0 n in (
      (λ m. split f j (λ g. let z : j ≡ f = omega arith in rw z same) (λ g. other (λ z. omega arith) ∙ (x j k).0 g)),
      (λ m. split f j
          (λ g. split j f (λ g'. let z : j ≡ f = omega arith in rw z same) (λ g'. other (λ z. omega arith) ∙ (x j k).1 m))
          (λ g. other (λ z. omega arith) ∙ (x j k).0 g)),
    )

length_cond : (b : Bool) (l : List ℕ) (i a : ℕ) → length (cond b (set l i a) l) ≡ length l
length_cond true l i a = length-set l i a
length_cond false l i a = refl

set_all_lem : (l v : List ℕ) (marks : List Bool) (i n : ℕ) → i + n ≡ 8 → length l ≡ 8 → length v ≡ 8 → Near l v marks i → set_all l v marks i n ≡ v
set_all_lem l v marks i zero k a b x = ext_get_or 0 l v (a ∙ sym b) (λ j h. (x j (omega arith)).0 (omega arith))
set_all_lem l v marks i (suc n) k a b x =
    set_all_lem (cond (get_or marks i false) (set l i (get_or v i 0)) l) v marks (suc i) n (omega arith)
    (length_cond (get_or marks i false) l i (get_or v i 0) ∙ a) b (near_more l v marks i (omega arith) a (get_or marks i false) refl x)

-- every field of the table
abbrev all_set : Files → Files → List Bool → ℕ → ℕ → Files
all_set f t marks i n =
    record {
      last = set_all f.last t.last marks i n;
      first = set_all f.first t.first marks i n;
      flags = set_all f.flags t.flags marks i n;
    }

adds_chosen : (count : ℕ) (r : Replay) (t : Files) (marks : List Bool) (i n : ℕ) → i + n ≤ 8
    → (adds count r (chosen_from t marks i n)).files ≡ all_set r.files t marks i n
unfolding put
adds_chosen count r t marks i zero h = refl
adds_chosen count r t marks i (suc n) h =
    by (get_or marks i false) (λ q. adds_chosen count q t marks (suc i) n (omega arith))
  where
    by : (b : Bool) → ((q : Replay) → (adds count q (chosen_from t marks (suc i) n)).files ≡ all_set q.files t marks (suc i) n)
        → (adds count r (cond b (entry_for t i ∷ []) [] ++ chosen_from t marks (suc i) n)).files
        ≡ record {
          last = set_all (cond b (set r.files.last i (get_or t.last i 0)) r.files.last) t.last marks (suc i) n;
          first = set_all (cond b (set r.files.first i (get_or t.first i 0)) r.files.first) t.first marks (suc i) n;
          flags = set_all (cond b (set r.files.flags i (get_or t.flags i 0)) r.files.flags) t.flags marks (suc i) n;
        }
    by false ih = ih r
    by true ih =
        let k : i < 8 = omega arith in
        ih (add count r (entry_for t i)) ∙ rw (lt-ltb i 8 k)

-- the table before the batch agrees with t on what is not marked
pub record Agree (f t : Files) (marks : List Bool) : Type 0 where
  pub last : (j : ℕ) → j < 8 → get_or marks j false ≡ false → get_or f.last j 0 ≡ get_or t.last j 0
  pub first : (j : ℕ) → j < 8 → get_or marks j false ≡ false → get_or f.first j 0 ≡ get_or t.first j 0
  pub flags : (j : ℕ) → j < 8 → get_or marks j false ≡ false → get_or f.flags j 0 ≡ get_or t.flags j 0

-- then the table after it is t
pub replay_chosen : (count : ℕ) (r : Replay) (t : Files) (marks : List Bool) → Typed r.files → Typed t → Agree r.files t marks
    → (adds count r (chosen t marks)).files ≡ t
unfolding chosen
replay_chosen count r t marks a b g =
    adds_chosen count r t marks 0 8 (omega arith)
    ∙ rw (
      set_all_lem r.files.last t.last marks 0 8 refl a.lasts b.lasts (λ j k. (λ m. absurd (omega arith), g.last j k)),
      set_all_lem r.files.first t.first marks 0 8 refl a.firsts b.firsts (λ j k. (λ m. absurd (omega arith), g.first j k)),
      set_all_lem r.files.flags t.flags marks 0 8 refl a.marks b.marks (λ j k. (λ m. absurd (omega arith), g.flags j k)),
    )

-- a batch of marked files that mount takes, one by one, is one that it takes
pub chosen_sounds : (count : ℕ) (t : Files) (marks : List Bool) → ((i : ℕ) → i < 8 → get_or marks i false ≡ true → sound count (entry_for t i) ≡ true)
    → Sounds count (chosen t marks)
unfolding chosen
chosen_sounds count t marks s = go 0 8 (omega arith)
  where
    go : (i n : ℕ) → i + n ≤ 8 → Sounds count (chosen_from t marks i n)
    go i zero h = tt
    go i (suc n) h = by (get_or marks i false) refl (go (suc i) n (omega arith))
      where
        by : (c : Bool) → get_or marks i false ≡ c → Sounds count (chosen_from t marks (suc i) n) → Sounds count (cond c (entry_for t i ∷ []) [] ++ chosen_from t marks (suc i) n)
        by true e k = (s i (omega arith) e, k)
        by false e k = k

-- ---- replay after the stores

-- after an append a log replays as before, and then the batch
pub append_replay : (count : ℕ) (img : List ℕ) (p : ℕ) → p < length img / 256 → (es : List Entry) (e : ℕ) → log_at img p ≡ ended es e → rest_erased img p e ≡ true
    → (b : List Entry) → fits e (length b) ≡ true → length b ≤ 8 → Fit b
    → replay_of count (ran img (batch_stores p e b)) p ≡ adds count (replay_of count img p) b
append_replay count img p inside es e h blank b room few fit =
    replay_ended count (ran img (batch_stores p e b)) p (es ++ b) (end_after e b) (batch_log img p inside es e h blank b room few fit)
    ∙ adds_append count (fresh true) es b
    ∙ ap (λ (r : Replay). adds count r b) (sym (replay_ended count img p es e h))

-- a new metadata page replays to its entries
pub new_replay : (count : ℕ) (img : List ℕ) (p : ℕ) (m : MetaHeader) (b : List Entry) → p < length img / 256 → length b ≤ 8 → Fit b
    → replay_of count (ran img (new_meta_stores p m b)) p ≡ adds count (fresh true) b
new_replay count img p m b inside few fit =
    replay_ended count (ran img (new_meta_stores p m b)) p b (end_after 0 b) (new_log img p m b inside few fit)

-- ---- the log's end

-- a log that ends reads
pub record Ends (l : Log) (e : ℕ) : Type 0 where
  pub list : List Entry
  pub is : l ≡ ended list e

-- the entries behind an end
pub end_reads : (img : List ℕ) (p e : ℕ) → log_end img p ≡ Some e → Ends (log_at img p) e
unfolding log_end
end_reads img p e h = by (log_at img p) h
  where
    by : (l : Log) → end_of l ≡ Some e → Ends l e
    by (ended es f) h = let z : f ≡ e = cc in record { list = es; is = ap (ended es) z }
    by damaged h = let z : ◌≡◌ {A = ℕ} 0 1 = cc in absurd (omega arith)

-- and within the page
pub end_within : (img : List ℕ) (p : ℕ) (es : List Entry) (e : ℕ) → p < length img / 256 → log_at img p ≡ ended es e → e ≤ 244
end_within img p es e i h = omega (arith, (log_told (area_of img p) es e h).within, area_length img p i)
