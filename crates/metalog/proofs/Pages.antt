-- The log on a page of an image: what a batch's stores, and those of a new metadata page, leave there after each of them, and that
-- they program erased bytes only.
-- Assumes nothing.
use Rattle.std.specs.Prelude.{Some, None}
use Prim.Native.Nat.{ℕ, zero, suc, ◌+◌, ◌-◌, ◌*◌, ◌/◌, ◌≤◌, ◌<◌}
use mathlib.Core.Path.{◌≡◌, refl, sym, ap, ap₂, ◌∙◌}
use mathlib.Core.List.{List, [], ◌∷◌, ◌++◌, append-nil}
use mathlib.Core.Bool.{true, false}
use native.Mathlib.Omega.{arith}
use lib.ListN.{length, take, drop, replicate, length-append, length-drop}
use lib.Seq.{drop-drop, take_all, take-append-le}
use lib.Dec.{eqb}
use borrow.Author.Tests.{ne_eqb, eqb-true, leb-true, le-leb}
use Rattle.runs.specs.Runs.{part, part_of, splice, all_erased}
use Rattle.runs.proofs.Laws.{cond_by, drop_replicate, length_part, part_of_in}
use Rattle.page.specs.declared.MetaHeader.{MetaHeader}
use Rattle.page.specs.Page.{page_of, unreadable, header_of, meta_of, Bytes, Fits}
use Rattle.page.specs.Store.{Store, erase, program, stored, ran, meta_store, Clean, Cleans}
use Rattle.page.proofs.Laws.{page_length, stored_length, ran_length, ran_append, ran_keeps, Every, On, others, Behind, take_replicate, area_erased, area_stored, area_after, cleans_append, OfBytes, bytes_replicate}
use Rattle.page.proofs.Back.{length_meta_bytes, bytes_meta, meta_kept, blank_header, blank_meta, meta_stored, meta_clean_after}
use Rattle.metalog.specs.declared.Entry.{Entry}
use Rattle.metalog.specs.Log.{batch_size, ended, log_of, area_of, log_at, end_of, log_end, rest_erased, fits, fresh, replayed, replay_of}
use Rattle.metalog.specs.Batch.{entries_bytes, pair_bytes, entries_store, pair_store, batch_stores, end_after, new_meta_stores, Fit}
use Rattle.metalog.proofs.Append.{length_entries, log_entries, log_appended, log_erased, with_entries, with_pair, rest_one, rest_two, rest_behind}

-- the log depends on its page alone
pub log_page : (img img' : List ℕ) (p : ℕ) → page_of img' p ≡ page_of img p → log_at img' p ≡ log_at img p
unfolding area_of
log_page img img' p e = ap (λ (pg : List ℕ). log_of (part_of pg 12 244)) e

-- so does what is erased behind it
pub rest_page : (img img' : List ℕ) (p end : ℕ) → page_of img' p ≡ page_of img p → rest_erased img' p end ≡ rest_erased img p end
unfolding area_of rest_erased
rest_page img img' p end e = rw e

-- so does its replay
pub replay_page : (count : ℕ) (img img' : List ℕ) (p : ℕ) → page_of img' p ≡ page_of img p → replay_of count img' p ≡ replay_of count img p
unfolding replay_of
replay_page count img img' p e = ap (replayed count (fresh true)) (log_page img img' p e)

-- and its end
pub end_page : (img img' : List ℕ) (p : ℕ) → page_of img' p ≡ page_of img p → log_end img' p ≡ log_end img p
unfolding log_end
end_page img img' p e = ap end_of (log_page img img' p e)

-- stores on page p leave the logs of the others
pub others_log : (img : List ℕ) (p : ℕ) (l : List Store) → Every (On p) l → (q : ℕ) → (q ≡ p → ⊥) → log_at (ran img l) q ≡ log_at img q
others_log img p l on q n = log_page img (ran img l) q (others img p l on q n)

-- ---- erased runs

-- what is all 0xFF, and that it is

pub erased_is : (bs : List ℕ) → all_erased bs ≡ true → bs ≡ replicate (length bs) 255
erased_is [] h = refl
erased_is (x ∷ bs) h =
    cond_by (eqb x 255) (all_erased bs) false true h
    (λ t e. ap₂ (λ (y : ℕ) (l : List ℕ). y ∷ l) (eqb-true x 255 t) (erased_is bs e))
    (λ t e. let z : ◌≡◌ {A = ℕ} 0 1 = cc in absurd (omega arith))

-- 0xFF throughout is erased
pub is_erased : (n : ℕ) → all_erased (replicate n 255) ≡ true
is_erased zero = refl
is_erased (suc n) = is_erased n

-- ---- the part of a page in which its log stands

-- 244 bytes
pub area_length : (img : List ℕ) (p : ℕ) → p < length img / 256 → length (area_of img p) ≡ 244
unfolding area_of
area_length img p h =
    let a : length (page_of img p) ≡ 256 = page_length img p h in
    rw (part_of_in (page_of img p) 12 244 (omega arith)) (length_part (page_of img p) 12 244 (omega arith))

-- it is all that follows the header
area_drop : (img : List ℕ) (p : ℕ) → p < length img / 256 → area_of img p ≡ drop 12 (page_of img p)
unfolding area_of part
area_drop img p h =
    let a : length (page_of img p) ≡ 256 = page_length img p h in
    part_of_in (page_of img p) 12 244 (omega arith) ∙ take_all 244 (drop 12 (page_of img p)) (simp length-drop (omega arith))

-- a store inside the log is a splice of the log
area_store : (img : List ℕ) (p o : ℕ) (r : List ℕ) → p < length img / 256 → o + length r ≤ 244 → area_of (stored img (program p (12 + o) r)) p ≡ splice (area_of img p) o r
unfolding area_of
area_store img p o r h k = area_stored img p 12 o r 244 h (omega arith) k

area_blank : (img : List ℕ) (p : ℕ) → p < length img / 256 → area_of (stored img (erase p)) p ≡ replicate 244 255
unfolding area_of
area_blank img p h = area_erased img p 12 244 h (omega arith)

-- the header's store leaves it
area_header : (img : List ℕ) (p : ℕ) (m : MetaHeader) → area_of (stored img (meta_store p m)) p ≡ area_of img p
unfolding area_of
area_header img p m = area_after img p 0 _ p 12 244 (omega (arith, length_meta_bytes m))

-- a run over erased bytes of the log is clean
clean_log : (img : List ℕ) (p o : ℕ) (r : List ℕ) → p < length img / 256 → o + length r ≤ 244 → take (length r) (drop o (area_of img p)) ≡ replicate (length r) 255
    → Clean img (program p (12 + o) r)
unfolding part
clean_log img p o r h k b =
    record {
      inside = h;
      within = omega arith;
      blank = ap (take (length r)) (sym (drop-drop o 12 (page_of img p)) ∙ ap (drop o) (sym (area_drop img p h))) ∙ b;
    }

-- a batch that fits ends on the page
pub fits_room : (e n : ℕ) → fits e n ≡ true → e + batch_size n ≤ 244
unfolding fits
fits_room e n h = let k = leb-true (12 + (e + (4 + 8 * n))) 256 h in omega arith

-- every entry is of one of the eight files
abbrev pub Ids : List Entry → Type 0
Ids [] = Unit {0}
Ids (e ∷ es) = (e.file < 8) × Ids es

-- ---- what each store of a list is

-- two lists of stores, and some stores of a list
pub every_append : (Q : Store → Type 0) (l m : List Store) → Every Q l → Every Q m → Every Q (l ++ m)
every_append Q [] m a b = b
every_append Q (s ∷ l) m a b = (a.0, every_append Q l m a.1 b)

-- some stores of a list
pub every_take : (Q : Store → Type 0) (k : ℕ) (l : List Store) → Every Q l → Every Q (take k l)
every_take Q zero l a = tt
every_take Q (suc k) [] a = tt
every_take Q (suc k) (s ∷ l) a = (a.0, every_take Q k l a.1)

-- the store programs behind a metadata header, which stays
abbrev Under : Store → Type 0
Under (erase p) = ⊥
Under (program p off run) = 12 ≤ off

under_meta : (img : List ℕ) (p : ℕ) (l : List Store) → Every Under l → meta_of (page_of (ran img l) p) ≡ meta_of (page_of img p)
under_meta img p l u = ran_keeps (λ i. meta_of (page_of i p) ≡ meta_of (page_of img p)) Under one img l u refl
  where
    one : (i : List ℕ) (s : Store) → Under s → meta_of (page_of i p) ≡ meta_of (page_of img p) → meta_of (page_of (stored i s) p) ≡ meta_of (page_of img p)
    one i (erase q) u h = absurd u
    one i (program q off run) u h = meta_kept i q off run p u ∙ h

-- ---- the stores of a batch, whatever the image

module _ (p e : ℕ) (b : List Entry) where
  -- they are on page p
  pub batch_on : Every (On p) (batch_stores p e b)
  unfolding batch_stores
  batch_on = by b
    where
      by : (b : List Entry) → Every (On p) (batch_stores p e b)
      by [] = tt
      by (x ∷ b) = (refl, (refl, tt))

  -- behind its header
  under : Every Under (batch_stores p e b)
  unfolding batch_stores
  under = by b
    where
      by : (b : List Entry) → Every Under (batch_stores p e b)
      by [] = tt
      by (x ∷ b) = (omega arith, (omega arith, tt))

  -- from byte 12 on
  pub batch_behind : (n : ℕ) → n ≤ 12 → Every (Behind n) (batch_stores p e b)
  unfolding batch_stores
  batch_behind n h = by b
    where
      by : (b : List Entry) → Every (Behind n) (batch_stores p e b)
      by [] = tt
      by (x ∷ b) = (omega arith, (omega arith, tt))

  -- which stays as it was, after some of them too
  pub batch_meta : (img : List ℕ) → meta_of (page_of (ran img (batch_stores p e b)) p) ≡ meta_of (page_of img p)
  batch_meta img = under_meta img p (batch_stores p e b) under

  -- some of the stores
  pub cut_meta : (img : List ℕ) (k : ℕ) → meta_of (page_of (ran img (take k (batch_stores p e b))) p) ≡ meta_of (page_of img p)
  cut_meta img k = under_meta img p (take k (batch_stores p e b)) (every_take Under k (batch_stores p e b) under)

-- ---- a batch appended where the log ends and the rest is erased

module _ (img : List ℕ) (p : ℕ) (inside : p < length img / 256) (es : List Entry) (e : ℕ) (h : log_at img p ≡ ended es e)
    (b : List Entry) (room : fits e (length b) ≡ true) (blank : rest_erased img p e ≡ true) where
  abbrev bs : List ℕ
  bs = area_of img p

  erased : drop e bs ≡ replicate (length bs - e) 255
  unfolding rest_erased
  erased = erased_is (drop e bs) blank ∙ rw length-drop

  fit_in : e + (4 + 8 * length b) ≤ length bs
  fit_in = let l = area_length img p inside in let r = fits_room e (length b) room in omega arith

  area_one : area_of (stored img (entries_store p e b)) p ≡ with_entries bs es e h b fit_in erased
  area_one = let n = length_entries b in let r = fits_room e (length b) room in area_store img p (e + 4) (entries_bytes b) inside (omega arith)

  -- after the entries alone the log reads as before
  one_log : log_at (stored img (entries_store p e b)) p ≡ ended es e
  one_log = ap log_of area_one ∙ log_entries bs es e h b fit_in erased

  -- but the rest is not erased any more, since a file's id is not 0xFF
  one_rest : (x : Entry) (t : List Entry) → b ≡ x ∷ t → x.file < 255 → rest_erased (stored img (entries_store p e b)) p e ≡ false
  unfolding rest_erased
  one_rest x t q k =
      let n : x.file ≡ 255 → ⊥ = λ z. omega arith in
      ap (λ (l : List ℕ). all_erased (drop e l)) area_one
      ∙ ap all_erased (rest_one bs es e h b fit_in erased)
      ∙ rw (q, ne_eqb x.file 255 n)

  area_two : area_of (stored (stored img (entries_store p e b)) (pair_store p e (length b))) p ≡ with_pair bs es e h b fit_in erased
  area_two =
      let r = fits_room e (length b) room in
      area_store (stored img (entries_store p e b)) p e (pair_bytes (length b)) (rw (stored_length img (entries_store p e b)) inside) (omega arith)
      ∙ ap (λ (l : List ℕ). splice l e (pair_bytes (length b))) area_one

  -- once the pair is there the batch follows
  two_log : 1 ≤ length b → length b ≤ 8 → Fit b
      → log_at (stored (stored img (entries_store p e b)) (pair_store p e (length b))) p ≡ ended (es ++ b) (e + batch_size (length b))
  two_log lo hi fit = ap log_of area_two ∙ log_appended bs es e h b fit_in erased lo hi fit

  -- and the rest is erased again
  two_rest : rest_erased (stored (stored img (entries_store p e b)) (pair_store p e (length b))) p (e + batch_size (length b)) ≡ true
  unfolding rest_erased
  two_rest =
      ap (λ (l : List ℕ). all_erased (drop (e + batch_size (length b)) l)) area_two
      ∙ ap all_erased (sym (drop-drop (batch_size (length b)) e (with_pair bs es e h b fit_in erased))
      ∙ ap (drop (batch_size (length b))) (rest_two bs es e h b fit_in erased)
      ∙ rest_behind bs es e h b fit_in erased)
      ∙ is_erased (length bs - e - batch_size (length b))

  two_cleans : Cleans img (entries_store p e b ∷ pair_store p e (length b) ∷ [])
  two_cleans =
      let n = length_entries b in
      let r = fits_room e (length b) room in
      let l = area_length img p inside in
      let one : take (length (entries_bytes b)) (drop (e + 4) bs) ≡ replicate (length (entries_bytes b)) 255 =
      ap (take (length (entries_bytes b))) (sym (drop-drop 4 e bs) ∙ ap (drop 4) erased ∙ drop_replicate 4 (length bs - e) 255)
      ∙ take_replicate (length (entries_bytes b)) (length bs - e - 4) 255 (omega arith) in
      let two : take 4 (drop e (area_of (stored img (entries_store p e b)) p)) ≡ replicate 4 255 =
      ap (λ (l : List ℕ). take 4 (drop e l)) area_one ∙ ap (take 4) (rest_one bs es e h b fit_in erased) in (
        clean_log img p (e + 4) (entries_bytes b) inside (omega arith) one,
        (clean_log (stored img (entries_store p e b)) p e (pair_bytes (length b)) (rw (stored_length img (entries_store p e b)) inside) (omega arith) two, tt),
      )

-- ---- the laws of a batch, with no entries too

module _ (img : List ℕ) (p : ℕ) (inside : p < length img / 256) (es : List Entry) (e : ℕ) (h : log_at img p ≡ ended es e) (blank : rest_erased img p e ≡ true) where
  -- until its last store the log reads as before
  pub cut_log : (b : List Entry) → fits e (length b) ≡ true → (k : ℕ) → k < length (batch_stores p e b) → log_at (ran img (take k (batch_stores p e b))) p ≡ ended es e
  unfolding batch_stores
  cut_log [] room k c = absurd (omega arith)
  cut_log (x ∷ b) room zero c = h
  cut_log (x ∷ b) room (suc zero) c = one_log img p inside es e h (x ∷ b) room blank
  cut_log (x ∷ b) room (suc (suc k)) c = absurd (omega arith)

  -- but after the entries the rest is not erased any more, since a file's id is not 0xFF
  pub cut_rest : (b : List Entry) → fits e (length b) ≡ true → 1 ≤ length b → Ids b → rest_erased (ran img (take 1 (batch_stores p e b))) p e ≡ false
  unfolding batch_stores
  cut_rest [] room some ids = absurd (omega arith)
  cut_rest (x ∷ b) room some ids = one_rest img p inside es e h (x ∷ b) room blank x b refl (omega (arith, ids.0))

  -- after an append it reads as before with the batch behind it
  pub batch_log : (b : List Entry) → fits e (length b) ≡ true → length b ≤ 8 → Fit b → log_at (ran img (batch_stores p e b)) p ≡ ended (es ++ b) (end_after e b)
  unfolding batch_stores
  batch_log [] room hi fit = h ∙ ap (λ (l : List Entry). ended l e) (sym (append-nil es))
  batch_log (x ∷ b) room hi fit = two_log img p inside es e h (x ∷ b) room blank (omega arith) hi fit

  -- the rest is erased
  pub batch_rest : (b : List Entry) → fits e (length b) ≡ true → rest_erased (ran img (batch_stores p e b)) p (end_after e b) ≡ true
  unfolding batch_stores
  batch_rest [] room = blank
  batch_rest (x ∷ b) room = two_rest img p inside es e h (x ∷ b) room blank

  -- and only erased bytes were programmed
  pub batch_cleans : (b : List Entry) → fits e (length b) ≡ true → Cleans img (batch_stores p e b)
  unfolding batch_stores
  batch_cleans [] room = tt
  batch_cleans (x ∷ b) room = two_cleans img p inside es e h (x ∷ b) room blank

-- its bytes are bytes
bytes_entries : (b : List Entry) → Fit b → Bytes (entries_bytes b)
bytes_entries [] f = tt
bytes_entries (x ∷ b) f =
    (f.0, (f.1, (omega arith, (omega arith, (omega arith, (omega arith, (omega arith, (omega arith, bytes_entries b f.4))))))))

-- a batch stores bytes
pub batch_bytes : (p e : ℕ) (b : List Entry) → Fit b → Every OfBytes (batch_stores p e b)
unfolding batch_stores
batch_bytes p e [] f = tt
batch_bytes p e (x ∷ b) f = (bytes_entries (x ∷ b) f, ((omega arith, (omega arith, (omega arith, (omega arith, tt)))), tt))

-- ---- a new metadata page

-- up to eight entries fit on a new one
pub fits_new : (n : ℕ) → n ≤ 8 → fits 0 n ≡ true
unfolding fits
fits_new n h = let k : 12 + (0 + (4 + 8 * n)) ≤ 256 = omega arith in le-leb _ _ k

module _ (img : List ℕ) (p : ℕ) (m : MetaHeader) (b : List Entry) where
  -- its stores are on page p, and of bytes
  pub new_on : Every (On p) (new_meta_stores p m b)
  unfolding new_meta_stores
  new_on = (refl, every_append (On p) (batch_stores p 0 b) (meta_store p m ∷ []) (batch_on p 0 b) (refl, tt))

  -- of bytes
  pub new_bytes : Fit b → Every OfBytes (new_meta_stores p m b)
  unfolding new_meta_stores
  new_bytes f =
      (bytes_replicate 256 255 (omega arith), every_append OfBytes (batch_stores p 0 b) (meta_store p m ∷ []) (batch_bytes p 0 b f) (bytes_meta m, tt))

  -- until its header is there the page does not read, neither as metadata nor as data
  module _ (k : ℕ) (some : 1 ≤ k) (part : k < length (new_meta_stores p m b)) where
    prefix : take k (new_meta_stores p m b) ≡ erase p ∷ take (k - 1) (batch_stores p 0 b)
    unfolding new_meta_stores
    prefix =
        let l = batch_stores p 0 b in
        let n : length (new_meta_stores p m b) ≡ suc (length (batch_stores p 0 b) + 1) = ap suc (length-append (batch_stores p 0 b) (meta_store p m ∷ [])) in
        let q : k ≡ suc (k - 1) = omega arith in
        ap (λ (i : ℕ). take i (new_meta_stores p m b)) q
        ∙ ap (λ (t : List Store). erase p ∷ t) (take-append-le (k - 1) l (meta_store p m ∷ []) (omega arith))

    -- no metadata
    pub new_missing : meta_of (page_of (ran img (take k (new_meta_stores p m b))) p) ≡ None
    new_missing =
        ap (λ (l : List Store). meta_of (page_of (ran img l) p)) prefix
        ∙ blank_meta img p (take (k - 1) (batch_stores p 0 b)) (every_take (Behind 4) (k - 1) (batch_stores p 0 b) (batch_behind p 0 b 4 (omega arith)))

    -- no data
    pub new_unread : header_of (page_of (ran img (take k (new_meta_stores p m b))) p) ≡ unreadable
    new_unread =
        ap (λ (l : List Store). header_of (page_of (ran img l) p)) prefix
        ∙ blank_header img p (take (k - 1) (batch_stores p 0 b)) (every_take (Behind 4) (k - 1) (batch_stores p 0 b) (batch_behind p 0 b 4 (omega arith)))

  module _ (inside : p < length img / 256) (few : length b ≤ 8) where
    abbrev blanked : List ℕ
    blanked = stored img (erase p)

    abbrev filled : List ℕ
    filled = ran (stored img (erase p)) (batch_stores p 0 b)

    inside_one : p < length blanked / 256
    inside_one = rw (stored_length img (erase p)) inside

    inside_two : p < length filled / 256
    inside_two = rw (ran_length blanked (batch_stores p 0 b)) inside_one

    log_one : log_at blanked p ≡ ended [] 0
    log_one = ap log_of (area_blank img p inside) ∙ log_erased 244

    rest_one' : rest_erased blanked p 0 ≡ true
    unfolding rest_erased
    rest_one' = ap all_erased (area_blank img p inside)

    image : ran img (new_meta_stores p m b) ≡ stored filled (meta_store p m)
    unfolding new_meta_stores
    image = ran_append blanked (batch_stores p 0 b) (meta_store p m ∷ [])

    area : area_of (ran img (new_meta_stores p m b)) p ≡ area_of filled p
    area = ap (λ (i : List ℕ). area_of i p) image ∙ area_header filled p m

    -- then it reads as metadata
    pub new_meta : Fits m → meta_of (page_of (ran img (new_meta_stores p m b)) p) ≡ Some m
    new_meta w = ap (λ (i : List ℕ). meta_of (page_of i p)) image ∙ meta_stored filled p m inside_two w

    -- with exactly these entries
    pub new_log : Fit b → log_at (ran img (new_meta_stores p m b)) p ≡ ended b (end_after 0 b)
    new_log f = ap log_of area ∙ batch_log blanked p inside_one [] 0 log_one rest_one' b (fits_new (length b) few) few f

    -- and the rest all 0xFF
    pub new_rest : rest_erased (ran img (new_meta_stores p m b)) p (end_after 0 b) ≡ true
    unfolding rest_erased
    new_rest =
        ap (λ (l : List ℕ). all_erased (drop (end_after 0 b) l)) area
        ∙ batch_rest blanked p inside_one [] 0 log_one rest_one' b (fits_new (length b) few)

    -- the stores are clean on any image that has the page
    pub new_cleans : Cleans img (new_meta_stores p m b)
    unfolding new_meta_stores
    new_cleans = (
      inside,
      cleans_append blanked (batch_stores p 0 b) (meta_store p m ∷ [])
          (batch_cleans blanked p inside_one [] 0 log_one rest_one' b (fits_new (length b) few))
          (meta_clean_after img p (batch_stores p 0 b) m inside (batch_behind p 0 b 12 (omega arith)), tt),
    )
