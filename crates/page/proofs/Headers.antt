-- What a page's bytes read as: which fields, which bounds, and that the two kinds of page tell themselves apart.
-- Assumes nothing.
use Prim.Native.Nat.{ℕ, zero, suc, ◌+◌, ◌-◌, ◌*◌, ◌/◌, ◌%◌, ◌≤◌, ◌<◌}
use mathlib.Core.Path.{◌≡◌, refl, sym, ap, ◌∙◌, subst}
use mathlib.Core.List.{List, [], ◌∷◌, ◌++◌}
use mathlib.Core.Bool.{true, false, ◌&&◌, and-false, and-eq-true_iff}
use native.Mathlib.Omega.{arith}
use native.Mathlib.Nat.{not-suc-le-zero, le_of_suc-le-suc}
use native.Mathlib.Numerals.{add-one}
use lib.ListN.{length, take, get_or, replicate}
use borrow.Rule.Slice.PartMut.{put_mid}
use lib.Dec.{eqb, leb, ltb, lit<}
use borrow.Author.Tests.{eq-eqb, ne_eqb, le-leb, lt-ltb, eqb-true, leb-true, ltb-true}
use Rattle.runs.specs.Runs.{part, le16, le32, by16}
use Rattle.runs.proofs.Laws.{cond_by, length_part, tab, tab_ext, tab_drop, val16, val32, le16_take, le32_take}
use Rattle.page.specs.declared.DataHeader.{DataHeader}
use Rattle.page.specs.declared.BackRead.{BackRead}
use Rattle.page.specs.declared.MetaHeader.{MetaHeader}
use Rattle.std.specs.Prelude.{Option, Some, None}
use Rattle.page.specs.Page.{data_magic, meta_magic, begins, pair_reads, fields, fields_of, page_of, Read, readable, unreadable, gives, gives_back, header_of, meta_of, holds, payload_by, payload_of, pairs, header_bytes, meta_bytes, Bytes, Written, Fits}
use Rattle.page.proofs.Laws.{page_there, Front, bytes_at}

-- ---- by the tests

module _ (pg : List ℕ) where
  -- 256 bytes with the magic in front begin with it, and only they
  pub begins_by : (m : ℕ) → length pg ≡ 256 → le32 pg 0 ≡ m → begins pg m ≡ true
  unfolding begins
  begins_by m e f = rw (eq-eqb _ _ e, eq-eqb _ _ f)

  pub begins_length : (m : ℕ) → begins pg m ≡ true → length pg ≡ 256
  unfolding begins
  begins_length m h = eqb-true _ _ ((and-eq-true_iff (eqb (length pg) 256) (eqb (le32 pg 0) m)).0 h).0

  pub begins_magic : (m : ℕ) → begins pg m ≡ true → le32 pg 0 ≡ m
  unfolding begins
  begins_magic m h = eqb-true _ _ ((and-eq-true_iff (eqb (length pg) 256) (eqb (le32 pg 0) m)).0 h).1

  -- another number stands where the magic is asked for
  pub begins_not : (m : ℕ) → (le32 pg 0 ≡ m → ⊥) → begins pg m ≡ false
  unfolding begins
  begins_not m n = rw (ne_eqb _ _ n, and-false)

  -- both tests of a header hold, or the first does not
  pub header_reads : begins pg data_magic ≡ true → pair_reads pg ≡ true → header_of pg ≡ readable (fields_of pg)
  unfolding header_of
  header_reads b q = rw (b, q)

  pub header_begins : begins pg data_magic ≡ false → header_of pg ≡ unreadable
  unfolding header_of
  header_begins b = rw b

  -- the one test of a metadata header
  pub meta_reads : begins pg meta_magic ≡ true → meta_of pg ≡ Some (record { page_count = le32 pg 4; seq = le32 pg 8 })
  unfolding meta_of
  meta_reads b = rw b

  pub meta_missing : begins pg meta_magic ≡ false → meta_of pg ≡ None
  unfolding meta_of
  meta_missing b = rw b

-- ---- what reading tells

-- a header that reads: the tests held, and these are its fields
pub record Reads (pg : List ℕ) (h : DataHeader) : Type 0 where
  pub begin : begins pg data_magic ≡ true
  pub pair : pair_reads pg ≡ true
  pub is : fields_of pg ≡ h

pub header_read : (pg : List ℕ) (h : DataHeader) → header_of pg ≡ readable h → Reads pg h
unfolding header_of
header_read pg h e =
    cond_by (begins pg data_magic && pair_reads pg) (readable (fields_of pg)) unreadable (readable h) e
    (λ t q. let a = (and-eq-true_iff (begins pg data_magic) (pair_reads pg)).0 t in record { begin = a.0; pair = a.1; is = cc })
    (λ t q. let z : ◌≡◌ {A = ℕ} 0 1 = cc in absurd (omega arith))

-- a metadata header that reads: the same
pub record MetaReads (pg : List ℕ) (m : MetaHeader) : Type 0 where
  pub begin : begins pg meta_magic ≡ true
  pub count : le32 pg 4 ≡ m.page_count
  pub seq : le32 pg 8 ≡ m.seq

pub meta_read : (pg : List ℕ) (m : MetaHeader) → meta_of pg ≡ Some m → MetaReads pg m
unfolding meta_of
meta_read pg m e =
    cond_by (begins pg meta_magic) (Some (record { page_count = le32 pg 4; seq = le32 pg 8 })) None (Some m) e
    (λ t q. let r : ◌≡◌ {A = MetaHeader} (record { page_count = le32 pg 4; seq = le32 pg 8 }) m = cc in
    record { begin = t; count = ap (λ (x : MetaHeader). x.page_count) r; seq = ap (λ (x : MetaHeader). x.seq) r })
    (λ t q. let z : ◌≡◌ {A = ℕ} 0 1 = cc in absurd (omega arith))

-- what the code's answer tells
pub given_read : (r : Option DataHeader) (x : Read) (h : DataHeader) → r ≡ gives x → r ≡ Some h → x ≡ readable h
unfolding gives
given_read r unreadable h e t = cc
given_read r (readable k) h e t = cc

pub given_none : (r : Option DataHeader) (x : Read) → r ≡ gives x → r ≡ None → x ≡ unreadable
unfolding gives
given_none r unreadable e t = refl
given_none r (readable k) e t = cc

-- and what a step back asks of it
pub back_read : (r : Option BackRead) (x : Read) (b : BackRead) → r ≡ gives_back x → r ≡ Some b
    → (h : DataHeader) × (x ≡ readable h) × (b ≡ record { seq = h.seq; link = get_or h.skiplist 0 0 })
unfolding gives_back
back_read r unreadable b e t = cc
back_read r (readable h) b e t = (h, refl, cc)

pub back_none : (r : Option BackRead) (x : Read) → r ≡ gives_back x → r ≡ None → x ≡ unreadable
unfolding gives_back
back_none r unreadable e t = refl
back_none r (readable h) e t = cc

-- the pair's two bounds, whatever the page
pub pair_bounds : (pg : List ℕ) → pair_reads pg ≡ true → (1 ≤ le16 pg 28) × (le16 pg 28 ≤ 224)
unfolding pair_reads
pair_bounds pg h =
    let n = le16 pg 28 in
    let a = (and-eq-true_iff (eqb (le16 pg 30) (65535 - n) && leb 1 n) (leb n 224)).0 h in
    let b = (and-eq-true_iff (eqb (le16 pg 30) (65535 - n)) (leb 1 n)).0 a.0 in
    (leb-true _ _ b.1, leb-true _ _ a.1)

-- a header that reads has a length of 1 to 224
pub header_bounds : (pg : List ℕ) (h : DataHeader) → header_of pg ≡ readable h → (1 ≤ h.length) × (h.length ≤ 224)
unfolding fields_of
header_bounds pg h e =
    let r = header_read pg h e in
    subst (λ (x : DataHeader). (1 ≤ x.length) × (x.length ≤ 224)) r.is (pair_bounds pg r.pair)

-- a header of either kind that reads stands on a page of the image
pub header_there : (img : List ℕ) (p : ℕ) (h : DataHeader) → header_of (page_of img p) ≡ readable h → p < length img / 256
header_there img p h e =
    let l = begins_length (page_of img p) data_magic (header_read (page_of img p) h e).begin in
    page_there img p (omega arith)

pub meta_there : (img : List ℕ) (p : ℕ) (m : MetaHeader) → meta_of (page_of img p) ≡ Some m → p < length img / 256
meta_there img p m e =
    let l = begins_length (page_of img p) meta_magic (meta_read (page_of img p) m e).begin in
    page_there img p (omega arith)

-- ---- bounds of the fields, of bytes

module _ (l : List ℕ) (b : Bytes l) where
  -- a field of bytes fits its type
  pub le16_fits : (at : ℕ) → le16 l at < 65536
  unfolding le16
  le16_fits at = omega (arith, bytes_at l b at, bytes_at l b (at + 1))

  pub le32_fits : (at : ℕ) → le32 l at < 4294967296
  unfolding le32
  le32_fits at = omega (arith, le16_fits at, le16_fits (at + 2))

  fields_fit : (at n i : ℕ) → get_or (fields l at n) i 0 < 65536
  fields_fit at zero i = omega arith
  fields_fit at (suc n) zero = le16_fits at
  fields_fit at (suc n) (suc i) = fields_fit (at + 2) n i

  -- a header read from bytes can be written
  pub header_written : (h : DataHeader) → header_of l ≡ readable h → Written h
  unfolding fields_of
  header_written h e =
      let r = header_read l h e in
      let q = pair_bounds l r.pair in
      subst Written r.is
      (record { seq = le32_fits 4; nine = refl; links = fields_fit 8 9; boundary = le16_fits 26; low = q.0; high = q.1 })

  -- and so can a metadata header
  pub meta_fits : (m : MetaHeader) → meta_of l ≡ Some m → Fits m
  meta_fits m e =
      let r = meta_read l m e in
      record { count = rw r.count at (le32_fits 4); seq = rw r.seq at (le32_fits 8) }

-- ---- the two kinds of page tell themselves apart

-- no page begins with two magics
pub begins_other : (pg : List ℕ) (m n : ℕ) → begins pg m ≡ true → (m ≡ n → ⊥) → begins pg n ≡ false
begins_other pg m n h d = begins_not pg n (λ e. d (sym (begins_magic pg m h) ∙ e))

-- a page with a metadata header has no data header
pub meta_no_header : (pg : List ℕ) (m : MetaHeader) → meta_of pg ≡ Some m → header_of pg ≡ unreadable
meta_no_header pg m e = header_begins pg (begins_other pg meta_magic data_magic (meta_read pg m e).begin (λ z. omega arith))

-- and the other way round
pub header_no_meta : (pg : List ℕ) (h : DataHeader) → header_of pg ≡ readable h → meta_of pg ≡ None
header_no_meta pg h e = meta_missing pg (begins_other pg data_magic meta_magic (header_read pg h e).begin (λ z. omega arith))

-- ---- an erased front, and no page, read as neither

bare_begins : (pg : List ℕ) (m : ℕ) → (4294967295 ≡ m → ⊥) → Front 4 pg → begins pg m ≡ false
unfolding le32 le16
bare_begins pg m d f =
    let e : le32 pg 0 ≡ 4294967295 = sym (le32_take 4 pg 0 (lit< tt)) ∙ ap (λ (l : List ℕ). le32 l 0) f in
    begins_not pg m (λ z. d (sym e ∙ z))

-- four erased bytes in front are no header's
pub bare_header : (pg : List ℕ) → Front 4 pg → header_of pg ≡ unreadable
bare_header pg f = header_begins pg (bare_begins pg data_magic (λ z. omega arith) f)

pub bare_meta : (pg : List ℕ) → Front 4 pg → meta_of pg ≡ None
bare_meta pg f = meta_missing pg (bare_begins pg meta_magic (λ z. omega arith) f)

none_begins : (m : ℕ) → begins [] m ≡ false
unfolding begins
none_begins m = refl

-- nor is a page that is not there
pub none_header : header_of [] ≡ unreadable
none_header = header_begins [] (none_begins data_magic)

pub none_meta : meta_of [] ≡ None
none_meta = meta_missing [] (none_begins meta_magic)

-- ---- a header is in a page's first bytes

module _ (n : ℕ) (pg pg' : List ℕ) (t : take n pg' ≡ take n pg) where
  le16_same : (at : ℕ) → at + 1 < n → le16 pg' at ≡ le16 pg at
  le16_same at h = sym (le16_take n pg' at h) ∙ ap (λ (x : List ℕ). le16 x at) t ∙ le16_take n pg at h

  le32_same : (at : ℕ) → at + 3 < n → le32 pg' at ≡ le32 pg at
  le32_same at h = sym (le32_take n pg' at h) ∙ ap (λ (x : List ℕ). le32 x at) t ∙ le32_take n pg at h

  fields_same : (at k : ℕ) → at + 2 * k < n → fields pg' at k ≡ fields pg at k
  fields_same at zero h = refl
  fields_same at (suc k) h =
      let a : at + 1 < n = omega arith in
      let b : at + 2 + 2 * k < n = omega arith in
      rw (le16_same at a, fields_same (at + 2) k b)

-- a data header in the first thirty-two
pub header_take : (pg pg' : List ℕ) → length pg' ≡ length pg → take 32 pg' ≡ take 32 pg → header_of pg' ≡ header_of pg
unfolding header_of begins pair_reads fields_of
header_take pg pg' l t =
    let f = le32_same 32 pg pg' t in
    let g = le16_same 32 pg pg' t in
    rw (l, f 0 (lit< tt), f 4 (lit< tt), fields_same 32 pg pg' t 8 9 (lit< tt), g 26 (lit< tt), g 28 (lit< tt), g 30 (lit< tt))

-- a metadata header in the first twelve
pub meta_take : (pg pg' : List ℕ) → length pg' ≡ length pg → take 12 pg' ≡ take 12 pg → meta_of pg' ≡ meta_of pg
unfolding meta_of begins
meta_take pg pg' l t =
    let f = le32_same 12 pg pg' t in
    rw (l, f 0 (lit< tt), f 4 (lit< tt), f 8 (lit< tt))

-- ---- links as bytes

-- one more of them, over two bytes that stood behind those before it
pairs_more : (l z : List ℕ) (i : ℕ) → i < length l → put_mid (2 * i) 2 (pairs (take i l) ++ (0 ∷ 0 ∷ z)) (by16 (get_or l i 0) []) ≡ pairs (take (suc i) l) ++ z
pairs_more [] z i h = absurd (not-suc-le-zero h)
pairs_more (x ∷ l) z zero h = refl
pairs_more (x ∷ l) z (suc i) h =
    let e : 2 * suc i ≡ suc (suc (2 * i)) = omega arith in
    rw e (ap (by16 x) (pairs_more l z i (le_of_suc-le-suc h)))

-- as a loop over nine of them writes it
pub pairs_step : (l : List ℕ) (i : ℕ) → length l ≡ 9 → i < 9
    → put_mid (2 * i) 2 (pairs (take i l) ++ replicate (18 - 2 * i) 0) (by16 (get_or l i 0) []) ≡ pairs (take (i + 1) l) ++ replicate (18 - 2 * (i + 1)) 0
pairs_step l i n h =
    let e : 18 - 2 * i ≡ suc (suc (18 - 2 * (i + 1))) = omega arith in
    rw (e, add-one) (pairs_more l (replicate (18 - 2 * suc i) 0) i (omega arith))

-- all nine, each by its place
pub pairs_nine : (l : List ℕ) → length l ≡ 9 → pairs l ≡ pairs (tab (λ i. get_or l i 0) 0 9)
pairs_nine l n = ap pairs (sym (tab_drop l 0 9 (sym n)))

-- ---- a header's bytes read back

module _ (h : DataHeader) (w : Written h) (rest : List ℕ) (e : length rest ≡ 224) where
  length_header : length (header_bytes h ++ rest) ≡ 256
  unfolding header_bytes
  length_header = omega arith

  links_back : fields (header_bytes h ++ rest) 8 9 ≡ h.skiplist
  unfolding header_bytes le16
  links_back =
      let l = w.nine in
      tab_ext (λ i. get_or h.skiplist i 0 % 256 + get_or h.skiplist i 0 / 256 % 256 * 256) (λ i. get_or h.skiplist i 0)
      (λ i. val16 (get_or h.skiplist i 0) (w.links i)) 0 9
      ∙ tab_drop h.skiplist 0 9 (omega arith)

  fields_back : fields_of (header_bytes h ++ rest) ≡ h
  unfolding fields_of header_bytes le16 le32
  fields_back =
      let n : h.length < 65536 = omega (arith, w.high) in
      rw (val32 h.seq w.seq, links_back, val16 h.record_boundary w.boundary, val16 h.length n)

  pair_back : pair_reads (header_bytes h ++ rest) ≡ true
  unfolding pair_reads header_bytes le16
  pair_back =
      let n : h.length < 65536 = omega (arith, w.high) in
      let k : 65535 - h.length < 65536 = omega arith in
      rw (val16 h.length n, val16 (65535 - h.length) k, eq-eqb (65535 - h.length) (65535 - h.length) refl, le-leb _ _ w.low, le-leb _ _ w.high)

  -- a header that can be written is read from its bytes, whatever stands behind them
  pub header_back : header_of (header_bytes h ++ rest) ≡ readable h
  unfolding header_bytes le16 le32
  header_back = header_reads (header_bytes h ++ rest) (begins_by (header_bytes h ++ rest) data_magic length_header refl) pair_back ∙ ap readable fields_back

-- a metadata header is read from its bytes
pub meta_back : (m : MetaHeader) → Fits m → (rest : List ℕ) → length rest ≡ 244 → meta_of (meta_bytes m ++ rest) ≡ Some m
unfolding meta_bytes le16 le32
meta_back m w rest e =
    let l : length (meta_bytes m ++ rest) ≡ 256 = omega arith in
    meta_reads (meta_bytes m ++ rest) (begins_by (meta_bytes m ++ rest) meta_magic l refl)
    ∙ rw (val32 m.page_count w.count, val32 m.seq w.seq)

-- ---- numbers and payload

-- a page holds n exactly if seq ≤ n < seq + length
pub holds_in : (h : DataHeader) (n : ℕ) → h.seq ≤ n → n < h.seq + h.length → holds h n ≡ true
unfolding holds
holds_in h n a b = rw (le-leb _ _ a, lt-ltb _ _ b)

pub holds_bounds : (h : DataHeader) (n : ℕ) → holds h n ≡ true → (h.seq ≤ n) × (n < h.seq + h.length)
unfolding holds
holds_bounds h n e =
    let a = (and-eq-true_iff (leb h.seq n) (ltb n (h.seq + h.length))).0 e in
    (leb-true _ _ a.0, ltb-true _ _ a.1)

-- the payload of a page whose header reads, and its length
pub payload_part : (pg : List ℕ) (h : DataHeader) → header_of pg ≡ readable h → payload_of pg ≡ part pg 32 h.length
unfolding payload_of payload_by
payload_part pg h e = ap (λ (r : Read). payload_by r pg) e

pub payload_none : (pg : List ℕ) → header_of pg ≡ unreadable → payload_of pg ≡ []
unfolding payload_of payload_by
payload_none pg e = ap (λ (r : Read). payload_by r pg) e

pub payload_length : (pg : List ℕ) (h : DataHeader) → header_of pg ≡ readable h → length (payload_of pg) ≡ h.length
payload_length pg h e =
    let b = header_bounds pg h e in
    let l = begins_length pg data_magic (header_read pg h e).begin in
    ap length (payload_part pg h e) ∙ length_part pg 32 h.length (omega arith)
