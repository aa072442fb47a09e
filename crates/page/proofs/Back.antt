-- What was stored reads back, and which stores are clean. A stored data page is its header's bytes, the payload and 0xFF.
-- Assumes nothing.
use Prim.Native.Nat.{ℕ, ◌+◌, ◌-◌, ◌/◌, ◌≤◌, ◌<◌}
use mathlib.Core.Path.{◌≡◌, refl, ap, ◌∙◌}
use mathlib.Core.List.{List, [], ◌∷◌, ◌++◌}
use native.Mathlib.Omega.{arith}
use borrow.Author.Rules.{rules}
use lib.ListN.{length, take, drop, replicate, length-append, length-drop, length-replicate}
use lib.Seq.{take-append_seam, drop_at}
use Rattle.runs.specs.Runs.{part, splice}
use Rattle.runs.proofs.Laws.{drop_replicate}
use Rattle.page.specs.declared.DataHeader.{DataHeader}
use Rattle.page.specs.declared.MetaHeader.{MetaHeader}
use Rattle.std.specs.Prelude.{Some, None}
use Rattle.page.specs.Page.{page_of, readable, unreadable, header_of, meta_of, payload_of, header_bytes, meta_bytes, Bytes, Written, Fits}
use Rattle.page.specs.Store.{Store, erase, program, stored, ran, data_stores, meta_store, Clean, Cleans}
use Rattle.page.proofs.Laws.{split, page_length, page_none, stored_length, ran_length, same_page, erased_page, Every, On, others, Front, Behind, part_replicate, page_kept, take_kept, front_less, front_erased, front_stored, front_ran, bytes_replicate, OfBytes}
use Rattle.page.proofs.Headers.{bare_header, bare_meta, none_header, none_meta, header_take, header_back, header_no_meta, meta_take, meta_back, payload_part}

-- ---- lengths and bytes of headers

-- a header has 32 bytes, a metadata header 12
pub length_header_bytes : (h : DataHeader) → length (header_bytes h) ≡ 32
unfolding header_bytes
length_header_bytes h = refl

pub length_meta_bytes : (m : MetaHeader) → length (meta_bytes m) ≡ 12
unfolding meta_bytes
length_meta_bytes m = refl

-- each of them a byte
pub bytes_header : (h : DataHeader) → Bytes (header_bytes h)
unfolding header_bytes
bytes_header h = search rules

pub bytes_meta : (m : MetaHeader) → Bytes (meta_bytes m)
unfolding meta_bytes
bytes_meta m = search rules

-- ---- a header stays where a run is programmed behind it

module _ (img : List ℕ) (p off : ℕ) (run : List ℕ) (q : ℕ) where
  -- a data header behind byte 32, a metadata header behind byte 12
  pub header_kept : 32 ≤ off → header_of (page_of (stored img (program p off run)) q) ≡ header_of (page_of img q)
  header_kept h = header_take _ _ (page_kept img (program p off run) q) (take_kept img p off run q 32 h)

  pub meta_kept : 12 ≤ off → meta_of (page_of (stored img (program p off run)) q) ≡ meta_of (page_of img q)
  meta_kept h = meta_take _ _ (page_kept img (program p off run) q) (take_kept img p off run q 12 h)

-- ---- an erased page reads as neither kind, and so does one whose header is not stored yet

-- after an erase and stores from byte 4 on, whether the image has the page or not
module _ (img : List ℕ) (p : ℕ) (l : List Store) (b : Every (Behind 4) l) where
  bare_by : (P : List ℕ → Type 0) → P [] → ((pg : List ℕ) → Front 4 pg → P pg) → P (page_of (ran (stored img (erase p)) l) p)
  bare_by P none front =
      split (length img / 256) p
      (λ h. let e : length (ran (stored img (erase p)) l) ≡ length img = ran_length (stored img (erase p)) l ∙ stored_length img (erase p) in
      let k : length (ran (stored img (erase p)) l) / 256 ≤ p = rw e h in
      rw (page_none (ran (stored img (erase p)) l) p k) none)
      (λ h. front (page_of (ran (stored img (erase p)) l) p) (front_ran 4 (stored img (erase p)) p l (omega arith) b (front_erased 4 img p (omega arith) h)))

  -- neither kind reads
  pub blank_header : header_of (page_of (ran (stored img (erase p)) l) p) ≡ unreadable
  blank_header = bare_by (λ pg. header_of pg ≡ unreadable) none_header bare_header

  pub blank_meta : meta_of (page_of (ran (stored img (erase p)) l) p) ≡ None
  blank_meta = bare_by (λ pg. meta_of pg ≡ None) none_meta bare_meta

-- right after the erase
pub erased_header : (img : List ℕ) (p : ℕ) → header_of (page_of (stored img (erase p)) p) ≡ unreadable
erased_header img p = blank_header img p [] tt

pub erased_meta : (img : List ℕ) (p : ℕ) → meta_of (page_of (stored img (erase p)) p) ≡ None
erased_meta img p = blank_meta img p [] tt

module _ (img : List ℕ) (p : ℕ) (pay : List ℕ) where
  -- and with a payload and no header
  pub payload_header : header_of (page_of (ran img (erase p ∷ program p 32 pay ∷ [])) p) ≡ unreadable
  payload_header = blank_header img p (program p 32 pay ∷ []) (omega arith, tt)

  pub payload_meta : meta_of (page_of (ran img (erase p ∷ program p 32 pay ∷ [])) p) ≡ None
  payload_meta = blank_meta img p (program p 32 pay ∷ []) (omega arith, tt)

  -- so a data page that is stored reads only once its last store is made
  pub header_last : (h : DataHeader) → header_of (page_of (ran img (take 2 (data_stores p h pay))) p) ≡ unreadable
  header_last h = payload_header

-- ---- a stored data page

module _ (img : List ℕ) (p : ℕ) (pay : List ℕ) (inside : p < length img / 256) (few : length pay ≤ 224) where
  -- after the erase and the payload
  pub payload_page : page_of (ran img (erase p ∷ program p 32 pay ∷ [])) p ≡ replicate 32 255 ++ (pay ++ replicate (224 - length pay) 255)
  unfolding splice
  payload_page =
      let n : 256 - (32 + length pay) ≡ 224 - length pay = omega arith in
      same_page (stored img (erase p)) (program p 32 pay) (rw (stored_length img (erase p)) inside) (omega arith)
      ∙ rw (erased_page img p inside, drop_replicate (32 + length pay) 256 255, n)

  -- and after the header
  pub data_page : (h : DataHeader) → page_of (ran img (data_stores p h pay)) p ≡ header_bytes h ++ (pay ++ replicate (224 - length pay) 255)
  unfolding splice header_bytes
  data_page h =
      same_page (ran img (erase p ∷ program p 32 pay ∷ [])) (program p 0 (header_bytes h))
      (rw (ran_length img (erase p ∷ program p 32 pay ∷ [])) inside) (omega arith)
      ∙ rw payload_page

  length_rest : length (pay ++ replicate (224 - length pay) 255) ≡ 224
  length_rest = simp (length-append, length-replicate) (omega arith)

  -- the header reads back
  pub data_header : (h : DataHeader) → Written h → header_of (page_of (ran img (data_stores p h pay)) p) ≡ readable h
  data_header h w = rw (data_page h) (header_back h w (pay ++ replicate (224 - length pay) 255) length_rest)

  -- and no metadata header does
  pub data_no_meta : (h : DataHeader) → Written h → meta_of (page_of (ran img (data_stores p h pay)) p) ≡ None
  data_no_meta h w = header_no_meta (page_of (ran img (data_stores p h pay)) p) h (data_header h w)

  -- the payload's bytes read back
  pub data_part : (h : DataHeader) → part (page_of (ran img (data_stores p h pay)) p) 32 (length pay) ≡ pay
  unfolding part header_bytes
  data_part h = rw (data_page h) (take-append_seam pay (replicate (224 - length pay) 255))

  -- and as the page's payload, where the header's length is its length
  pub data_payload : (h : DataHeader) → Written h → h.length ≡ length pay → payload_of (page_of (ran img (data_stores p h pay)) p) ≡ pay
  data_payload h w e =
      let pg = page_of (ran img (data_stores p h pay)) p in
      payload_part pg h (data_header h w) ∙ ap (part pg 32) e ∙ data_part h

-- the stores of a data page are on it, and of bytes where its payload is
pub data_on : (p : ℕ) (h : DataHeader) (pay : List ℕ) → Every (On p) (data_stores p h pay)
data_on p h pay = (refl, (refl, (refl, tt)))

pub data_bytes : (p : ℕ) (h : DataHeader) (pay : List ℕ) → Bytes pay → Every OfBytes (data_stores p h pay)
data_bytes p h pay b = (bytes_replicate 256 255 (omega arith), (b, (bytes_header h, tt)))

-- so every other page is as it was
pub data_others : (img : List ℕ) (p : ℕ) (h : DataHeader) (pay : List ℕ) (q : ℕ) → (q ≡ p → ⊥) → page_of (ran img (data_stores p h pay)) q ≡ page_of img q
data_others img p h pay = others img p (data_stores p h pay) (data_on p h pay)

-- ---- a stored metadata header

module _ (img : List ℕ) (p : ℕ) (m : MetaHeader) (inside : p < length img / 256) where
  -- its twelve bytes, and the rest of the page as it was
  pub meta_page_lem : page_of (stored img (meta_store p m)) p ≡ meta_bytes m ++ drop 12 (page_of img p)
  unfolding meta_bytes splice
  meta_page_lem = same_page img (meta_store p m) inside (omega arith)

  pub meta_rest : drop 12 (page_of (stored img (meta_store p m)) p) ≡ drop 12 (page_of img p)
  meta_rest = rw meta_page_lem (drop_at (meta_bytes m) (drop 12 (page_of img p)) 12 (length_meta_bytes m))

  -- it reads back
  pub meta_stored : Fits m → meta_of (page_of (stored img (meta_store p m)) p) ≡ Some m
  meta_stored w =
      let n = page_length img p inside in
      let e : length (drop 12 (page_of img p)) ≡ 244 = simp length-drop (omega arith) in
      rw meta_page_lem (meta_back m w (drop 12 (page_of img p)) e)

-- ---- clean stores

-- a run at the page's start is clean where the front is erased
pub clean_front : (n : ℕ) (img : List ℕ) (p : ℕ) (run : List ℕ) → p < length img / 256 → length run ≤ n → n ≤ 256 → Front n (page_of img p) → Clean img (program p 0 run)
unfolding part
clean_front n img p run i h k f = record { inside = i; within = omega arith; blank = front_less (length run) n (page_of img p) h f }

-- a data page's stores are clean on any image that has the page
pub data_cleans : (img : List ℕ) (p : ℕ) (h : DataHeader) (pay : List ℕ) → p < length img / 256 → length pay ≤ 224 → Cleans img (data_stores p h pay)
data_cleans img p h pay i few =
    let img₁ = stored img (erase p) in
    let i₁ : p < length (stored img (erase p)) / 256 = rw (stored_length img (erase p)) i in
    let i₂ : p < length (stored (stored img (erase p)) (program p 32 pay)) / 256 = rw (stored_length (stored img (erase p)) (program p 32 pay)) i₁ in
    let b : part (page_of (stored img (erase p)) p) 32 (length pay) ≡ replicate (length pay) 255 =
    rw (erased_page img p i) (part_replicate 256 255 32 (length pay) (omega arith)) in
    let f = front_stored 32 img₁ p (program p 32 pay) (omega arith) (omega arith) (front_erased 32 img p (omega arith) i) in (
      i,
      (
        record { inside = i₁; within = omega arith; blank = b },
        (clean_front 32 (stored img₁ (program p 32 pay)) p (header_bytes h) i₂ (omega (arith, length_header_bytes h)) (omega arith) f, tt),
      ),
    )

-- a metadata header's store is clean where the page's first twelve bytes are erased
pub meta_clean : (img : List ℕ) (p : ℕ) (m : MetaHeader) → p < length img / 256 → Front 12 (page_of img p) → Clean img (meta_store p m)
meta_clean img p m i f = clean_front 12 img p (meta_bytes m) i (omega (arith, length_meta_bytes m)) (omega arith) f

-- as they are after an erase and stores from byte 12 on
pub meta_clean_after : (img : List ℕ) (p : ℕ) (l : List Store) (m : MetaHeader) → p < length img / 256 → Every (Behind 12) l → Clean (ran (stored img (erase p)) l) (meta_store p m)
meta_clean_after img p l m i b =
    meta_clean (ran (stored img (erase p)) l) p m (rw (ran_length (stored img (erase p)) l, stored_length img (erase p)) i)
    (front_ran 12 (stored img (erase p)) p l (omega arith) b (front_erased 12 img p (omega arith) i))
