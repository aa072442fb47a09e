-- What the view says of a page, and what stores do to it. Assumes nothing.
use Rattle.std.specs.Prelude.{Option, Some, None}
use Rattle.page.specs.Store.{Store}
use Rattle.metalog.specs.Log.{fresh as log_fresh}
use Prim.Native.Nat.{ℕ, ◌/◌, ◌≤◌, ◌<◌}
use mathlib.Core.Path.{◌≡◌, refl, sym, ap, ◌∙◌}
use mathlib.Core.Bool.{true}
use mathlib.Core.List.{List}
use native.Mathlib.Omega.{arith}
use lib.ListN.{length, get_or}
use Rattle.page.specs.declared.DataHeader.{DataHeader}
use Rattle.page.specs.declared.MetaHeader.{MetaHeader}
use Rattle.metalog.specs.Log.{Replay}
use Rattle.agree.specs.View.{dat_by, seen_by, view}
use Rattle.owners.specs.Moves.{Change}
use Rattle.owners.specs.State.{link_of}
use Rattle.owners.specs.Store.{Link, Page, blank, dat, met}
use Rattle.page.specs.Page.{page_of, Read, unreadable, readable, header_of, meta_of, Written}
use Rattle.page.specs.Store.{ran, data_stores}
use Rattle.page.proofs.Back.{data_header, data_on}
use Rattle.page.proofs.Headers.{header_no_meta}
use Rattle.page.proofs.Laws.{Every, On, others}
use Rattle.metalog.specs.Log.{Log, replayed, replay_of}
use Rattle.metalog.proofs.Pages.{log_page}
use Rattle.chain.specs.Steps.{read_at}

pub clash : {A : Type 0} → ◌≡◌ {A = ℕ} 0 1 → A
clash e = absurd (omega arith)

-- ---- a page

-- the view of a page depends on its bytes alone
pub view_page : (img img' : List ℕ) (p : ℕ) → page_of img' p ≡ page_of img p → view img' p ≡ view img p
unfolding view replay_of
view_page img img' p e = go (meta_of (page_of img' p)) refl
  where
    go : (m : Option MetaHeader) → meta_of (page_of img' p) ≡ m → seen_by img' p (meta_of (page_of img' p)) ≡ seen_by img p (meta_of (page_of img p))
    go None h = ap (seen_by img' p) h ∙ ap (λ (pg : List ℕ). dat_by pg (header_of pg)) e ∙ sym (ap (seen_by img p) (ap meta_of (sym e) ∙ h))
    go (Some m) h =
        ap (seen_by img' p) h ∙ ap (λ (l : Log). met m.seq m.page_count (replayed m.page_count (log_fresh true) l)) (log_page img img' p e)
        ∙ sym (ap (seen_by img p) (ap meta_of (sym e) ∙ h))

-- a data page
pub data_view : (img : List ℕ) (p : ℕ) (h : DataHeader) → read_at img p ≡ readable h → view img p ≡ dat h.seq h.length (link_of (get_or h.skiplist 0 0)) (page_of img p)
unfolding view
data_view img p h e = ap (seen_by img p) (header_no_meta (page_of img p) h e) ∙ ap (dat_by (page_of img p)) e

-- and back
pub record Stands (img : List ℕ) (p q n : ℕ) (k : Link) (x : List ℕ) : Type 0 where
  pub header : DataHeader
  pub reads : read_at img p ≡ readable header
  pub seq : header.seq ≡ q
  pub long : header.length ≡ n
  pub link : link_of (get_or header.skiplist 0 0) ≡ k
  pub bytes : x ≡ page_of img p

pub view_data : (img : List ℕ) (p : ℕ) {q n : ℕ} {k : Link} {x : List ℕ} → view img p ≡ dat q n k x → Stands img p q n k x
unfolding view
view_data img p {q} {n} {k} {x} e = go (meta_of (page_of img p)) (header_of (page_of img p)) refl e
  where
    by : (r : Read) → header_of (page_of img p) ≡ r → dat_by (page_of img p) r ≡ dat q n k x → Stands img p q n k x
    by unreadable h z = clash cc
    by (readable d) h z = record { header = d; reads = h; seq = cc; long = cc; link = cc; bytes = cc }

    go : (m : Option MetaHeader) (r : Read) → header_of (page_of img p) ≡ r → seen_by img p m ≡ dat q n k x → Stands img p q n k x
    go (Some m) r h z = clash cc
    go None r h z = by r h (sym (ap (dat_by (page_of img p)) h) ∙ z)

-- a metadata page
pub meta_view : (img : List ℕ) (p : ℕ) (m : MetaHeader) → meta_of (page_of img p) ≡ Some m → view img p ≡ met m.seq m.page_count (replay_of m.page_count img p)
unfolding view
meta_view img p m e = ap (seen_by img p) e

pub record Reads (img : List ℕ) (p q c : ℕ) (r : Replay) : Type 0 where
  pub header : MetaHeader
  pub is : meta_of (page_of img p) ≡ Some header
  pub seq : header.seq ≡ q
  pub count : header.page_count ≡ c
  pub replay : replay_of c img p ≡ r

pub view_meta : (img : List ℕ) (p : ℕ) {q c : ℕ} {r : Replay} → view img p ≡ met q c r → Reads img p q c r
unfolding view
view_meta img p {q} {c} {r} e = go (meta_of (page_of img p)) refl e
  where
    by : (y : Read) → dat_by (page_of img p) y ≡ met q c r → Reads img p q c r
    by unreadable z = clash cc
    by (readable d) z = clash cc

    go : (m : Option MetaHeader) → meta_of (page_of img p) ≡ m → seen_by img p m ≡ met q c r → Reads img p q c r
    go None h z = by (header_of (page_of img p)) z
    go (Some m) h z =
        let s : m.page_count ≡ c = cc in
        let t : replay_of m.page_count img p ≡ r = cc in
        record { header = m; is = h; seq = cc; count = s; replay = ap (λ (y : ℕ). replay_of y img p) (sym s) ∙ t }

-- an unreadable one
pub blank_view : (img : List ℕ) (p : ℕ) → meta_of (page_of img p) ≡ None → header_of (page_of img p) ≡ unreadable → view img p ≡ blank
unfolding view
blank_view img p e h = ap (seen_by img p) e ∙ ap (dat_by (page_of img p)) h

-- ---- stores

-- stores at page p change that page
pub stores_change : (img : List ℕ) (p : ℕ) (l : List Store) (x : Page) → Every (On p) l → view (ran img l) p ≡ x → Change (view img) (view (ran img l)) p x
stores_change img p l x a e = record { at = e; off = λ q n. view_page img (ran img l) q (others img p l a q n) }

-- a data page stored
pub data_change : (img : List ℕ) (p : ℕ) (h : DataHeader) (pay : List ℕ) → p < length img / 256 → length pay ≤ 224 → Written h →
    Change (view img) (view (ran img (data_stores p h pay))) p (dat h.seq h.length (link_of (get_or h.skiplist 0 0)) (page_of (ran img (data_stores p h pay)) p))
data_change img p h pay inside few w =
    stores_change img p (data_stores p h pay) _ (data_on p h pay) (data_view (ran img (data_stores p h pay)) p h (data_header img p pay inside few h w))
