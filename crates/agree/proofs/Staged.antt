-- The open writer and its staged page, between calls and in the midst of a write. Assumes nothing.
use Rattle.seq.specs.Ids.{none}
use Rattle.owners.proofs.Writing.{inside}
use Rattle.state.specs.declared.types.Writer as StateWriter
use Rattle.state.specs.World.{World}
use Rattle.writer.specs.Staging.{staged_links, staged_header, staged_bytes, flush_stores, previous_of}
use Rattle.owners.specs.State.{end, more}
use Rattle.chain.specs.Links.{start, link, links_after}
use Rattle.chain.specs.Links as links
use native.Mathlib.Numerals.{add-one}
use Prim.Native.Nat.{ℕ, zero, suc, ◌+◌, ◌*◌, ◌/◌, ◌≤◌, ◌<◌}
use mathlib.Core.Path.{◌≡◌, refl, sym, ap, subst, ◌∙◌}
use mathlib.Core.Bool.{Bool, true, false, cond}
use mathlib.Core.List.{List, [], ◌∷◌}
use native.Mathlib.Omega.{arith}
use native.Mathlib.Decide.{dec_le, dec_lt}
use lib.ListN.{length, get_or, replicate, length-take, get_or-eq_default, get_or-replicate}
use lib.Dec.{ltb, eqb}
use borrow.Author.Tests.{le-leb, eqb-true, eqb-false}
use Rattle.page.specs.declared.DataHeader.{DataHeader}
use Rattle.state.specs.declared.types.FileRecord.{FileRecord}
use Rattle.state.specs.declared.types.Table.{Table}
use Rattle.chain.specs.declared.PagePointer.{PagePointer}
use Rattle.agree.specs.Good.{RecordOk, WriterIs, Good}
use Rattle.agree.specs.Rules.{Reaches, ChainOf, staged_page}
use Rattle.agree.specs.View.{view, as_file, rec_at}
use Rattle.agree.proofs.Keeps.{writer_ready, writer_staged}
use Rattle.agree.proofs.Pages.{clash, data_change}
use Rattle.agree.proofs.Records.{link_some, file_live, last_mine}
use Rattle.agree.proofs.Ruling.{cut, cut_pages, reaches_frame, chain_frame, reaches_next}
use Rattle.owners.specs.Moves.{Change, mem_nil}
use Rattle.owners.specs.State.{link_of, Owners, Base, first_of, Back, StagedOk, WriterOk}
use Rattle.owners.specs.Store.{Link, to, dat, Store, File, Owner, writer, file, Mem, Walk, FileAt}
use Rattle.page.specs.Page.{page_of, readable, header_of, Bytes, Written}
use Rattle.page.specs.Store.{ran}
use Rattle.page.proofs.Back.{data_header, data_bytes, data_others}
use Rattle.page.proofs.Headers.{header_written}
use Rattle.page.proofs.Laws.{bytes_take, bytes_page, bytes_ran}
use Rattle.chain.specs.Links.{filled, linked, no_links, Chain, oldest, older, ids}
use Rattle.chain.specs.Steps.{read_at}
use Rattle.chain.proofs.Chains.{older_here, older_on}
use Rattle.chain.proofs.Links.{links_nine}
use Rattle.seq.specs.Seq.{index, level}

-- ---- links of a new page

filled_fits : (k x : ℕ) (l : List ℕ) → x < 65536 → ((i : ℕ) → get_or l i 0 < 65536) → (i : ℕ) → get_or (filled k x l) i 0 < 65536
unfolding filled
filled_fits zero x l h g i = g i
filled_fits (suc k) x [] h g i = g i
filled_fits (suc k) x (y ∷ l) h g zero = h
filled_fits (suc k) x (y ∷ l) h g (suc i) = filled_fits k x l h (λ i. g (suc i)) i

filled_first : (k x : ℕ) (l : List ℕ) → 0 < length l → get_or (filled (k + 1) x l) 0 0 ≡ x
unfolding filled
filled_first k x [] h = absurd (omega arith)
filled_first k x (y ∷ l) h = rw (add-one k)

none_fits : (i : ℕ) → get_or no_links i 0 < 65536
none_fits i = by (dec_lt i 9)
  where
    by : Dec (i < 9) → get_or (replicate 9 none) i 0 < 65536
    by (yes h) = rw (get_or-replicate 9 i none 0 h) (omega arith)
    by (no h) = rw (get_or-eq_default (replicate 9 none) 0 {n = i} (omega arith)) (omega arith)

pub back_inside : {s : Store} {pc first q p : ℕ} {k : Link} {l : List ℕ} → Back s pc first k q l → k ≡ to p → p < pc
back_inside end e = clash cc
back_inside {p = p} (more {p = p'} a b h c w) e = let z : p' ≡ p = cc in omega arith

-- ---- a writer x in the midst of a write: the image so far, the owners so far

pub record Midst (N : ℕ) (img : List ℕ) (b : Base) (own : ℕ → Owner) (t : Table) (x : StateWriter.Writer) : Type 0 where
  pub size : length img ≡ 256 * N
  pub small : N ≤ 1024
  pub bytes : Bytes img
  pub inside : b.pc ≤ N
  pub owners : Owners b.pc b.mp own
  pub is : WriterIs img (rec_at t x.file) x
  pub staged : StagedOk (view img) b.pc (λ i. as_file (rec_at t i)) own x.file (link_of x.previous) x.seq x.page x.length (link_of x.copied) x.stored

module _ {N : ℕ} {img : List ℕ} {b : Base} {own : ℕ → Owner} {t : Table} {x : StateWriter.Writer} (m : Midst N img b own t x) where
  pub page_below : x.page < b.pc
  page_below = inside m.owners (λ z. clash (cc m.staged.staged))

  pub page_in : x.page < length img / 256
  page_in = omega (arith, page_below, m.inside, m.size)

  pub page_some : x.page ≡ none → ⊥
  page_some e = omega (arith, page_below, m.inside, m.small)

  -- the page before
  before : (x.previous ≡ none → ⊥) → (x.previous < 65536) × Written x.previous_header
  before n = (
    omega (arith, back_inside m.staged.back (link_some x.previous n), m.inside, m.small),
    header_written (page_of img x.previous) (bytes_page img x.previous m.bytes) x.previous_header (m.is.stands n),
  )

  -- the staged page's links
  pub record LinksOk : Type 0 where
    pub nine : length (staged_links x) ≡ 9
    pub fit : (i : ℕ) → get_or (staged_links x) i 0 < 65536
    pub first : link_of (get_or (staged_links x) 0 0) ≡ link_of x.previous

  pub links_ok : LinksOk
  unfolding staged_links links_after linked
  links_ok = by (eqb x.previous none) refl
    where
      h : StateWriter.Writer → DataHeader
      h y = y.previous_header

      with_previous : (x.previous ≡ none → ⊥) → (l : List ℕ) → l ≡ links_after (previous_of x) x.seq → (length l ≡ 9) × ((i : ℕ) → get_or l i 0 < 65536) × (link_of (get_or l 0 0) ≡ link_of x.previous)
      with_previous n l e =
          let u = before n in
          let k = level x.previous_header.seq x.seq in (
            ap length e ∙ links_nine (previous_of x) x.seq u.1.nine,
            λ i. subst (λ (y : List ℕ). get_or y i 0 < 65536) (sym e) (filled_fits (k + 1) x.previous x.previous_header.skiplist u.0 u.1.links i),
            ap (λ (y : List ℕ). link_of (get_or y 0 0)) e ∙ ap link_of (filled_first k x.previous x.previous_header.skiplist (omega (arith, u.1.nine))),
          )

      by : (c : Bool) → eqb x.previous none ≡ c → LinksOk
      by true e =
          let z : staged_links x ≡ no_links = rw e refl in
          record {
            nine = ap length z;
            fit = λ i. subst (λ (y : List ℕ). get_or y i 0 < 65536) (sym z) (none_fits i);
            first = ap (λ (y : List ℕ). link_of (get_or y 0 0)) z ∙ ap link_of (sym (eqb-true x.previous none e));
          }
      by false e =
          let z : staged_links x ≡ links_after (previous_of x) x.seq = rw e refl in
          let r = with_previous (eqb-false x.previous none e) (staged_links x) z in
          record { nine = r.0; fit = r.1; first = r.2 }

  -- its header fits
  pub staged_written : Written (staged_header x)
  unfolding staged_header
  staged_written =
      let l = links_ok in
      let s = m.staged in
      record {
        seq = omega (arith, s.fits);
        nine = l.nine;
        links = l.fit;
        boundary = by (ltb x.boundary x.length);
        low = s.long.0;
        high = s.long.1;
      }
    where
      by : (c : Bool) → cond c x.boundary none < 65536
      by true = m.is.boundary
      by false = omega arith

  few : length (staged_bytes x) ≤ 224
  few = simp length-take (omega (arith, m.is.size))

  pub flush_bytes : Bytes (ran img (flush_stores x))
  flush_bytes = bytes_ran img (flush_stores x) (data_bytes x.page (staged_header x) (staged_bytes x) (bytes_take x.length x.staged m.is.bytes)) m.bytes

  -- the staged page stored
  pub flush_header : read_at (ran img (flush_stores x)) x.page ≡ readable (staged_header x)
  flush_header = data_header img x.page (staged_bytes x) page_in few (staged_header x) staged_written

  pub flush_change : Change (view img) (view (ran img (flush_stores x))) x.page (dat x.seq x.length (link_of x.previous) (page_of (ran img (flush_stores x)) x.page))
  unfolding staged_header
  flush_change =
      subst (λ (k : Link). Change (view img) (view (ran img (flush_stores x))) x.page (dat x.seq x.length k (page_of (ran img (flush_stores x)) x.page))) links_ok.first
      (data_change img x.page (staged_header x) (staged_bytes x) page_in few staged_written)

  pub flush_off : (q : ℕ) → (q ≡ x.page → ⊥) → page_of (ran img (flush_stores x)) q ≡ page_of img q
  flush_off q n = data_others img x.page (staged_header x) (staged_bytes x) q n

  -- records whose last page is a file's stay
  pub flush_record : (r : FileRecord) (i : ℕ) → ((r.last_page ≡ none → ⊥) → own r.last_page ≡ file i) → RecordOk img r → RecordOk (ran img (flush_stores x)) r
  flush_record r i mine k =
      record {
        empty = k.empty;
        stands = λ n. ap header_of (flush_off r.last_page (λ z. let u : writer ≡ file i = sym m.staged.staged ∙ ap own (sym z) ∙ mine n in clash cc)) ∙ k.stands n;
        byte = k.byte;
      }

-- ---- the link rule over the staged page

module _ {N : ℕ} {img : List ℕ} {b : Base} {own : ℕ → Owner} {t : Table} {x : StateWriter.Writer} (m : Midst N img b own t x) where
  pub staged_link : link_of (link (staged_page x) 0) ≡ link_of x.previous
  unfolding staged_header
  staged_link = (links_ok m).first

  -- the older pages of its chain, cut at first, are those behind it
  pub chain_rest : (r : Reaches img b.pc (first_of (as_file (rec_at t x.file))) (staged_page x)) → (y : ℕ) → Mem y (ids (cut r).older) → Mem y m.staged.rest
  unfolding cut
  chain_rest r y k = by r.older r.chain r.far k
    where
      first : ℕ
      first = first_of (as_file (rec_at t x.file))

      behind : (q : PagePointer) (l : List PagePointer) → Chain b.pc 224 (read_at img) (staged_page x) (q ∷ l) → start (oldest q l) ≤ first_of (as_file (rec_at t x.file))
          → Mem y (q.page_id ∷ ids (links.older (first_of (as_file (rec_at t x.file))) q l)) → Mem y m.staged.rest
      behind q l c far k =
          let f = c.linked.0 in
          let e : link (staged_page x) 0 ≡ q.page_id = f.rule 0 (omega arith) ∙ simp (le-leb 0 (index (start q) (start (staged_page x))) (omega arith)) in
          let z : link_of x.previous ≡ to q.page_id = sym staged_link ∙ ap link_of e ∙ link_some q.page_id (λ y. omega (arith, f.page)) in
          walked z m.staged.back
        where
          walked : {k' : Link} {rest : List ℕ} → k' ≡ to q.page_id → Back (view img) b.pc (first_of (as_file (rec_at t x.file))) k' x.seq rest → Mem y rest
          walked z end = clash cc
          walked {rest = rest} z (more {p = p'} a o h u w) =
              let i : p' ≡ q.page_id = cc in
              let w' : Walk (view img) b.pc (first_of (as_file (rec_at t x.file))) q.page_id rest = subst (λ (j : ℕ). Walk (view img) b.pc (first_of (as_file (rec_at t x.file))) j rest) i w in
              let r' : Reaches img b.pc (first_of (as_file (rec_at t x.file))) q = record { older = l; chain = record { linked = c.linked.1; stand = c.stand.1 }; far = far } in
              subst (Mem y) (cut_pages r' c.stand.0 w') k

      by : (l : List PagePointer) → Chain b.pc 224 (read_at img) (staged_page x) l → start (oldest (staged_page x) l) ≤ first_of (as_file (rec_at t x.file))
          → Mem y (ids (links.older (first_of (as_file (rec_at t x.file))) (staged_page x) l)) → Mem y m.staged.rest
      by [] c far k = absurd (mem_nil (subst (λ (z : List PagePointer). Mem y (ids z)) (older_here (first_of (as_file (rec_at t x.file))) (staged_page x) [] far) k) refl)
      by (q ∷ l) c far k = go (dec_le (start (staged_page x)) (first_of (as_file (rec_at t x.file))))
        where
          go : Dec (start (staged_page x) ≤ first_of (as_file (rec_at t x.file))) → Mem y m.staged.rest
          go (yes h) = absurd (mem_nil (subst (λ (z : List PagePointer). Mem y (ids z)) (older_here (first_of (as_file (rec_at t x.file))) (staged_page x) (q ∷ l) h) k) refl)
          go (no h) = behind q l c far (subst (λ (z : List PagePointer). Mem y (ids z)) (older_on (first_of (as_file (rec_at t x.file))) (staged_page x) q l (omega arith)) k)

  -- so the chain stands when the page is stored
  pub chain_flushed : Reaches img b.pc (first_of (as_file (rec_at t x.file))) (staged_page x) → Reaches (ran img (flush_stores x)) b.pc (first_of (as_file (rec_at t x.file))) (staged_page x)
  chain_flushed r =
      reaches_frame (ran img (flush_stores x)) (cut r)
      (λ y k. flush_off m y (λ z. m.staged.fresh (subst (λ (j : ℕ). Mem j m.staged.rest) z (chain_rest r y k))))

  -- files' chains stand
  pub files_flushed : {f : File} {i : ℕ} → FileAt (view img) b.pc f own i → ChainOf img b.pc f → ChainOf (ran img (flush_stores x)) b.pc f
  files_flushed {i = i} a r = chain_frame img (ran img (flush_stores x)) a (λ y e. flush_off m y (λ z. let u : writer ≡ file i = sym m.staged.staged ∙ ap own (sym z) ∙ e in clash cc)) r

  -- those that a mount would find, too
  pub base_flushed : {f : File} {i : ℕ} (own' : ℕ → Owner) → (own' x.page ≡ file i → ⊥) → FileAt (view img) b.pc f own' i → ChainOf img b.pc f → ChainOf (ran img (flush_stores x)) b.pc f
  base_flushed own' n a r = chain_frame img (ran img (flush_stores x)) a (λ y e. flush_off m y (λ z. n (ap own' (sym z) ∙ e))) r

  -- the page behind the staged one, once that is full and stored
  pub chain_next : (new : PagePointer) → x.length ≡ 224 → start new ≡ x.seq + x.length → new.header.skiplist ≡ links_after (staged_page x) (start new)
      → Reaches img b.pc (first_of (as_file (rec_at t x.file))) (staged_page x) → Reaches (ran img (flush_stores x)) b.pc (first_of (as_file (rec_at t x.file))) new
  unfolding staged_header
  chain_next new full at e r =
      reaches_next new (chain_flushed r) (flush_header m) (page_below m) (omega (arith, m.inside, m.small)) full (sym at) (staged_written m).nine e

-- a file's last page is its own
pub last_own : {s : Store} {pc : ℕ} {own : ℕ → Owner} {i : ℕ} (r : FileRecord) → FileAt s pc (as_file r) own i → (r.last_page ≡ none → ⊥) → own r.last_page ≡ file i
last_own r a n = last_mine a (file_live r n)

-- a writer between calls, as in the midst
module _ {D : Type 0} {N : ℕ} {w : World} {b : Base} {own : ℕ → Owner} (g : Good D N w b own) (e : w.state.writer.active ≡ true) where
  pub staged_ok : (w.state.writer.page ≡ none → ⊥) → Midst N w.image b own w.table w.state.writer
  staged_ok n =
      record {
        size = g.sees.size;
        small = g.sees.small;
        bytes = g.sees.bytes;
        inside = g.inv.mounted.pc_in;
        owners = g.inv.owners;
        is = g.sees.wr e;
        staged = subst (WriterOk (view w.image) b.pc (λ i. as_file (rec_at w.table i)) own) (writer_staged w.state.writer e n) g.inv.wr_ok;
      }

  pub ready_ok : w.state.writer.page ≡ none → (w.state.writer.file < 8) × ((p : ℕ) → own p ≡ writer → ⊥)
  ready_ok n = subst (WriterOk (view w.image) b.pc (λ i. as_file (rec_at w.table i)) own) (writer_ready w.state.writer e n) g.inv.wr_ok
