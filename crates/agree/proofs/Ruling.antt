-- The link rule kept: where a file's pages stay as they are, where its first number advances, and for a new page behind a chain.
-- Assumes nothing.
use Rattle.seq.specs.Ids.{none}
use Rattle.chain.specs.Links.{start, link, end, links_after}
use Rattle.chain.specs.Links as links
use Rattle.chain.specs.Steps.{step, reaches}
use Rattle.owners.specs.Store as st
use Rattle.chain.proofs.Chains.{alone, appended, replaced, copied, truncated}
use Prim.Native.Nat.{ℕ, ◌≤◌, ◌<◌}
use mathlib.Core.Path.{◌≡◌, refl, sym, ap, subst, ◌∙◌}
use mathlib.Core.Logic.{◌⊎◌, inl, inr}
use mathlib.Core.List.{List, [], ◌∷◌}
use native.Mathlib.Omega.{arith}
use lib.ListN.{length}
use borrow.Author.Tests.{le-leb}
use Rattle.page.specs.declared.DataHeader.{DataHeader}
use Rattle.state.specs.declared.types.FileRecord.{FileRecord}
use Rattle.chain.specs.declared.PagePointer.{PagePointer}
use Rattle.agree.specs.Good.{RecordOk}
use Rattle.agree.specs.Rules.{Reaches, Ruled, ChainOf}
use Rattle.agree.specs.View.{view, as_file}
use Rattle.agree.proofs.Records.{file_live}
use Rattle.agree.proofs.Walking.{walk_complete, file_walk}
use Rattle.owners.specs.Store.{File, gone, live, Owner, file, Mem, here, there, Walk, FileAt}
use Rattle.page.specs.Page.{page_of, Read, readable, header_of}
use Rattle.chain.specs.Links.{linked, Stand, Chain, oldest, older, ids}
use Rattle.chain.specs.Steps.{read_at, back_rule}
use Rattle.chain.proofs.Chains.{step_chain, walk_chain, holder_starts}
use Rattle.chain.proofs.Links.{links_follow}
use Rattle.seq.specs.Seq.{index}

-- ---- a chain cut at the page of first: its pages are those of the walk

unfoldable pub cut : {img : List ℕ} {count first : ℕ} {p : PagePointer} → Reaches img count first p → Reaches img count first p
cut {img} {count} {first} {p} r =
    let t = truncated count 224 (read_at img) first p r.older r.chain in
    record {
      older = links.older first p r.older;
      chain = t.0;
      far = subst (λ (q : PagePointer). start q ≤ first) (sym t.1) (holder_starts first p r.older r.far);
    }

pub cut_pages : {img : List ℕ} {count first : ℕ} {p : PagePointer} (r : Reaches img count first p) {l : List ℕ} → read_at img p.page_id ≡ readable p.header → Walk (view img) count first p.page_id l
    → p.page_id ∷ ids (cut r).older ≡ l
unfolding cut
cut_pages {img} {count} {first} {p} r s w =
    sym (walk_chain count 224 (omega arith) (read_at img) first p r.older r.chain r.far).1 ∙ (walk_complete img count first p s w).pages

-- older pages that stand, on another image
pub stand_frame : (read other : ℕ → Read) (l : List PagePointer) → ((x : ℕ) → Mem x (ids l) → other x ≡ read x) → Stand read l → Stand other l
stand_frame read other [] h s = tt
stand_frame read other (q ∷ l) h s = (h q.page_id st.here ∙ s.0, stand_frame read other l (λ x k. h x (st.there k)) s.1)

pub reaches_frame : {img : List ℕ} {count first : ℕ} {p : PagePointer} (img' : List ℕ) (r : Reaches img count first p) → ((x : ℕ) → Mem x (ids r.older) → page_of img' x ≡ page_of img x) → Reaches img' count first p
reaches_frame {img} img' r h =
    record {
      older = r.older;
      chain = record { linked = r.chain.linked; stand = stand_frame (read_at img) (read_at img') r.older (λ x k. ap header_of (h x k)) r.chain.stand };
      far = r.far;
    }

-- THE framing of a file: its pages stay
pub chain_frame : (img img' : List ℕ) {pc : ℕ} {f : File} {own : ℕ → Owner} {i : ℕ} → FileAt (view img) pc f own i → ((x : ℕ) → own x ≡ file i → page_of img' x ≡ page_of img x) → ChainOf img pc f → ChainOf img' pc f
chain_frame img img' {pc} {f} {own} {i} a h r = by f refl r
  where
    by : (g : File) → f ≡ g → ChainOf img pc g → ChainOf img' pc g
    by gone e r = tt
    by (live p first e' g) e r =
        let z = cut_pages r.reaches r.stands (file_walk a.ok e) in
        let mine : (x : ℕ) → Mem x (p ∷ ids (cut r.reaches).older) → own x ≡ file i = λ x k. a.mine x (subst (Mem x) z k) in
        record {
          header = r.header;
          stands = ap header_of (h p (mine p st.here)) ∙ r.stands;
          reaches = reaches_frame img' (cut r.reaches) (λ x k. h x (mine x (st.there k)));
        }

-- the first number advances
pub reaches_later : {img : List ℕ} {count first : ℕ} {p : PagePointer} (later : ℕ) → first ≤ later → Reaches img count first p → Reaches img count later p
reaches_later later h r = record { older = r.older; chain = r.chain; far = omega (arith, r.far) }

-- a page with the same start and links
pub reaches_copy : {img : List ℕ} {count first : ℕ} {p : PagePointer} (new : PagePointer) → new.header.seq ≡ p.header.seq → new.header.skiplist ≡ p.header.skiplist → Reaches img count first p → Reaches img count first new
reaches_copy {img} {count} {first} {p} new es el r =
    record { older = r.older; chain = copied count 224 (read_at img) new p r.older es el r.chain; far = same r.older r.far }
  where
    same : (l : List PagePointer) → start (oldest p l) ≤ first → start (oldest new l) ≤ first
    same [] h = omega arith
    same (q ∷ l) h = h

-- a record's chain, by its header
pub record_chain : {img : List ℕ} {count : ℕ} (r : FileRecord) → RecordOk img r → (r.last_page ≡ none → ⊥) → ChainOf img count (as_file r) → Reaches img count r.first_seq (record { page_id = r.last_page; header = r.header })
record_chain {img} {count} r k n c =
    let d : Ruled img count r.last_page r.first_seq = subst (ChainOf img count) (file_live r n) c in
    let e : readable d.header ≡ readable r.header = sym d.stands ∙ k.stands n in
    let z : d.header ≡ r.header = cc in
    subst (λ (h : DataHeader). Reaches img count r.first_seq (record { page_id = r.last_page; header = h })) z d.reaches

pub chain_record : {img : List ℕ} {count : ℕ} (r : FileRecord) → (r.last_page ≡ none → ⊥) → read_at img r.last_page ≡ readable r.header → Reaches img count r.first_seq (record { page_id = r.last_page; header = r.header }) → ChainOf img count (as_file r)
chain_record {img} {count} r n s c = subst (ChainOf img count) (sym (file_live r n)) (record { header = r.header; stands = s; reaches = c })

-- ---- a new page

-- right behind a full page that stands
pub reaches_next : {img : List ℕ} {count first : ℕ} {p : PagePointer} (new : PagePointer) → Reaches img count first p → read_at img p.page_id ≡ readable p.header
    → p.page_id < count → count ≤ 1024 → p.header.length ≡ 224 → end p ≡ start new → length p.header.skiplist ≡ 9 → new.header.skiplist ≡ links_after p (start new) → Reaches img count first new
reaches_next {img} {count} {first} {p} new r s inside small full meets nine e =
    record {
      older = p ∷ r.older;
      chain = appended count 224 (read_at img) new p r.older s (links_follow count 224 p new inside (omega arith) (omega arith) (omega arith) meets nine e) r.chain;
      far = r.far;
    }

-- in the place of the last page p, behind the page before it
pub reaches_again : {img : List ℕ} {count first : ℕ} {p : PagePointer} (new q : PagePointer) (r : Reaches img count first p) → start new ≡ start p → first < start p → step (back_rule count first) (read_at img) p ≡ reaches q
    → count ≤ 1024 → length q.header.skiplist ≡ 9 → new.header.skiplist ≡ links_after q (start new) → Reaches img count first new
reaches_again {img} {count} {first} {p} new q r es above goes small nine e = by r.older r.chain r.far
  where
    by : (l : List PagePointer) → Chain count 224 (read_at img) p l → start (oldest p l) ≤ first → Reaches img count first new
    by [] c far = absurd (omega arith)
    by (q' ∷ l) c far =
        let f = c.linked.0 in
        let z : reaches q' ≡ reaches q = sym (step_chain count 224 (omega arith) (read_at img) first p q' l c above) ∙ goes in
        let y : q' ≡ q = cc in
        record {
          older = q' ∷ l;
          chain = replaced count 224 (read_at img) new p q' l
              (links_follow count 224 q' new f.inside f.page f.long (omega (arith, f.long)) (f.meets ∙ sym es) (ap (λ (x : PagePointer). length x.header.skiplist) y ∙ nine)
              (e ∙ ap (λ (x : PagePointer). links_after x (start new)) (sym y))) c;
          far = far;
        }

-- with no page before it
pub reaches_alone : {img : List ℕ} {count first : ℕ} (new : PagePointer) → start new ≤ first → Reaches img count first new
reaches_alone {img} {count} new h = record { older = []; chain = alone count 224 (read_at img) new; far = h }

-- a page whose step back stays is at or before first
pub stays_far : {img : List ℕ} {count first : ℕ} {p : PagePointer} → Reaches img count first p → (start p ≤ first) ⊎ (link p 0 ≡ none) → start p ≤ first
stays_far r (inl h) = h
stays_far {img} {count} {first} {p} r (inr z) = by r.older r.chain r.far
  where
    by : (l : List PagePointer) → Chain count 224 (read_at img) p l → start (oldest p l) ≤ first → start p ≤ first
    by [] c far = far
    by (q ∷ l) c far =
        let f = c.linked.0 in
        let e : link p 0 ≡ q.page_id = f.rule 0 (omega arith) ∙ simp (le-leb 0 (index (start q) (start p)) (omega arith)) in
        absurd (omega (arith, f.page))
