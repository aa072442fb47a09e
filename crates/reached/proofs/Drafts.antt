-- The bytes of an open writer: a flush stores them, and a turn of a write adds to them. Assumes nothing.
use Rattle.chain.specs.Links.{start, link}
use Rattle.chain.specs.Steps.{at}
use Rattle.runs.specs.Runs.{placed, splice}
use Rattle.runs.proofs.Laws.{placed_in}
use Rattle.state.specs.declared.types.Writer as StateWriter
use Rattle.writer.specs.Staging.{staged_header, staged_bytes, flush_stores, previous_of, filled_by, on_page, flushed}
use Prim.Native.Nat.{ℕ, ◌+◌, ◌-◌, ◌≤◌, ◌<◌}
use mathlib.Core.Path.{◌≡◌, refl, sym, ap, ap₂, subst, ◌∙◌}
use mathlib.Core.Bool.{true, cond}
use mathlib.Core.List.{List, [], ◌∷◌, ◌++◌}
use native.Mathlib.Omega.{arith}
use native.Mathlib.Decide.{dec_le, dec_lt}
use lib.ListN.{length, take, drop, get_or, length-take, length-append, get_or-append}
use lib.Seq.{get_or-take, get_or-append-add}
use borrow.Author.Tests.{le-leb, lt-leb}
use Rattle.page.specs.declared.DataHeader.{DataHeader}
use Rattle.state.specs.declared.types.Table.{Table}
use Rattle.chain.specs.declared.PagePointer.{PagePointer}
use Rattle.reached.specs.Asked.{nowhere, byte, byte_by}
use Rattle.reached.specs.Ledger.{draft_at}
use Rattle.reached.proofs.Demand3.{among_mem, part_at}
use Rattle.agree.specs.Rules.{Reaches, staged_page}
use Rattle.agree.specs.View.{as_file, rec_at}
use Rattle.agree.proofs.Records.{link_some}
use Rattle.agree.proofs.Ruling.{cut, stand_frame}
use Rattle.agree.proofs.Staged.{Midst, page_in, flush_off, staged_link, chain_rest}
use Rattle.agree.proofs.Walking.{to_page}
use Rattle.owners.specs.State.{link_of, Base, first_of}
use Rattle.owners.specs.Store.{to, Owner, Mem}
use Rattle.page.specs.Page.{page_of, Read, readable, header_of, holds}
use Rattle.page.specs.Store.{ran}
use Rattle.page.proofs.Back.{data_part}
use Rattle.page.proofs.Headers.{holds_in}
use Rattle.chain.specs.Links.{Chain, oldest, holder, ids}
use Rattle.chain.specs.Steps.{read_at, Trace, walk}
use Rattle.chain.proofs.Chains.{holder_on, holder_holds, walk_chain}
use Rattle.chain.proofs.Rules.{back_here}
use Rattle.chain.proofs.Walks.{walk_is}
use Rattle.seq.specs.Seq.{index}

-- where the walk back from a page that starts at or before n ends
pub walk_here : (count : ℕ) (read : ℕ → Read) (n : ℕ) (p : PagePointer) → start p ≤ n → (walk count read n p).ends ≡ at p
walk_here count read n p h = ap (λ (t : Trace). t.ends) (walk_is count read n p [] (back_here count n p h))

pub draft_staged : (img : List ℕ) (count : ℕ) (x : StateWriter.Writer) (n : ℕ) → x.seq ≤ n → draft_at img count x n ≡ byte (get_or x.staged (n - x.seq) 0)
unfolding draft_at
draft_staged img count x n h = rw (le-leb x.seq n h)

pub draft_behind : (img : List ℕ) (count : ℕ) (x : StateWriter.Writer) (n : ℕ) → n < x.seq → draft_at img count x n ≡ byte_by img n (walk count (read_at img) n (previous_of x)).ends
unfolding draft_at
draft_behind img count x n h = rw (lt-leb x.seq n h)

module _ {N : ℕ} {img : List ℕ} {b : Base} {own : ℕ → Owner} {t : Table} {x : StateWriter.Writer} (m : Midst N img b own t x)
    (r : Reaches img b.pc (first_of (as_file (rec_at t x.file))) (staged_page x)) where
  abbrev img' : List ℕ
  img' = ran img (flush_stores x)

  abbrev first : ℕ
  first = first_of (as_file (rec_at t x.file))

  staged_seq : start (staged_page x) ≡ x.seq
  unfolding staged_header
  staged_seq = refl

  staged_len : (staged_header x).length ≡ x.length
  unfolding staged_header
  staged_len = refl

  -- a staged byte, on its page
  stored_byte : (k : ℕ) → k < x.length → get_or (page_of img' x.page) (32 + k) 0 ≡ get_or x.staged k 0
  stored_byte k h =
      let s = m.is.size in
      let n : length (staged_bytes x) ≡ x.length = length-take x.length x.staged ∙ omega (arith, m.staged.long) in
      let few : length (staged_bytes x) ≤ 224 = omega (arith, m.staged.long) in
      let p = data_part img x.page (staged_bytes x) (page_in m) few (staged_header x) in
      sym (part_at (page_of img' x.page) 32 (length (staged_bytes x)) k (omega arith)) ∙ ap (λ (l : List ℕ). get_or l k 0) p ∙ get_or-take x.length x.staged k 0 h

  off : (y : ℕ) → Mem y (ids (cut r).older) → page_of img' y ≡ page_of img y
  off y k = flush_off m y (λ z. m.staged.fresh (subst (λ (j : ℕ). Mem j m.staged.rest) z (chain_rest m r y k)))

  -- THE FLUSH: stepping back from the stored page gives the writer's bytes
  pub flush_byte : (n : ℕ) → first_of (as_file (rec_at t x.file)) ≤ n → n < x.seq + x.length
      → byte_by (ran img (flush_stores x)) n (walk b.pc (read_at (ran img (flush_stores x))) n (staged_page x)).ends ≡ draft_at img b.pc x n
  flush_byte n low high = by (dec_le x.seq n)
    where
      here : x.seq ≤ n → byte_by (ran img (flush_stores x)) n (walk b.pc (read_at (ran img (flush_stores x))) n (staged_page x)).ends ≡ draft_at img b.pc x n
      here h =
          let e : holds (staged_header x) n ≡ true = holds_in (staged_header x) n (subst (λ (k : ℕ). k ≤ n) (sym staged_seq) h) (omega (arith, staged_seq, staged_len)) in
          let z : n - (staged_header x).seq ≡ n - x.seq = ap (λ (k : ℕ). n - k) staged_seq in
          ap (byte_by img' n) (walk_here b.pc (read_at img') n (staged_page x) (subst (λ (k : ℕ). k ≤ n) (sym staged_seq) h))
          ∙ rw e (ap (λ (k : ℕ). byte (get_or (page_of img' x.page) (32 + k) 0)) z ∙ ap byte (stored_byte (n - x.seq) (omega arith)))
          ∙ sym (draft_staged img b.pc x n h)

      behind : n < x.seq → (l : List PagePointer) → Chain b.pc 224 (read_at img) (staged_page x) l → start (oldest (staged_page x) l) ≤ first_of (as_file (rec_at t x.file))
          → Chain b.pc 224 (read_at (ran img (flush_stores x))) (staged_page x) l → ((y : ℕ) → Mem y (ids l) → page_of (ran img (flush_stores x)) y ≡ page_of img y)
          → byte_by (ran img (flush_stores x)) n (walk b.pc (read_at (ran img (flush_stores x))) n (staged_page x)).ends ≡ draft_at img b.pc x n
      behind h [] c far c' same = absurd (omega (arith, staged_seq))
      behind h (q ∷ l) c far c' same =
          let f = c.linked.0 in
          let e : link (staged_page x) 0 ≡ q.page_id = f.rule 0 (omega arith) ∙ simp (le-leb 0 (index (start q) (start (staged_page x))) (omega arith)) in
          let k : link_of x.previous ≡ to q.page_id = sym (staged_link m) ∙ ap link_of e ∙ link_some q.page_id (λ y. omega (arith, f.page)) in
          let u = to_page x.previous q.page_id k in
          let v : readable x.previous_header ≡ readable q.header = sym (m.is.stands u.1) ∙ ap (read_at img) u.0 ∙ c.stand.0 in
          let hd : x.previous_header ≡ q.header = cc in
          let pq : previous_of x ≡ q = ap₂ (λ (i : ℕ) (d : DataHeader). record { page_id = i; header = d }) u.0 hd in
          let o : start (oldest q l) ≤ n = omega (arith, far) in
          let lt : n < start (staged_page x) = omega (arith, staged_seq) in
          let a = (walk_chain b.pc 224 (omega arith) (read_at img') n (staged_page x) (q ∷ l) c' o).0 ∙ ap at (holder_on n (staged_page x) q l lt) in
          let d = (walk_chain b.pc 224 (omega arith) (read_at img) n q l (record { linked = c.linked.1; stand = c.stand.1 }) o).0 in
          let in_l = (holder_holds b.pc 224 n q l c.linked.1 o (omega (arith, f.meets, staged_seq))).2 in
          ap (byte_by img' n) a
          ∙ ap (λ (pg : List ℕ). cond (holds (holder n q l).header n) (byte (get_or pg (32 + (n - (holder n q l).header.seq)) 0)) nowhere) (same (holder n q l).page_id (among_mem (holder n q l) q l in_l))
          ∙ sym (draft_behind img b.pc x n h ∙ ap (λ (p : PagePointer). byte_by img n (walk b.pc (read_at img) n p).ends) pq ∙ ap (byte_by img n) d)

      by : Dec (x.seq ≤ n) → byte_by (ran img (flush_stores x)) n (walk b.pc (read_at (ran img (flush_stores x))) n (staged_page x)).ends ≡ draft_at img b.pc x n
      by (yes h) = here h
      by (no h) =
          behind (omega arith) (cut r).older (cut r).chain (cut r).far
          (record { linked = (cut r).chain.linked; stand = stand_frame (read_at img) (read_at img') (cut r).older (λ y k. ap header_of (off y k)) (cut r).chain.stand }) off

-- ---- the bytes of a writer as a list, by their numbers

pub record Drafted (img : List ℕ) (count first : ℕ) (x : StateWriter.Writer) (g : List ℕ) : Type 0 where
  pub size : length g ≡ x.seq + x.length
  pub is : (n : ℕ) → first ≤ n → n < x.seq + x.length → draft_at img count x n ≡ byte (get_or g n 0)

-- bytes placed in the staged page
placed_before : (l : List ℕ) (o : ℕ) (r : List ℕ) (i : ℕ) → o + length r ≤ length l → i < o → get_or (placed l o r) i 0 ≡ get_or l i 0
unfolding splice
placed_before l o r i h k =
    ap (λ (y : List ℕ). get_or y i 0) (placed_in l o r h)
    ∙ get_or-append (take o l) (r ++ drop (o + length r) l) 0 i (simp length-take (omega arith)) ∙ get_or-take o l i 0 k

pub placed_within : (l : List ℕ) (o : ℕ) (r : List ℕ) (k : ℕ) → o + length r ≤ length l → k < length r → get_or (placed l o r) (o + k) 0 ≡ get_or r k 0
unfolding splice
placed_within l o r k h q =
    let n : length (take o l) ≡ o = length-take o l ∙ omega arith in
    ap (λ (y : List ℕ). get_or y (o + k) 0) (placed_in l o r h)
    ∙ ap (λ (i : ℕ). get_or (take o l ++ (r ++ drop (o + length r) l)) (i + k) 0) (sym n)
    ∙ get_or-append-add (take o l) (r ++ drop (o + length r) l) k 0
    ∙ get_or-append r (drop (o + length r) l) 0 k q

-- a number of what was there, or of what is added
by_old : (g l : List ℕ) (e n : ℕ) (P : ℕ → Type 0) → length g ≡ e → n < e + length l → (n < e → P (get_or g n 0)) → ((k : ℕ) → k < length l → n ≡ e + k → P (get_or l k 0)) → P (get_or (g ++ l) n 0)
by_old g l e n P z h f f' = go (dec_lt n e)
  where
    go : Dec (n < e) → P (get_or (g ++ l) n 0)
    go (yes k) = subst P (sym (get_or-append g l 0 n (omega arith))) (f k)
    go (no k) =
        let y : n ≡ length g + (n - e) = omega arith in
        subst P (sym (ap (λ (i : ℕ). get_or (g ++ l) i 0) y ∙ get_or-append-add g l (n - e) 0)) (f' (n - e) (omega arith) (omega arith))

module _ (img : List ℕ) (count first : ℕ) (x : StateWriter.Writer) (g l : List ℕ) (whole : length x.staged ≡ 224) (d : Drafted img count first x g) where
  -- more on the staged page
  pub drafted_grown : x.length + length l ≤ 224 → Drafted img count first (filled_by x l) (g ++ l)
  unfolding filled_by
  drafted_grown room =
      record {
        size = simp length-append (omega (arith, d.size));
        is = λ n low high. by_old g l (x.seq + x.length) n (λ (v : ℕ). draft_at img count (filled_by x l) n ≡ byte v) d.size (omega arith)
            (λ k. old n low k (dec_le x.seq n)) (λ k h e. new n k h e);
      }
    where
      old : (n : ℕ) → first ≤ n → n < x.seq + x.length → Dec (x.seq ≤ n) → draft_at img count (filled_by x l) n ≡ byte (get_or g n 0)
      old n low k (yes h) =
          draft_staged img count (filled_by x l) n h ∙ ap byte (placed_before x.staged x.length l (n - x.seq) (omega arith) (omega arith))
          ∙ sym (draft_staged img count x n h) ∙ d.is n low k
      old n low k (no h) = draft_behind img count (filled_by x l) n (omega arith) ∙ sym (draft_behind img count x n (omega arith)) ∙ d.is n low k

      new : (n k : ℕ) → k < length l → n ≡ x.seq + x.length + k → draft_at img count (filled_by x l) n ≡ byte (get_or l k 0)
      new n k h e =
          let z : n - x.seq ≡ x.length + k = omega arith in
          draft_staged img count (filled_by x l) n (omega arith) ∙ ap (λ (i : ℕ). byte (get_or (placed x.staged x.length l) i 0)) z ∙ ap byte (placed_within x.staged x.length l k (omega arith) h)

  -- on a first page
  pub drafted_staged : (p : ℕ) → x.length ≡ 0 → length l ≤ 224 → Drafted img count first (filled_by (on_page x p) l) (g ++ l)
  unfolding filled_by on_page
  drafted_staged p none_yet room =
      record {
        size = simp length-append (omega (arith, d.size));
        is = λ n low high. by_old g l (x.seq + x.length) n (λ (v : ℕ). draft_at img count (filled_by (on_page x p) l) n ≡ byte v) d.size (omega arith)
            (λ k. draft_behind img count (filled_by (on_page x p) l) n (omega arith) ∙ sym (draft_behind img count x n (omega arith)) ∙ d.is n low k) (λ k h e. new n k h e);
      }
    where
      new : (n k : ℕ) → k < length l → n ≡ x.seq + x.length + k → draft_at img count (filled_by (on_page x p) l) n ≡ byte (get_or l k 0)
      new n k h e =
          let z : n - x.seq ≡ 0 + k = omega arith in
          draft_staged img count (filled_by (on_page x p) l) n (omega arith) ∙ ap (λ (i : ℕ). byte (get_or (placed x.staged 0 l) i 0)) z ∙ ap byte (placed_within x.staged 0 l k (omega arith) h)

-- behind a page that was stored
pub drafted_next : {N : ℕ} {img : List ℕ} {b : Base} {own : ℕ → Owner} {t : Table} {x : StateWriter.Writer} (m : Midst N img b own t x) → Reaches img b.pc (first_of (as_file (rec_at t x.file))) (staged_page x)
    → (p : ℕ) (g l : List ℕ) → length l ≤ 224 → Drafted img b.pc (first_of (as_file (rec_at t x.file))) x g
    → Drafted (ran img (flush_stores x)) b.pc (first_of (as_file (rec_at t x.file))) (filled_by (on_page (flushed x) p) l) (g ++ l)
unfolding filled_by on_page flushed
drafted_next {img = img} {b = b} {t = t} {x = x} m r p g l room d =
    record {
      size = simp length-append (omega (arith, d.size));
      is = λ n low high. by_old g l (x.seq + x.length) n (λ (v : ℕ). draft_at (ran img (flush_stores x)) b.pc (filled_by (on_page (flushed x) p) l) n ≡ byte v) d.size (omega arith)
          (λ k. draft_behind (ran img (flush_stores x)) b.pc (filled_by (on_page (flushed x) p) l) n k ∙ flush_byte m r n low k ∙ d.is n low k) (λ k h e. new n k h e);
    }
  where
    new : (n k : ℕ) → k < length l → n ≡ x.seq + x.length + k → draft_at (ran img (flush_stores x)) b.pc (filled_by (on_page (flushed x) p) l) n ≡ byte (get_or l k 0)
    new n k h e =
        let z : n - (x.seq + x.length) ≡ 0 + k = omega arith in
        let s = m.is.size in
        draft_staged (ran img (flush_stores x)) b.pc (filled_by (on_page (flushed x) p) l) n (omega arith)
        ∙ ap (λ (i : ℕ). byte (get_or (placed x.staged 0 l) i 0)) z ∙ ap byte (placed_within x.staged 0 l k (omega arith) h)
