-- A flush puts the staged page behind the chain: it reads back, its links are those of the rule, and its bytes come last.
-- Assumes nothing.
use Prim.Native.Nat.{ℕ, zero, suc, ◌+◌, ◌*◌, ◌/◌, ◌≤◌, ◌<◌}
use mathlib.Core.Path.{◌≡◌, refl, sym, ap, ap₂, ◌∙◌}
use mathlib.Core.List.{List, [], ◌∷◌, ◌++◌}
use native.Mathlib.Omega.{arith}
use borrow.Author.Tests.{eq-eqb, ne_eqb, lt-ltb, le-ltb}
use lib.ListN.{length, get_or}
use lib.Seq.{length-take-le}
use Rattle.seq.specs.Ids.{none}
use Rattle.seq.specs.Seq.{limit, level}
use Rattle.page.specs.Page.{readable, header_of, payload_of, Written}
use Rattle.page.specs.Store.{ran}
use Rattle.page.proofs.Laws.{split}
use Rattle.page.proofs.Back.{data_header, data_payload, data_others}
use Rattle.chain.specs.declared.PagePointer.{PagePointer}
use Rattle.chain.specs.Links.{start, filled, linked, links_after, no_links, Follows, Chain, ids}
use Rattle.chain.specs.Steps.{read_at}
use Rattle.chain.specs.Walk.{Each}
use Rattle.chain.proofs.Links.{links_nine, links_follow}
use Rattle.chain.proofs.Chains.{alone, appended}
use Rattle.chain.proofs.Frames.{chain_ran}
use Rattle.state.specs.declared.types.Writer.{Writer}
use Rattle.writer.specs.Staging.{previous_of, named_below, staged_links, staged_header, staged_bytes, flush_stores, flushed}
use Rattle.writer.specs.Holds.{payloads, Trails}

-- ---- the header fits

filled_fits : (k x : ℕ) (l : List ℕ) → x < 65536 → ((i : ℕ) → get_or l i 0 < 65536) → (i : ℕ) → get_or (filled k x l) i 0 < 65536
unfolding filled
filled_fits zero x l h f i = f i
filled_fits (suc k) x [] h f i = omega arith
filled_fits (suc k) x (y ∷ l) h f zero = h
filled_fits (suc k) x (y ∷ l) h f (suc i) = filled_fits k x l h (λ j. f (suc j)) i

replicate_fits : (i : ℕ) → get_or no_links i 0 < 65536
replicate_fits zero = omega arith
replicate_fits (suc zero) = omega arith
replicate_fits (suc (suc zero)) = omega arith
replicate_fits (suc (suc (suc zero))) = omega arith
replicate_fits (suc (suc (suc (suc zero)))) = omega arith
replicate_fits (suc (suc (suc (suc (suc zero))))) = omega arith
replicate_fits (suc (suc (suc (suc (suc (suc zero)))))) = omega arith
replicate_fits (suc (suc (suc (suc (suc (suc (suc zero))))))) = omega arith
replicate_fits (suc (suc (suc (suc (suc (suc (suc (suc zero)))))))) = omega arith
replicate_fits (suc (suc (suc (suc (suc (suc (suc (suc (suc i))))))))) = omega arith

boundary_fits : (b n : ℕ) → n ≤ 224 → named_below b n < 65536
boundary_fits b n h =
    split n b (λ k. rw (le-ltb b n k) (omega arith)) (λ k. rw (lt-ltb b n k) (omega arith))

links_none : (x : Writer) → x.previous ≡ none → staged_links x ≡ no_links
unfolding staged_links
links_none x e = rw (eq-eqb x.previous none e)

links_some : (x : Writer) (q : PagePointer) → previous_of x ≡ q → q.page_id < none → staged_links x ≡ links_after q x.seq
unfolding staged_links
links_some x q e h =
    let p : x.previous ≡ q.page_id = ap (λ (z : PagePointer). z.page_id) e in
    let n : x.previous ≡ none → ⊥ = λ z. omega arith in
    rw (ne_eqb x.previous none n) (ap (λ (z : PagePointer). links_after z x.seq) e)

staged_length : (x : Writer) → (staged_header x).length ≡ x.length
unfolding staged_header
staged_length x = refl

module _ (count d : ℕ) (img : List ℕ) (x : Writer) (few : count ≤ 1024) (low : 1 ≤ x.length) (high : x.length ≤ 224) (fits : x.seq + x.length ≤ limit) where
  staged_written : (l : List PagePointer) → Trails count d img x l → Written (staged_header x)
  unfolding staged_header links_after linked
  staged_written [] t =
      record {
        seq = omega arith;
        nine = ap length (links_none x t);
        links = λ i. rw (links_none x t) (replicate_fits i);
        boundary = boundary_fits x.boundary x.length high;
        low = low;
        high = high;
      }
  staged_written (q ∷ l) t =
      let e = links_some x q t.is (omega (arith, t.inside)) in
      record {
        seq = omega arith;
        nine = ap length e ∙ links_nine q x.seq t.written.nine;
        links = λ i. rw e (filled_fits (level (start q) x.seq + 1) q.page_id q.header.skiplist (omega (arith, t.inside)) t.written.links i);
        boundary = boundary_fits x.boundary x.length high;
        low = low;
        high = high;
      }

  -- ---- the page behind the chain

  module _ (page : x.page < count) (whole : count * 256 ≤ length img) (array : x.length ≤ length x.staged)
      (l : List PagePointer) (t : Trails count d img x l) (apart : Each (λ j. j ≡ x.page → ⊥) (ids l)) where
    abbrev pub new : PagePointer
    new = record { page_id = x.page; header = staged_header x }

    inside : x.page < length img / 256
    inside = omega arith

    size : length (staged_bytes x) ≡ x.length
    size = length-take-le x.length x.staged array

    -- its header reads back
    pub flush_stands : read_at (ran img (flush_stores x)) x.page ≡ readable (staged_header x)
    flush_stands = data_header img x.page (staged_bytes x) inside (omega (arith, size)) (staged_header x) (staged_written l t)

    -- it follows the page before it by the rule
    chain_by : (m : List PagePointer) → Trails count d img x m → Each (λ j. j ≡ x.page → ⊥) (ids m) → Chain count d (read_at (ran img (flush_stores x))) new m
    unfolding staged_header
    chain_by [] u a = alone count d (read_at (ran img (flush_stores x))) new
    chain_by (q ∷ m) u a =
        let h = u.written in
        let f : Follows count d q new =
        links_follow count d q new u.inside (omega (arith, u.inside)) u.long (omega (arith, h.low)) u.meets h.nine (links_some x q u.is (omega (arith, u.inside))) in
        let s : read_at (ran img (flush_stores x)) q.page_id ≡ readable q.header =
        ap header_of (data_others img x.page (staged_header x) (staged_bytes x) q.page_id a.0) ∙ u.stands in
        appended count d (read_at (ran img (flush_stores x))) new q m s f
        (chain_ran count d img (flush_stores x) q m (a.1, (a.1, (a.1, tt))) u.chain)

    pub flush_chain : Chain count d (read_at (ran img (flush_stores x))) new l
    flush_chain = chain_by l t apart

    -- so a writer goes on behind it
    pub flush_trails : d ≤ x.length → Trails count d (ran img (flush_stores x)) (flushed x) (new ∷ l)
    unfolding flushed staged_header
    flush_trails long =
        record {
          is = refl;
          chain = flush_chain;
          stands = flush_stands;
          meets = refl;
          inside = page;
          long = long;
          written = staged_written l t;
        }

    -- ---- the bytes

    kept_bytes : (m : List PagePointer) → Each (λ j. j ≡ x.page → ⊥) (ids m) → payloads (ran img (flush_stores x)) m ≡ payloads img m
    kept_bytes [] a = refl
    kept_bytes (q ∷ m) a =
        ap₂ (λ (u v : List ℕ). u ++ payload_of v) (kept_bytes m a.1) (data_others img x.page (staged_header x) (staged_bytes x) q.page_id a.0)

    -- the staged bytes come last
    pub flush_bytes : payloads (ran img (flush_stores x)) (new ∷ l) ≡ payloads img l ++ staged_bytes x
    flush_bytes =
        let e : (staged_header x).length ≡ length (staged_bytes x) = staged_length x ∙ sym size in
        ap₂ (λ (u v : List ℕ). u ++ v) (kept_bytes l apart) (data_payload img x.page (staged_bytes x) inside (omega (arith, size)) (staged_header x) (staged_written l t) e)
