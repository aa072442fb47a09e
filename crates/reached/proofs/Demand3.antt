-- Live numbers are located and read, in every world that calls reach from a format. Assumes nothing.
use Rattle.std.specs.Prelude.{Err}
use Rattle.seq.specs.Ids.{none}
use Rattle.state.specs.World.{World}
use Rattle.chain.specs.Files.{last_of}
use Rattle.chain.specs.Links.{start, end}
use Rattle.chain.specs.Steps.{at}
use Rattle.chain.specs.Seek.{Right, most}
use Rattle.chain.proofs.Seeks.{right}
use Rattle.chain.proofs.Seeks as seeks
use Rattle.runs.specs.Runs.{part}
use Rattle.reader.specs.Locate.{located_at}
use Rattle.reader.specs.declared.Reader.{Reader}
use Rattle.reader.specs.Locate.{path_of, located_by, locate_in, locate}
use Rattle.reader.specs.Read.{Opened, shown, opened_at, opened_by, open_at, some, before, here, bytes_here, bytes_by, bytes_from, read_by, read_kept, read_in, moved, read}
use Rattle.reader.specs.Read as reading
use Rattle.owners.specs.Store as st
use Prim.Native.Nat.{ℕ, zero, suc, ◌+◌, ◌-◌, ◌≤◌, ◌<◌}
use mathlib.Core.Path.{◌≡◌, refl, sym, ap, ap₂, subst, ◌∙◌}
use mathlib.Core.Bool.{Bool, true, false, cond}
use mathlib.Core.Logic.{inl, inr}
use mathlib.Core.List.{List, [], ◌∷◌, ◌++◌}
use native.Mathlib.Omega.{arith}
use native.Mathlib.Decide.{ℕ_discrete, dec_lt}
use lib.ListN.{length, drop, get_or, length-append, get_or-append}
use lib.Seq.{get_or-take, get_or-drop, get_or-append-add}
use lib.Dec.{eqb}
use borrow.Author.Tests.{eq-eqb, ne_eqb, le-leb, lt-leb, lt-ltb, le-ltb}
use Rattle.page.specs.declared.DataHeader.{DataHeader}
use Rattle.state.specs.declared.types.FileRecord.{FileRecord}
use Rattle.chain.specs.declared.PagePointer.{PagePointer}
use Rattle.reached.specs.Asked.{In, OnChain, byte, byte_by, byte_at, Locates, Reads}
use Rattle.reached.proofs.Held.{Held}
use Rattle.reached.proofs.Partition.{in_mem, mem_in, chain_pages}
use Rattle.agree.specs.Good.{Good}
use Rattle.agree.specs.Rules.{Reaches}
use Rattle.agree.specs.View.{rec_at}
use Rattle.agree.proofs.Counts.{good_checks}
use Rattle.agree.proofs.Records.{file_live, file_at_lem, Ranges, file_ranges, file_end}
use Rattle.agree.proofs.Ruling.{cut, cut_pages, record_chain}
use Rattle.agree.proofs.Walking.{file_walk}
use Rattle.owners.specs.Moves.{mem_nil, mem_tail}
use Rattle.owners.specs.State.{Base}
use Rattle.owners.specs.Store.{Owner, Mem, there}
use Rattle.owners.proofs.Commit.{idle}
use Rattle.page.specs.Page.{page_of, Read, readable, holds}
use Rattle.page.proofs.Headers.{header_bounds, header_there, holds_in, holds_bounds}
use Rattle.page.proofs.Laws.{page_length}
use Rattle.state.specs.Checks.{checks}
use Rattle.state.specs.Refusals.{on_done, Done, fine}
use Rattle.state.specs.Values.{file_at, in_shape}
use Rattle.chain.specs.Links.{Stand, oldest, holder, ids, Among}
use Rattle.chain.specs.Steps.{read_at, seek, walk}
use Rattle.runs.proofs.Laws.{length_part}

-- a count and a record
record Both : Type 0 where
  pub count : ℕ
  pub file : FileRecord

abbrev both : ℕ → FileRecord → Both
both c f = record { count = c; file = f }

-- ---- pages of a chain, by their ids

record Page (reads : ℕ → Read) (p : PagePointer) (l : List PagePointer) (j : ℕ) : Type 0 where
  pub page : PagePointer
  pub among : Among page p l
  pub is : page.page_id ≡ j
  pub stands : reads j ≡ readable page.header

page_of_id : (reads : ℕ → Read) (p : PagePointer) (l : List PagePointer) (j : ℕ) → reads p.page_id ≡ readable p.header → Stand reads l → Mem j (p.page_id ∷ ids l) → Page reads p l j
page_of_id reads p [] j s t k = by (ℕ_discrete j p.page_id)
  where
    by : Dec (j ≡ p.page_id) → Page reads p [] j
    by (yes e) = record { page = p; among = refl; is = sym e; stands = ap reads e ∙ s }
    by (no n) = absurd (mem_nil (mem_tail k n) refl)
page_of_id reads p (q ∷ l) j s t k = by (ℕ_discrete j p.page_id) (λ m. page_of_id reads q l j t.0 t.1 m)
  where
    by : Dec (j ≡ p.page_id) → (Mem j (q.page_id ∷ ids l) → Page reads q l j) → Page reads p (q ∷ l) j
    by (yes e) f = record { page = p; among = inl refl; is = sym e; stands = ap reads e ∙ s }
    by (no n) f = let r = f (mem_tail k n) in record { page = r.page; among = inr r.among; is = r.is; stands = r.stands }

among_stands : (reads : ℕ → Read) (x p : PagePointer) (l : List PagePointer) → reads p.page_id ≡ readable p.header → Stand reads l → Among x p l → reads x.page_id ≡ readable x.header
among_stands reads x p [] h s a = rw a h
among_stands reads x p (q ∷ l) h s (inl a) = rw a h
among_stands reads x p (q ∷ l) h s (inr a) = among_stands reads x q l s.0 s.1 a

-- its id is among theirs
pub among_mem : (x p : PagePointer) (l : List PagePointer) → Among x p l → Mem x.page_id (p.page_id ∷ ids l)
among_mem x p [] a = rw a st.here
among_mem x p (q ∷ l) (inl a) = rw a st.here
among_mem x p (q ∷ l) (inr a) = st.there (among_mem x q l a)

-- a byte of a part
pub part_at : (l : List ℕ) (o n k : ℕ) → k < n → get_or (part l o n) k 0 ≡ get_or l (o + k) 0
unfolding part
part_at l o n k h = get_or-take n (drop o l) k 0 h ∙ get_or-drop o l k 0

-- ---- a live number of a file

module _ {N : ℕ} {w : World} {b : Base} {own : ℕ → Owner} (g : Good (Unit {0}) N w b own) (i : ℕ) (i8 : i < 8) where
  abbrev f : FileRecord
  f = rec_at w.table i

  abbrev img : List ℕ
  img = w.image

  abbrev P : PagePointer
  P = last_of (rec_at w.table i)

  module _ (n : ℕ) (low : (rec_at w.table i).first_seq ≤ n) (high : n < (rec_at w.table i).last_seq) where
    live_some : (rec_at w.table i).last_page ≡ none → ⊥
    live_some z = omega (arith, ((g.sees.recs i).empty z).last)

  -- a file that is not empty
  module _ (full : (rec_at w.table i).last_page ≡ none → ⊥) where
    R : Reaches w.image b.pc (rec_at w.table i).first_seq (last_of (rec_at w.table i))
    R = cut (record_chain (rec_at w.table i) (g.sees.recs i) full ((g.rules tt).now i))

    stands_last : read_at w.image (rec_at w.table i).last_page ≡ readable (rec_at w.table i).header
    stands_last = (g.sees.recs i).stands full

    ranges : Ranges b.pc (rec_at w.table i)
    ranges = file_ranges (rec_at w.table i) (file_live (rec_at w.table i) full) (g.inv.files i).ok

    ends_there : (rec_at w.table i).header.seq + (rec_at w.table i).header.length ≡ (rec_at w.table i).last_seq
    ends_there = file_end w.image (rec_at w.table i) (file_live (rec_at w.table i) full) (g.inv.files i).ok stands_last

    in_shape_lem : in_shape b.pc (rec_at w.table i) ≡ true
    unfolding in_shape
    in_shape_lem =
        let h = header_bounds (page_of img f.last_page) f.header stands_last in
        rw (lt-ltb f.last_page b.pc ranges.inside, le-leb 1 f.header.length h.0, le-leb f.header.length 224 h.1, eq-eqb (f.header.seq + f.header.length) f.last_seq ends_there, lt-ltb f.first_seq f.last_seq ranges.some)

    -- the chain's pages are those that mount's walk visits
    chain_ids : (rec_at w.table i).last_page ∷ ids R.older ≡ (g.inv.files i).pages
    unfolding R
    chain_ids = cut_pages (record_chain (rec_at w.table i) (g.sees.recs i) full ((g.rules tt).now i)) stands_last (file_walk (g.inv.files i).ok (file_live (rec_at w.table i) full))

    -- the page of a number
    abbrev page : ℕ → PagePointer
    page n = holder n (last_of (rec_at w.table i)) R.older

    module _ (n : ℕ) (low : (rec_at w.table i).first_seq ≤ n) (high : n < (rec_at w.table i).last_seq) where
      far : start (oldest (last_of (rec_at w.table i)) R.older) ≤ n
      far = omega (arith, R.far)

      right_page : Right b.pc (read_at w.image) n (last_of (rec_at w.table i)) R.older (page n)
      right_page = right b.pc (read_at img) n P R.older far 224 (omega arith) R.chain (omega (arith, ends_there))

      page_stands : read_at w.image (page n).page_id ≡ readable (page n).header
      page_stands = among_stands (read_at img) (page n) P R.older stands_last R.chain.stand right_page.among

      page_holds : holds (page n).header n ≡ true
      page_holds = holds_in (page n).header n right_page.holds.0 right_page.holds.1

      page_few : length (seek b.pc (read_at w.image) n (last_of (rec_at w.table i))).path ≤ most n (rec_at w.table i).header.seq
      page_few = seeks.few b.pc (read_at img) n P R.older far R.chain

      -- no other page of the chain holds the number
      page_only : (p : ℕ) (h : DataHeader) → Mem p ((rec_at w.table i).last_page ∷ ids R.older) → read_at w.image p ≡ readable h → holds h n ≡ true → p ≡ (page n).page_id
      page_only p h k s t =
          let x = page_of_id (read_at img) P R.older p stands_last R.chain.stand k in
          let y : readable x.page.header ≡ readable h = sym x.stands ∙ s in
          let z : x.page.header ≡ h = cc in
          let q = holds_bounds h n t in
          let e = right_page.only x.page x.among (subst (λ (d : DataHeader). d.seq ≤ n) (sym z) q.0) (subst (λ (d : DataHeader). n < d.seq + d.length) (sym z) q.1) in
          sym x.is ∙ ap (λ (y : PagePointer). y.page_id) e

      page_mem : Mem (page n).page_id ((rec_at w.table i).last_page ∷ ids R.older)
      page_mem = among_mem (page n) P R.older right_page.among

      -- its byte
      byte_is : byte_at w.image b.pc (rec_at w.table i) n ≡ byte (get_or (page_of w.image (page n).page_id) (32 + (n - start (page n))) 0)
      unfolding byte_at
      byte_is = ap (byte_by img n) right_page.stepped ∙ rw page_holds

      -- it opens
      opens : open_at w.image b.pc (rec_at w.table i) n ≡ shown (page n)
      unfolding open_at
      opens = ap (opened_at img n) right_page.sought ∙ ap (opened_by (page n).page_id n) page_stands ∙ rw page_holds

      -- for every number that it holds
      steady : (m : ℕ) → start (page n) ≤ m → m < end (page n) → (lo : (rec_at w.table i).first_seq ≤ m) (hi : m < (rec_at w.table i).last_seq) → page m ≡ page n
      steady m a c lo hi =
          let r = right b.pc (read_at img) m P R.older (omega (arith, R.far)) 224 (omega arith) R.chain (omega (arith, ends_there)) in
          sym (r.only (page n) right_page.among a c)

      -- LOCATE, past the checks
      locate_in_lem : locate_in w.image b.pc (rec_at w.table i) n ≡ located_at (page n).page_id (length (path_of w.image b.pc (rec_at w.table i) n).path)
      unfolding locate_in
      locate_in_lem =
          rw (le-ltb n f.first_seq low, lt-leb f.last_seq n high, in_shape_lem)
          (ap (located_by (length (path_of img b.pc f n).path)) right_page.sought)

    -- ---- READ

    record Bytes_of (seq n : ℕ) (r : reading.Bytes) : Type 0 where
      pub list : List ℕ
      pub is : r ≡ some list
      pub size : length list ≡ n
      pub each : (k : ℕ) → k < n → get_or list k 0 ≡ get_or (page_of w.image (page (seq + k)).page_id) (32 + (seq + k - start (page (seq + k)))) 0

    read_bytes : (k seq n : ℕ) → n ≤ k → (rec_at w.table i).first_seq ≤ seq → seq + n ≤ (rec_at w.table i).last_seq → Bytes_of seq n (bytes_from w.image b.pc (rec_at w.table i) k seq n)
    unfolding bytes_from
    read_bytes zero seq n h lo hi =
        let z : n ≡ 0 = omega arith in
        record { list = []; is = rw (eq-eqb n 0 z); size = sym z; each = λ k q. absurd (omega arith) }
    read_bytes (suc k) seq n h lo hi = by (ℕ_discrete n 0) (λ s m a c d. read_bytes k s m a c d)
      where
        nothing : n ≡ 0 → Bytes_of seq n (cond (eqb n 0) (some []) (bytes_by w.image (open_at w.image b.pc (rec_at w.table i) seq) seq n (λ j. bytes_from w.image b.pc (rec_at w.table i) k (seq + j) (n - j))))
        nothing z = record { list = []; is = rw (eq-eqb n 0 z); size = sym z; each = λ k q. absurd (omega arith) }

        turn : (pos : 0 < n) → ((s m : ℕ) → m ≤ k → (rec_at w.table i).first_seq ≤ s → s + m ≤ (rec_at w.table i).last_seq → Bytes_of s m (bytes_from w.image b.pc (rec_at w.table i) k s m))
            → Bytes_of seq n (cond (eqb n 0) (some []) (bytes_by w.image (open_at w.image b.pc (rec_at w.table i) seq) seq n (λ j. bytes_from w.image b.pc (rec_at w.table i) k (seq + j) (n - j))))
        turn pos ih =
            let alive : seq < f.last_seq = omega arith in
            let r = right_page seq lo alive in
            let o = opens seq lo alive in
            let p = page seq in
            let j = here p seq n in
            let b₀ = header_bounds (page_of img p.page_id) p.header (page_stands seq lo alive) in
            let len = page_length img p.page_id (header_there img p.page_id p.header (page_stands seq lo alive)) in
            let rest = ih (seq + j) (n - j) (omega (arith, r.holds.1)) (omega arith) (omega arith) in
            let size₀ : length (bytes_here img p seq n) ≡ here p seq n = length_part (page_of img p.page_id) (32 + (seq - start p)) j (omega (arith, r.holds.0)) in
            let nz : n ≡ 0 → ⊥ = λ z. omega arith in
            record {
              list = bytes_here img p seq n ++ rest.list;
              is = rw (ne_eqb n 0 nz) (ap (λ (x : Opened). bytes_by img x seq n (λ j. bytes_from img b.pc f k (seq + j) (n - j))) o ∙ ap (before (bytes_here img p seq n)) rest.is);
              size = simp length-append (omega (arith, size₀, rest.size));
              each = λ m q. one alive m q size₀ rest.list rest.each (dec_lt m (here p seq n));
            }
          where
            one : (alive : seq < (rec_at w.table i).last_seq) (m : ℕ) → m < n → length (bytes_here w.image (page seq) seq n) ≡ here (page seq) seq n → (l : List ℕ)
                → ((m : ℕ) → m < n - here (page seq) seq n → get_or l m 0 ≡ get_or (page_of w.image (page (seq + here (page seq) seq n + m)).page_id) (32 + (seq + here (page seq) seq n + m - start (page (seq + here (page seq) seq n + m)))) 0)
                → Dec (m < here (page seq) seq n) → get_or (bytes_here w.image (page seq) seq n ++ l) m 0 ≡ get_or (page_of w.image (page (seq + m)).page_id) (32 + (seq + m - start (page (seq + m)))) 0
            one alive m q size₀ l ih (yes k) =
                let r = right_page seq lo alive in
                let e = steady seq lo alive (seq + m) (omega (arith, r.holds.0)) (omega arith) (omega arith) (omega arith) in
                let z : 32 + (seq - start (page seq)) + m ≡ 32 + (seq + m - start (page seq)) = omega (arith, r.holds.0) in
                get_or-append (bytes_here img (page seq) seq n) l 0 m (omega arith)
                ∙ part_at (page_of img (page seq).page_id) (32 + (seq - start (page seq))) (here (page seq) seq n) m k
                ∙ ap (λ (y : ℕ). get_or (page_of img (page seq).page_id) y 0) z
                ∙ ap (λ (x : PagePointer). get_or (page_of img x.page_id) (32 + (seq + m - start x)) 0) (sym e)
            one alive m q size₀ l ih (no k) =
                let j = here (page seq) seq n in
                let z : m ≡ length (bytes_here img (page seq) seq n) + (m - here (page seq) seq n) = omega arith in
                let y : seq + here (page seq) seq n + (m - here (page seq) seq n) ≡ seq + m = omega arith in
                ap (λ (x : ℕ). get_or (bytes_here img (page seq) seq n ++ l) x 0) z ∙ get_or-append-add (bytes_here img (page seq) seq n) l (m - here (page seq) seq n) 0
                ∙ ih (m - here (page seq) seq n) (omega arith)
                ∙ ap (λ (x : ℕ). get_or (page_of img (page x).page_id) (32 + (x - start (page x))) 0) y

        by : Dec (n ≡ 0) → ((s m : ℕ) → m ≤ k → (rec_at w.table i).first_seq ≤ s → s + m ≤ (rec_at w.table i).last_seq → Bytes_of s m (bytes_from w.image b.pc (rec_at w.table i) k s m))
            → Bytes_of seq n (cond (eqb n 0) (some []) (bytes_by w.image (open_at w.image b.pc (rec_at w.table i) seq) seq n (λ j. bytes_from w.image b.pc (rec_at w.table i) k (seq + j) (n - j))))
        by (yes z) ih = nothing z
        by (no z) ih = turn (omega arith) ih

  -- ---- the calls

  module _ (idle : w.state.transaction ≡ false) where
    passes : checks (length w.image) (length w.map) w.state w.state.transaction i ≡ fine
    passes = ap (λ (c : Bool). checks (length w.image) (length w.map) w.state c i) idle ∙ good_checks g i (omega arith)

    in_files : i < length w.table.files
    in_files = omega (arith, g.sees.eight)

    pc_is : w.state.page_count ≡ b.pc
    pc_is = g.sees.pc

    file_is : file_at w.table i ≡ rec_at w.table i
    file_is = file_at_lem w.table i in_files

    -- LOCATE
    pub locates : (n : ℕ) → (file_at w.table i).first_seq ≤ n → n < (file_at w.table i).last_seq → Locates w i n
    unfolding locate
    locates n low high =
        record {
          page = page full n;
          gives =
              ap (λ (d : Done). on_done d Err (locate_in img w.state.page_count (file_at w.table i) n)) passes
              ∙ subst (λ (p : Both). locate_in img p.count p.file n ≡ located_at (page full n).page_id (length (path_of img p.count p.file n).path)) (sym both_is) (locate_in_lem full n lo hi);
          stepped = subst (λ (p : Both). (walk p.count (read_at img) n (last_of p.file)).ends ≡ at (page full n)) (sym both_is) (right_page full n lo hi).stepped;
          on_chain = subst (λ (f : FileRecord). OnChain w f (page full n).page_id) (sym file_is) (record { some = full; visits = subst (In (page full n).page_id) (sym (chain_pages g i full)) (mem_in (subst (Mem (page full n).page_id) (chain_ids full) (page_mem full n lo hi))) });
          stands = page_stands full n lo hi;
          held = page_holds full n lo hi;
          only = λ p h o s t. page_only full n lo hi p h (on_mem p o) s t;
          few = subst (λ (p : Both). length (path_of img p.count p.file n).path ≤ most n p.file.header.seq) (sym both_is) (page_few full n lo hi);
        }
      where
        lo : (rec_at w.table i).first_seq ≤ n
        lo = subst (λ (f : FileRecord). f.first_seq ≤ n) file_is low

        hi : n < (rec_at w.table i).last_seq
        hi = subst (λ (f : FileRecord). n < f.last_seq) file_is high

        full : (rec_at w.table i).last_page ≡ none → ⊥
        full = live_some n lo hi

        both_is : both w.state.page_count (file_at w.table i) ≡ both b.pc (rec_at w.table i)
        both_is = ap₂ both pc_is file_is

        on_mem : (p : ℕ) → OnChain w (file_at w.table i) p → Mem p ((rec_at w.table i).last_page ∷ ids (R full).older)
        on_mem p o =
            let o' = subst (λ (f : FileRecord). OnChain w f p) file_is o in
            subst (Mem p) (sym (chain_ids full)) (in_mem (subst (In p) (chain_pages g i full) o'.visits))

    -- READ
    pub reads : (r : Reader) (out : List ℕ) → r.file ≡ i → (file_at w.table i).first_seq ≤ r.seq → r.seq + length out ≤ (file_at w.table i).last_seq → 0 < length out → Reads w w r out
    unfolding read read_in
    reads r out e low high pos =
        record {
          bytes = B.list;
          gives =
              ap (λ (j : ℕ). on_done (checks (length w.image) (length w.map) w.state w.state.transaction j) (λ why. read_kept r out (Err why)) (read_in img w.state.page_count (file_at w.table j) r out)) e
              ∙ ap (λ (d : Done). on_done d (λ why. read_kept r out (Err why)) (read_in img w.state.page_count (file_at w.table i) r out)) passes
              ∙ subst (λ (p : Both). read_in img p.count p.file r out ≡ record { answer = fine; reader = moved r (length out); out = B.list }) (sym both_is) read_in_lem;
          size = B.size;
          each = λ k h. subst (λ (j : ℕ). byte_at img w.state.page_count (file_at w.table j) (r.seq + k) ≡ byte (get_or B.list k 0)) (sym e)
              (subst (λ (p : Both). byte_at img p.count p.file (r.seq + k) ≡ byte (get_or B.list k 0)) (sym both_is)
              (byte_is full (r.seq + k) (omega (arith, lo)) (omega (arith, hi)) ∙ ap byte (sym (B.each k h))));
        }
      where
        lo : (rec_at w.table i).first_seq ≤ r.seq
        lo = subst (λ (f : FileRecord). f.first_seq ≤ r.seq) file_is low

        hi : r.seq + length out ≤ (rec_at w.table i).last_seq
        hi = subst (λ (f : FileRecord). r.seq + length out ≤ f.last_seq) file_is high

        full : (rec_at w.table i).last_page ≡ none → ⊥
        full = live_some r.seq lo (omega (arith, hi))

        both_is : both w.state.page_count (file_at w.table i) ≡ both b.pc (rec_at w.table i)
        both_is = ap₂ both pc_is file_is

        B : Bytes_of full r.seq (length out) (bytes_from w.image b.pc (rec_at w.table i) (length out) r.seq (length out))
        B = read_bytes full (length out) r.seq (length out) (omega arith) lo hi

        nz : length out ≡ 0 → ⊥
        nz z = omega arith

        read_in_lem : read_in w.image b.pc (rec_at w.table i) r out ≡ record { answer = fine; reader = moved r (length out); out = B.list }
        read_in_lem =
            rw (ne_eqb (length out) 0 nz, le-ltb r.seq f.first_seq lo, lt-leb f.last_seq r.seq (omega (arith, hi)), le-ltb f.last_seq (r.seq + length out) hi, in_shape_lem full)
            (ap (read_by r out) B.is)

-- DEMAND 3
pub held_locates : {w : World} → Held w → w.state.transaction ≡ false → (i n : ℕ) → i < 8 → (file_at w.table i).first_seq ≤ n → n < (file_at w.table i).last_seq → Locates w i n
held_locates k idle i n i8 low high = locates k.good i i8 idle n low high

pub held_reads : {w : World} → Held w → w.state.transaction ≡ false → (r : Reader) (out : List ℕ) → r.file < 8 → 0 < length out → (file_at w.table r.file).first_seq ≤ r.seq
    → r.seq + length out ≤ (file_at w.table r.file).last_seq → Reads w w r out
held_reads k idle r out i8 pos low high = reads k.good r.file i8 idle r out refl low high pos
