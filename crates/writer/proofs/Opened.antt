-- Opening a writer on a file whose pages stand in the image: the writer is right behind them, and they and its staged page hold the
-- file's bytes. Discarding it takes back what it allocated. Assumes nothing.
use Rattle.state.specs.Refusals.{fine}
use Prim.Native.Nat.{ℕ, zero, suc, ◌+◌, ◌*◌, ◌≤◌, ◌<◌}
use mathlib.Core.Path.{◌≡◌, refl, sym, ap, ◌∙◌}
use mathlib.Core.Bool.{true, false}
use mathlib.Core.List.{List, [], ◌∷◌, ◌++◌, append-nil}
use native.Mathlib.Omega.{arith}
use lib.ListN.{length, take, get_or, set, replicate}
use lib.Seq.{set-set, get_or-set_same}
use Rattle.seq.specs.Ids.{none}
use Rattle.runs.specs.Runs.{part, placed}
use Rattle.runs.proofs.Laws.{length_part}
use Rattle.page.specs.Page.{Read, readable, page_of, payload_of, Bytes, Written}
use Rattle.page.proofs.Laws.{bytes_page, page_length}
use Rattle.page.proofs.Headers.{header_written, header_there, payload_part}
use Rattle.map.specs.Map.{free, used}
use Rattle.map.proofs.Laws.{Found}
use Rattle.chain.specs.declared.PagePointer.{PagePointer}
use Rattle.chain.specs.Links.{Chain, ids}
use Rattle.chain.specs.Steps.{read_at}
use Rattle.chain.specs.Walk.{Each}
use Rattle.chain.specs.Files.{last_of}
use Rattle.chain.proofs.Chains.{step_chain}
use Rattle.state.specs.declared.types.FileRecord.{FileRecord}
use Rattle.state.specs.Values.{no_writer, with_writer}
use Rattle.state.specs.Checks.{checks}
use Rattle.state.specs.World.{World}
use Rattle.state.proofs.Laws.{Shaped}
use Rattle.writer.specs.Staging.{previous_of}
use Rattle.writer.specs.Open.{ready_writer, no_page, copy_writer}
use Rattle.writer.specs.Finish.{Back, pages, back_from, marked, discard}
use Rattle.writer.specs.Inner.{unbroken, freed_by}
use Rattle.writer.specs.Holds.{payloads, Trails, Holds, Undoes}
use Rattle.writer.proofs.Exits.{discard_done}
use Rattle.writer.proofs.Held.{take_placed, set_taken, each_map}
use Rattle.writer.proofs.Cuts.{length_placed}
use Rattle.writer.proofs.Undone.{set_free, marked_some}

-- a file whose pages stand in the image, the last one and the older ones l, none of them free
pub record Stood (count d : ℕ) (img map : List ℕ) (f : FileRecord) (l : List PagePointer) : Type 0 where
  pub few : count ≤ 1024
  pub whole : count * 256 ≤ length img
  pub bytes : Bytes img
  pub chain : Chain count d (read_at img) (last_of f) l
  pub stands : read_at img f.last_page ≡ readable f.header
  pub shaped : Shaped count f
  pub taken : Each (λ j. get_or map j 1 ≡ 0 → ⊥) (ids (last_of f ∷ l))

-- ---- opening

module _ (count d i c : ℕ) (img m : List ℕ) (f : FileRecord) where
  -- an empty file
  pub open_empty : count ≤ 1024 → count * 256 ≤ length img → f.last_page ≡ none
      → Holds count d (record { image = img; map = m; cursor = c; writer = ready_writer i f }) [] [] × Undoes [] m m (ready_writer i f) []
  unfolding ready_writer
  open_empty few whole e = (
    record { room = few; image = whole; trails = e; taken = tt; staged = λ n. absurd (n refl); idle = λ q. refl; array = refl; bytes = refl },
    record { base = refl; most = omega arith; undo = refl },
  )

  module _ (l : List PagePointer) (h : Stood count d img m f l) where
    last_written : Written f.header
    last_written = header_written (page_of img f.last_page) (bytes_page img f.last_page h.bytes) f.header h.stands

    -- a full last page is kept
    pub open_kept : d ≤ f.header.length
        → Holds count d (record { image = img; map = m; cursor = c; writer = ready_writer i f }) (last_of f ∷ l) (payloads img (last_of f ∷ l))
        × Undoes (last_of f ∷ l) m m (ready_writer i f) (last_of f ∷ l)
    unfolding ready_writer
    open_kept long = (
      record {
        room = h.few;
        image = h.whole;
        trails = record { is = refl; chain = h.chain; stands = h.stands; meets = h.shaped.end; inside = h.shaped.inside; long = long; written = last_written };
        taken = h.taken;
        staged = λ n. absurd (n refl);
        idle = λ q. refl;
        array = refl;
        bytes = append-nil (payloads img (last_of f ∷ l));
      },
      record { base = refl; most = omega arith; undo = refl },
    )

    -- a shorter one is copied to the page p, behind the page before it
    abbrev Behind : PagePointer → List PagePointer → Type 0
    Behind q [] = q ≡ no_page
    Behind q (r ∷ k) = q ≡ r

    copy_trails : (p : ℕ) (q : PagePointer) (k : List PagePointer) → Behind q k → Chain count d (read_at img) (last_of f) k → Trails count d img (copy_writer img i f q p) k
    unfolding copy_writer
    copy_trails p q [] e g = ap (λ (z : PagePointer). z.page_id) e
    copy_trails p q (r ∷ k) e g =
        record {
          is = e;
          chain = record { linked = g.linked.1; stand = g.stand.1 };
          stands = g.stand.0;
          meets = g.linked.0.meets;
          inside = g.linked.0.inside;
          long = g.linked.0.long;
          written = header_written (page_of img r.page_id) (bytes_page img r.page_id h.bytes) r.header g.stand.0;
        }

    pub open_copied : (p cursor : ℕ) (q : PagePointer) → Behind q l → Found m count cursor p
        → Holds count d (record { image = img; map = set m p used; cursor = c; writer = copy_writer img i f q p }) l (payloads img (last_of f ∷ l))
        × Undoes l m (set m p used) (copy_writer img i f q p) l
    unfolding copy_writer
    open_copied p cursor q e g =
        let pg = page_of img f.last_page in
        let n = f.header.length in
        let no : p ≡ none → ⊥ = λ z. omega (arith, g.inside, h.few) in
        let s = page_length img f.last_page (header_there img f.last_page f.header h.stands) in
        let k : length (part (page_of img f.last_page) 32 f.header.length) ≡ f.header.length = length_part (page_of img f.last_page) 32 f.header.length (omega (arith, h.shaped.high)) in
        let t : take f.header.length (placed (replicate 224 0) 0 (part (page_of img f.last_page) 32 f.header.length)) ≡ payload_of (page_of img f.last_page) =
        ap (λ (j : ℕ). take j (placed (replicate 224 0) 0 (part (page_of img f.last_page) 32 f.header.length))) (sym (zero-add k))
        ∙ take_placed (replicate 224 0) (part (page_of img f.last_page) 32 f.header.length) 0 (omega (arith, h.shaped.high))
        ∙ sym (payload_part (page_of img f.last_page) f.header h.stands) in (
          record {
            room = h.few;
            image = h.whole;
            trails = copy_trails p q l e h.chain;
            taken = each_map (λ j. get_or m j 1 ≡ 0 → ⊥) (λ j. get_or (set m p used) j 1 ≡ 0 → ⊥) (λ j z. set_taken m p j g.within z) (ids l) h.taken.1;
            staged = λ z. record {
              inside = g.inside;
              taken = λ w. omega (arith, get_or-set_same m p used 1 g.within);
              apart = each_map (λ j. get_or m j 1 ≡ 0 → ⊥) (λ j. j ≡ p → ⊥) (λ j z w. z (ap (λ (y : ℕ). get_or m y 1) w ∙ g.free)) (ids l) h.taken.1;
            };
            idle = λ w. absurd (no w);
            array = length_placed (replicate 224 0) 0 (part (page_of img f.last_page) 32 f.header.length);
            bytes = ap (λ (y : List ℕ). payloads img l ++ y) t;
          },
          record {
            base = refl;
            most = omega arith;
            undo = marked_some (set m p used) p no ∙ set-set m p used free ∙ set_free m p g.free;
          },
        )
      where
        zero-add : {a b : ℕ} → a ≡ b → 0 + a ≡ b
        zero-add e = omega arith

-- ---- discarding

-- the walk back over the pages of a chain
chain_back : (count d : ℕ) → 0 < d → (read : ℕ → Read) (n : ℕ) (p : PagePointer) (l : List PagePointer) → Chain count d read p l → n ≤ suc (length l)
    → back_from count read n p ≡ pages (ids (take n (p ∷ l)))
unfolding back_from
chain_back count d hd read zero p l c h = refl
chain_back count d hd read (suc zero) p l c h = refl
chain_back count d hd read (suc (suc n)) p [] c h = absurd (omega arith)
chain_back count d hd read (suc (suc n)) p (q ∷ l) c h =
    let f = c.linked.0 in
    let s = step_chain count d hd read 0 p q l c (omega (arith, f.meets, f.long)) in
    let r = chain_back count d hd read (suc n) q l (record { linked = c.linked.1; stand = c.stand.1 }) (omega arith) in
    rw (s, r)

none_of : (count : ℕ) (read : ℕ → Read) (n : ℕ) (p : PagePointer) → n ≤ 0 → back_from count read n p ≡ pages (ids (take n []))
unfolding back_from
none_of count read zero p h = refl
none_of count read (suc n) p h = absurd (omega arith)

-- a discard after any writes leaves every page as it was, and the map as it was before the writer was opened
pub discard_undoes : (d : ℕ) → 0 < d → (w : World) → checks (length w.image) (length w.map) w.state false 0 ≡ fine → w.state.writer.active ≡ true
    → (l old : List PagePointer) (b was : List ℕ) (c : ℕ)
    → Holds w.state.page_count d (record { image = w.image; map = w.map; cursor = c; writer = w.state.writer }) l b
    → Undoes old was w.map w.state.writer l
    → discard w ≡ record { answer = fine; stores = []; map = was; table = w.table; state = with_writer w.state no_writer }
discard_undoes d hd w ok on l old b was c h o =
    let e = walked l h.trails o.most in
    discard_done w fine (sym ok) refl on (ap unbroken e)
    ∙ ap (λ (m : List ℕ). record { answer = fine; stores = []; map = m; table = w.table; state = with_writer w.state no_writer })
    (ap (λ (y : Back). marked (freed_by w.map y) w.state.writer.page free) e ∙ o.undo)
  where
    walked : (l : List PagePointer) → Trails w.state.page_count d w.image w.state.writer l → w.state.writer.stored ≤ length l
        → back_from w.state.page_count (read_at w.image) w.state.writer.stored (previous_of w.state.writer) ≡ pages (ids (take w.state.writer.stored l))
    walked [] t z = none_of w.state.page_count (read_at w.image) w.state.writer.stored (previous_of w.state.writer) z
    walked (q ∷ k) t z =
        ap (λ (p : PagePointer). back_from w.state.page_count (read_at w.image) w.state.writer.stored p) t.is
        ∙ chain_back w.state.page_count d hd (read_at w.image) w.state.writer.stored q k t.chain z
