-- The ledger tells the bytes of files, of what is committed and of the open writer: what keeps it so. Assumes nothing.
use Rattle.state.specs.World.{World, Outcome, ended}
use Rattle.state.specs.declared.types.Writer as StateWriter
use Rattle.chain.specs.Files.{last_of}
use Rattle.seq.specs.Ids.{none}
use Rattle.owners.specs.Store as st
use Rattle.writer.specs.Staging.{record_ended, previous_of}
use Rattle.writer.specs.Write.{record_end}
use Rattle.writer.specs.Finish as FinishCalls
use Rattle.search.specs.Search as SearchCalls
use Rattle.search.specs.declared.search.Stand as SearchStand
use Rattle.search.specs.Hunt as hunting
use Rattle.state.specs.declared.types.Search.{Search}
use Prim.Native.Nat.{ℕ, ◌≤◌, ◌<◌}
use mathlib.Core.Path.{◌≡◌, refl, sym, ap, subst, ◌∙◌}
use mathlib.Core.Bool.{true, false}
use mathlib.Core.List.{List}
use lib.ListN.{length, get_or}
use Rattle.page.specs.declared.DataHeader.{DataHeader}
use Rattle.state.specs.declared.types.FileRecord.{FileRecord}
use Rattle.chain.specs.declared.PagePointer.{PagePointer}
use Rattle.reached.specs.Asked.{Byte, byte, byte_by}
use Rattle.reached.specs.Ledger.{Noted, Ledger, draft_at}
use Rattle.reached.proofs.Demand2.{bytes_kept}
use Rattle.reached.proofs.Drafts.{Drafted}
use Rattle.agree.specs.View.{view, as_file, rec_at}
use Rattle.agree.proofs.Keeps.{cond_by, checked_by}
use Rattle.agree.proofs.Pages.{clash}
use Rattle.agree.specs.Good.{RecordOk}
use Rattle.agree.proofs.Records.{file_by}
use Rattle.agree.proofs.Walking.{walk_complete, file_walk}
use Rattle.owners.specs.State.{Base, Mounted, first_of}
use Rattle.owners.specs.Store.{File, gone, live, Owner, Mem, FileAt}
use Rattle.owners.proofs.Walks.{walk_head, shorter_sub, walk_shorter}
use Rattle.page.specs.Page.{page_of, readable, header_of}
use Rattle.state.specs.Values.{file_at, is_empty, in_shape, no_writer, no_search, with_writer, with_search}
use Rattle.chain.specs.Steps.{read_at, walk}

-- the byte at a number, from a page back
abbrev pub byte_from : List ℕ → ℕ → PagePointer → ℕ → Byte
byte_from img count p n = byte_by img n (walk count (read_at img) n p).ends

-- a file is as noted: its first number, and its bytes by their numbers
pub record Spells (img : List ℕ) (count p first last : ℕ) (l : Noted) : Type 0 where
  pub size : length l.bytes ≡ last
  pub starts : l.first ≡ first
  pub is : (h : DataHeader) → read_at img p ≡ readable h → (n : ℕ) → first ≤ n → n < last → byte_from img count (record { page_id = p; header = h }) n ≡ byte (get_or l.bytes n 0)

-- an empty one
pub record Bare (l : Noted) : Type 0 where
  pub size : length l.bytes ≡ 0
  pub starts : l.first ≡ 0

abbrev pub Text : List ℕ → ℕ → File → Noted → Type 0
Text img count gone l = Bare l
Text img count (live p a e g) l = Spells img count p a e l

-- the same, said of its record
pub record Tale (img : List ℕ) (count : ℕ) (f : FileRecord) (l : Noted) : Type 0 where
  pub size : length l.bytes ≡ f.last_seq
  pub starts : l.first ≡ f.first_seq
  pub is : (f.last_page ≡ none → ⊥) → (n : ℕ) → f.first_seq ≤ n → n < f.last_seq → byte_from img count (last_of f) n ≡ byte (get_or l.bytes n 0)

pub tale_of : (img : List ℕ) (count : ℕ) (f : FileRecord) (l : Noted) → RecordOk img f → Text img count (as_file f) l → Tale img count f l
tale_of img count f l k t =
    file_by f
    (λ z e. let u = subst (λ (y : File). Text img count y l) e t in record { size = u.size ∙ sym (k.empty z).last; starts = u.starts ∙ sym (k.empty z).first; is = λ n. absurd (n z) })
    (λ z e. let u = subst (λ (y : File). Text img count y l) e t in record { size = u.size; starts = u.starts; is = λ n. u.is f.header (k.stands z) })

pub record Tells (N : ℕ) (w : World) (g : Ledger) : Type 0 where
  pub files : (i : ℕ) → i < 8 → Text w.image w.state.page_count (as_file (rec_at w.table i)) (g.files i)
  pub base : (b : Base) → Mounted N (view w.image) b → (i : ℕ) → i < 8 → Text w.image b.pc (b.tab i) (g.committed i)
  pub draft : w.state.writer.active ≡ true → Drafted w.image w.state.page_count (first_of (as_file (rec_at w.table w.state.writer.file))) w.state.writer g.draft
  pub whose : w.state.writer.active ≡ true → g.opened ≡ w.state.writer.file

-- ---- framing

pub text_frame : (img img' : List ℕ) {pc : ℕ} {f : File} {own : ℕ → Owner} {i : ℕ} (l : Noted) → FileAt (view img) pc f own i → ((x : ℕ) → own x ≡ st.file i → page_of img' x ≡ page_of img x) → Text img pc f l → Text img' pc f l
text_frame img img' {pc} {f} {own} {i} l a h t = by f refl t
  where
    by : (g : File) → f ≡ g → Text img pc g l → Text img' pc g l
    by gone e t = t
    by (live p first last k) e t =
        let u = file_walk a.ok e in
        let p_mine = a.mine p (walk_head u) in
        record {
          size = t.size;
          starts = t.starts;
          is = λ d s n low high.
              let s₀ : read_at img p ≡ readable d = sym (ap header_of (h p p_mine)) ∙ s in
              let r : FileRecord = record { dirty = false; last_page = p; header = d; first_seq = first; last_seq = last; flags = k } in
              let c = walk_shorter n u low in
              let z = walk_complete img pc n (last_of r) s₀ c.walk in
              bytes_kept img img' pc r n z.last z.ends (λ x m. h x (a.mine x (shorter_sub c x (subst (Mem x) z.pages m)))) ∙ t.is d s₀ n low high;
        }

-- other flags
pub text_flags : (img : List ℕ) (count p a e g g' : ℕ) (l : Noted) → Text img count (live p a e g) l → Text img count (live p a e g') l
text_flags img count p a e g g' l t = t

-- ---- calls that change no byte and no file

pub record Quiet (w w' : World) : Type 0 where
  pub image : w'.image ≡ w.image
  pub count : w'.state.page_count ≡ w.state.page_count
  pub files : (i : ℕ) → i < 8 → (l : Noted) → Text w.image w.state.page_count (as_file (rec_at w.table i)) l → Text w.image w.state.page_count (as_file (rec_at w'.table i)) l
  pub draft : w'.state.writer.active ≡ true → (l : List ℕ)
      → (w.state.writer.active ≡ true → Drafted w.image w.state.page_count (first_of (as_file (rec_at w.table w.state.writer.file))) w.state.writer l)
      → Drafted w.image w.state.page_count (first_of (as_file (rec_at w'.table w'.state.writer.file))) w'.state.writer l
  pub whose : w'.state.writer.active ≡ true → (w.state.writer.active ≡ true) × (w'.state.writer.file ≡ w.state.writer.file)

pub tells_quiet : {N : ℕ} {w w' : World} (g : Ledger) → Quiet w w' → Tells N w g → Tells N w' g
tells_quiet {N} {w} {w'} g q t =
    record {
      files = λ i h. subst (λ (x : List ℕ). Text x w'.state.page_count (as_file (rec_at w'.table i)) (g.files i)) (sym q.image)
          (subst (λ (c : ℕ). Text w.image c (as_file (rec_at w'.table i)) (g.files i)) (sym q.count) (q.files i h (g.files i) (t.files i h)));
      base = subst (λ (x : List ℕ). (b : Base) → Mounted N (view x) b → (i : ℕ) → i < 8 → Text x b.pc (b.tab i) (g.committed i)) (sym q.image) t.base;
      draft = λ e. subst (λ (x : List ℕ). Drafted x w'.state.page_count (first_of (as_file (rec_at w'.table w'.state.writer.file))) w'.state.writer g.draft) (sym q.image)
          (subst (λ (c : ℕ). Drafted w.image c (first_of (as_file (rec_at w'.table w'.state.writer.file))) w'.state.writer g.draft) (sym q.count) (q.draft e g.draft t.draft));
      whose = λ e. let z = q.whose e in t.whose z.0 ∙ sym z.1;
    }

abbrev pub Silent : {A : Type 0} → World → Outcome A → Type 0
Silent w o = Quiet w (ended w o).world

pub quiet_same : (w : World) → Quiet w w
quiet_same w = record { image = refl; count = refl; files = λ i h l t. t; draft = λ e l t. t e; whose = λ e. (e, refl) }

search_quiet : (w : World) (q : Search) → Quiet w (record { image = w.image; map = w.map; table = w.table; state = with_search w.state q })
unfolding with_search
search_quiet w q = record { image = refl; count = refl; files = λ i h l t. t; draft = λ e l t. t e; whose = λ e. (e, refl) }

sought_quiet : (w : World) (s : SearchStand.Stand) → Silent w (SearchCalls.sought w s)
unfolding SearchCalls.sought
sought_quiet w s = by (hunting.hunt w.state.page_count (read_at w.image) s.left s.right s.links)
  where
    by : (y : hunting.Sought) → Silent w (SearchCalls.sought_by w s y)
    by (hunting.offered left o) = search_quiet w (SearchCalls.offering s left o)
    by hunting.ended = search_quiet w no_search
    by hunting.broken = quiet_same w

pub start_quiet : (w : World) (i : ℕ) → Silent w (SearchCalls.start w i)
unfolding SearchCalls.start SearchCalls.start_in
start_quiet w i =
    checked_by (Silent w) w w.state.transaction i _ _ (λ why. quiet_same w)
    (λ h. cond_by (Silent w) (is_empty (file_at w.table i)) _ _ (λ e. search_quiet w no_search)
    (λ e. cond_by (Silent w) (in_shape w.state.page_count (file_at w.table i)) _ _ (λ t. sought_quiet w _) (λ t. quiet_same w)))

pub answered_quiet : (w : World) (f : Search → SearchStand.Stand) → Silent w (SearchCalls.answered w f)
unfolding SearchCalls.answered
answered_quiet w f =
    checked_by (Silent w) w w.state.transaction 0 _ _ (λ why. quiet_same w)
    (λ h. cond_by (Silent w) w.state.search.active _ _ (λ e. sought_quiet w _) (λ e. quiet_same w))

ended_draft : (img : List ℕ) (count first : ℕ) (x : StateWriter.Writer) (l : List ℕ) → Drafted img count first x l → Drafted img count first (record_ended x) l
unfolding record_ended draft_at
ended_draft img count first x l d = record { size = d.size; is = d.is }

pub record_end_quiet : (w : World) → Silent w (record_end w)
unfolding record_end with_writer record_ended
record_end_quiet w =
    checked_by (Silent w) w false 0 _ _ (λ why. quiet_same w)
    (λ h. cond_by (Silent w) w.state.writer.active _ _
    (λ e. record { image = refl; count = refl; files = λ i h l t. t; draft = λ on l t. ended_draft w.image w.state.page_count (first_of (as_file (rec_at w.table w.state.writer.file))) w.state.writer l (t e); whose = λ on. (e, refl) }) (λ e. quiet_same w))

pub discard_quiet : (w : World) → Silent w (FinishCalls.discard w)
unfolding FinishCalls.discard with_writer no_writer
discard_quiet w =
    checked_by (Silent w) w false 0 _ _ (λ why. quiet_same w)
    (λ h. cond_by (Silent w) w.state.writer.active _ _
    (λ e. by (FinishCalls.back_from w.state.page_count (read_at w.image) w.state.writer.stored (previous_of w.state.writer))) (λ e. quiet_same w))
  where
    by : (y : FinishCalls.Back) → Silent w (FinishCalls.discarded_by w w.state.writer y)
    by FinishCalls.lost = quiet_same w
    by (FinishCalls.pages l) = record { image = refl; count = refl; files = λ i h l t. t; draft = λ e l t. clash cc; whose = λ e. clash cc }
