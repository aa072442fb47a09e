-- One law for each way out of a call's definition, and what an opened page tells. Assumes nothing.
use Rattle.std.specs.Prelude.{Some, None, Result, Ok, Err}
use Rattle.state.specs.Refusals.{Done, fine}
use mathlib.Core.Path.{◌≡◌, refl, sym, ap, ◌∙◌}
use mathlib.Core.Bool.{Bool, true, false, cond, and-eq-true_iff}
use mathlib.Core.List.{List}
use Prim.Native.Nat.{ℕ, ◌+◌, ◌-◌, ◌<◌, ◌≤◌}
use native.Mathlib.Omega.{arith}
use borrow.Author.Tests.{lt-ltb, le-ltb, lt-leb, le-leb, leb-true, ltb-true, eq-eqb, ne_eqb}
use lib.Dec.{leb, ltb}
use lib.ListN.{length}
use Rattle.runs.proofs.Laws.{cond_by}
use Rattle.page.specs.declared.DataHeader.{DataHeader}
use Rattle.page.specs.Page.{Read, unreadable, readable, page_of, gives, holds}
use Rattle.page.proofs.Laws.{split, page_length}
use Rattle.page.proofs.Headers.{given_read, given_none, header_bounds, header_there}
use Rattle.state.specs.declared.types.Refusal.{Refusal}
use Rattle.state.specs.declared.types.Refusal.TheVariants.{Gone, Eof, Short}
use Rattle.state.specs.declared.types.FileRecord.{FileRecord}
use Rattle.state.specs.declared.types.State.{State}
use Rattle.state.specs.Checks.{checks}
use Rattle.state.specs.Values.{file_at, in_shape}
use Rattle.state.specs.World.{World}
use Rattle.state.proofs.Laws.{checks_pass}
use Rattle.chain.specs.declared.PagePointer.{PagePointer}
use Rattle.chain.specs.declared.Found.{Found}
use Rattle.chain.specs.Steps.{read_at, Sought, damaged, at, Trace}
use Rattle.chain.specs.Seek.{located_by as located_to, located}
use Rattle.reader.specs.declared.Reader.{Reader}
use Rattle.reader.specs.Locate.{path_of, located_by, locate_in, locate}
use Rattle.reader.specs.Read.{shut, shown, opened_by, opened_at, open_at, none, bytes_from, AfterRead, read_kept, read_by, read_in, read}
use Rattle.reader.specs.Skip.{landed_by, landed, skip_in, skip, seek_offset}
use Rattle.reader.specs.Ask.{reader_at}
use Rattle.reader.specs.Turn.{opening, behind}
use Rattle.std.proofs.lemmas.Option.{same_Some}

-- ---- checks 1 to 4, by what the code's check answered

pub known_file : (image map : ℕ) (s : State) (busy : Bool) (file : ℕ) (d : Done) → d ≡ checks image map s busy file → d ≡ fine → file ≤ 7
known_file image map s busy file d is e = (checks_pass image map s busy file (sym is ∙ e)).known

module _ (w : World) (file : ℕ) (d : Done) (is : d ≡ checks (length w.image) (length w.map) w.state w.state.transaction file) where
  pub locate_fine : (seq : ℕ) → d ≡ fine → locate_in w.image w.state.page_count (file_at w.table file) seq ≡ locate w file seq
  unfolding locate
  locate_fine seq e = rw (← is, e)

module _ (w : World) (r : Reader) (d : Done) (is : d ≡ checks (length w.image) (length w.map) w.state w.state.transaction r.file) where
  pub read_fine : (out : List ℕ) → d ≡ fine → read_in w.image w.state.page_count (file_at w.table r.file) r out ≡ read w r out
  unfolding read
  read_fine out e = rw (← is, e)

  pub skip_refused : (n : ℕ) (why : Refusal) → d ≡ Err why → Err why ≡ skip w r n
  unfolding skip
  skip_refused n why e = rw (← is, e)

  pub skip_fine : (n : ℕ) → d ≡ fine → skip_in w.image w.state.page_count (file_at w.table r.file) r.seq n ≡ skip w r n
  unfolding skip
  skip_fine n e = rw (← is, e)

-- a file above 7 is refused, wherever its reader stands
skip_unknown : (w : World) (file a b n : ℕ) → 7 < file → skip w (record { file = file; seq = a }) n ≡ skip w (record { file = file; seq = b }) n
skip_unknown w file a b n h = go (checks (length w.image) (length w.map) w.state w.state.transaction file) refl
  where
    go : (d : Done) → checks (length w.image) (length w.map) w.state w.state.transaction file ≡ d
        → skip w (record { file = file; seq = a }) n ≡ skip w (record { file = file; seq = b }) n
    go (Err why) e = sym (skip_refused w (record { file = file; seq = a }) (Err why) (sym e) n why refl) ∙ skip_refused w (record { file = file; seq = b }) (Err why) (sym e) n why refl
    go (Ok u) e = let k = known_file _ _ _ _ file fine (sym e) refl in absurd (omega arith)

-- seeking is a skip of the code's new reader
pub seek_is : (w : World) (file n : ℕ) → seek_offset w file n ≡ skip w (reader_at w.table file) n
unfolding reader_at seek_offset
seek_is w file n =
    split file 7 (λ h. rw (le-ltb _ _ h)) (λ h. rw (lt-ltb _ _ h) (skip_unknown w file (file_at w.table file).first_seq 0 n h))

-- ---- by the end of the rule's path

pub open_there : (img : List ℕ) (count : ℕ) (f : FileRecord) (seq : ℕ) (q : PagePointer) → (path_of img count f seq).ends ≡ at q
    → open_at img count f seq ≡ opened_by q.page_id seq (read_at img q.page_id)
unfolding open_at
open_there img count f seq q e = rw e

pub located_as : (img : List ℕ) (count : ℕ) (f : FileRecord) (seq : ℕ) → f.first_seq ≤ seq → seq < f.last_seq → in_shape count f ≡ true
    → locate_in img count f seq ≡ located_by (length (path_of img count f seq).path) (path_of img count f seq).ends
unfolding locate_in
located_as img count f seq low high fits = rw (le-ltb _ _ low, lt-leb _ _ high, fits)

-- ---- a header that reads, opened

module _ (p seq : ℕ) (h : DataHeader) where
  pub open_holds : h.seq ≤ seq → seq < h.seq + h.length → opened_by p seq (readable h) ≡ shown (record { page_id = p; header = h })
  unfolding holds
  open_holds k l = rw (le-leb _ _ k, lt-ltb _ _ l)

-- ---- what the code's seek answered

ends_at : (t : Trace) (x : Found) → Some x ≡ located t → t.ends ≡ at x.page
ends_at t x = by t.ends
  where
    by : (s : Sought) → Some x ≡ located_to (length t.path) s → s ≡ at x.page
    by damaged e = cc
    by (at q) e = ap (λ (y : Found). at y.page) (sym (same_Some _ _ e))

module _ (img : List ℕ) (count : ℕ) (f : FileRecord) (seq : ℕ) (x : Found) (is : Some x ≡ located (path_of img count f seq)) where
  open_found : open_at img count f seq ≡ opened_by x.page.page_id seq (read_at img x.page.page_id)
  open_found = open_there img count f seq x.page (ends_at (path_of img count f seq) x is)

  -- its header doesn't read
  pub open_unread : None ≡ gives (read_at img x.page.page_id) → None ≡ opening seq (open_at img count f seq)
  open_unread e = rw (open_found, given_none _ _ e refl)

  -- it reads
  module _ (h : DataHeader) (reads : Some h ≡ gives (read_at img x.page.page_id)) where
    open_read : open_at img count f seq ≡ opened_by x.page.page_id seq (readable h)
    open_read = open_found ∙ rw (given_read _ _ h reads refl)

    -- the number is none of its page's
    pub open_below : seq < h.seq → None ≡ opening seq (open_at img count f seq)
    unfolding holds
    open_below k = rw (open_read, lt-leb _ _ k)

    pub open_past : h.seq ≤ seq → h.length ≤ seq - h.seq → None ≡ opening seq (open_at img count f seq)
    unfolding holds
    open_past k l = let m : h.seq + h.length ≤ seq = omega arith in rw (open_read, le-leb _ _ k, le-ltb _ _ m)

    -- it is one
    pub open_held : h.seq ≤ seq → seq - h.seq < h.length
        → Some (record { page = x.page.page_id; offset = seq - h.seq; left = h.length - (seq - h.seq) }) ≡ opening seq (open_at img count f seq)
    open_held k l =
        let m : seq < h.seq + h.length = omega arith in
        let e : h.length - (seq - h.seq) ≡ h.seq + h.length - seq = omega arith in
        rw (open_read, open_holds x.page.page_id seq h k m, e)

-- ---- what an opened page tells

-- its header reads from the image and it holds the number; all of its payload is there
pub record Shows (img : List ℕ) (seq : ℕ) (p : PagePointer) : Type 0 where
  pub reads : read_at img p.page_id ≡ readable p.header
  pub low : p.header.seq ≤ seq
  pub high : seq < p.header.seq + p.header.length
  pub long : p.header.length ≤ 224
  pub whole : length (page_of img p.page_id) ≡ 256

shows : (img : List ℕ) (seq q : ℕ) (h : DataHeader) → read_at img q ≡ readable h → holds h seq ≡ true → Shows img seq (record { page_id = q; header = h })
unfolding holds
shows img seq q h e t =
    let a = (and-eq-true_iff (leb h.seq seq) (ltb seq (h.seq + h.length))).0 t in record {
      reads = e;
      low = leb-true _ _ a.0;
      high = ltb-true _ _ a.1;
      long = (header_bounds (page_of img q) h e).1;
      whole = page_length img q (header_there img q h e);
    }

opened_read : (img : List ℕ) (seq q : ℕ) (x : Read) (p : PagePointer) → read_at img q ≡ x → opened_by q seq x ≡ shown p → Shows img seq p
opened_read img seq q unreadable p e h = cc
opened_read img seq q (readable d) p e h =
    cond_by (holds d seq) (shown (record { page_id = q; header = d })) shut (shown p) h
    (λ t s. let same : ◌≡◌ {A = PagePointer} (record { page_id = q; header = d }) p = cc in rw same at (shows img seq q d e t))
    (λ t s. cc)

pub opened_says : (img : List ℕ) (count : ℕ) (f : FileRecord) (seq : ℕ) (p : PagePointer) → open_at img count f seq ≡ shown p → Shows img seq p
unfolding open_at
opened_says img count f seq p = go (path_of img count f seq).ends
  where
    go : (s : Sought) → opened_at img seq s ≡ shown p → Shows img seq p
    go damaged h = cc
    go (at q) h = opened_read img seq q.page_id (read_at img q.page_id) p refl h

-- ---- numbers that are a file's

pub behind_live : (f : FileRecord) (seq n : ℕ) → f.first_seq ≤ seq → seq < f.last_seq → seq + n ≤ f.last_seq → behind f seq n ≡ Ok (seq + n)
unfolding behind
behind_live f seq n low high fits = rw (le-ltb _ _ low, lt-leb _ _ high, le-ltb _ _ fits)

-- ---- read

-- by whether the numbers are a file's
abbrev on_end : {A : Type 0} → Result ℕ Refusal → (Refusal → A) → A → A
on_end (Err why) refuse go = refuse why
on_end (Ok end) refuse go = go

module _ (img : List ℕ) (count : ℕ) (f : FileRecord) (r : Reader) (out : List ℕ) where
  pub read_none : length out ≡ 0 → read_kept r out fine ≡ read_in img count f r out
  unfolding read_in
  read_none e = rw (eq-eqb _ _ e)

  -- some bytes are asked for
  module _ (some : length out ≡ 0 → ⊥) where
    -- the number behind them is there
    abbrev read_there : AfterRead
    read_there = cond (in_shape count f) (read_by r out (bytes_from img count f (length out) r.seq (length out))) (read_by r out none)

    read_some : on_end (behind f r.seq (length out)) (λ why. read_kept r out (Err why)) read_there ≡ read_in img count f r out
    unfolding read_in behind
    read_some = rw (ne_eqb _ _ some) (by (ltb r.seq f.first_seq) (leb f.last_seq r.seq) (ltb f.last_seq (r.seq + length out)))
      where
        by : (a b c : Bool)
            → on_end (cond a (Err Gone) (cond b (Err Eof) (cond c (Err Short) (Ok (r.seq + length out))))) (λ why. read_kept r out (Err why)) read_there
            ≡ cond a (read_kept r out (Err Gone)) (cond b (read_kept r out (Err Eof)) (cond c (read_kept r out (Err Short)) read_there))
        by true b c = refl
        by false true c = refl
        by false false true = refl
        by false false false = refl

    pub read_refused_in : (why : Refusal) → Err why ≡ behind f r.seq (length out) → read_kept r out (Err why) ≡ read_in img count f r out
    read_refused_in why e = rw (← e) at read_some

    module _ (end : ℕ) (e : Ok end ≡ behind f r.seq (length out)) where
      pub read_shaped : in_shape count f ≡ true → read_by r out (bytes_from img count f (length out) r.seq (length out)) ≡ read_in img count f r out
      read_shaped s = rw (← e, s) at read_some

      pub read_shapeless : in_shape count f ≡ false → read_by r out none ≡ read_in img count f r out
      read_shapeless s = rw (← e, s) at read_some

-- ---- skip

pub skip_lands : (img : List ℕ) (count : ℕ) (f : FileRecord) (seq n : ℕ) → (n ≡ 0 → ⊥) → f.first_seq ≤ seq → seq < f.last_seq → seq + n ≤ f.last_seq
    → landed img count f (seq + n) ≡ skip_in img count f seq n
unfolding skip_in
skip_lands img count f seq n some low high fits = rw (ne_eqb _ _ some, le-ltb _ _ low, lt-leb _ _ high, le-ltb _ _ fits)

module _ (img : List ℕ) (count : ℕ) (f : FileRecord) (seq : ℕ) where
  pub land_end : seq ≡ f.last_seq → Ok seq ≡ landed img count f seq
  unfolding landed
  land_end e = rw (eq-eqb _ _ e)

  pub landed_by_lem : (seq ≡ f.last_seq → ⊥) → in_shape count f ≡ true → landed img count f seq ≡ landed_by seq (open_at img count f seq)
  unfolding landed
  landed_by_lem ne fits = rw (ne_eqb _ _ ne, fits)
