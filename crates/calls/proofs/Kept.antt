-- Demand 1 over all calls at once: what a refusal leaves of world and output. Assumes nothing.
use Rattle.std.specs.Prelude.{Option, Some, None, Ok, Err}
use Prim.Native.Nat.{ℕ, ◌+◌}
use mathlib.Core.Path.{◌≡◌, refl, sym, ap, ◌∙◌}
use mathlib.Core.Bool.{Bool, true, false, cond, ◌&&◌, not}
use lib.Dec.{eqb, leb, ltb}
use mathlib.Core.List.{List, []}
use native.Mathlib.Omega.{arith}
use lib.ListN.{length}
use Rattle.metalog.specs.Log.{log_end, rest_erased, fits}
use Rattle.metalog.specs.Batch.{batch_stores}
use Rattle.seq.specs.Seq.{limit}
use Rattle.map.specs.Map.{alloc_of}
use Rattle.chain.specs.Files.{last_of}
use Rattle.chain.specs.Steps.{read_at, walk, Sought, damaged, at, Stepped, stays, reaches, breaks}
use Rattle.state.specs.declared.types.Refusal.{Refusal}
use Rattle.state.specs.declared.types.Refusal.TheVariants.{BadSize, NotMounted, Busy, BadFile, Damaged, NoRoom, SeqEnd, NoSearch, Gone, Eof, Short}
use Rattle.state.specs.Refusals.{on_done, Done, fine}
use Rattle.state.specs.Checks.{sizes, is_mounted, wrong_size, checks}
use Rattle.state.specs.Values.{file_at, is_empty, in_shape, with_flags, no_search}
use Rattle.state.specs.World.{World, Outcome, ended, kept, refuse, checked}
use Rattle.volume.specs.Format as VF
use Rattle.volume.specs.Mount as MM
use Rattle.volume.specs.Scan.{scan}
use Rattle.reader.specs.declared.Reader.{Reader}
use Rattle.reader.specs.Read as R
use Rattle.writer.specs.Staging.{previous_of, is_staged, space, pages_for, too_few}
use Rattle.writer.specs.Open as O
use Rattle.writer.specs.Write as W
use Rattle.writer.specs.Finish as F
use Rattle.transact.specs.Truncate as T
use Rattle.transact.specs.Rename as N
use Rattle.transact.specs.Commit as C
use Rattle.search.specs.Hunt as H
use Rattle.search.specs.Search as Q
use Rattle.search.specs.declared.search.Stand.{Stand}
use Rattle.search.specs.declared.Answer.TheVariants as A
use Rattle.state.specs.declared.types.Search.{Search}
use Rattle.state.specs.declared.types.State.{State}
use Rattle.state.specs.declared.types.FileRecord.{FileRecord}
use Rattle.chain.specs.declared.PagePointer.{PagePointer}
use Rattle.metalog.specs.declared.Entry.{Entry}
use Rattle.seq.specs.Seed.{seed_after}
use Rattle.calls.specs.Calls.{Call, format, mount, locate, read, skip, seek, search, left, right, open_writer, write, record_end, finish, discard, truncate, rename, flags, commit, sought_done, answer, step}
use Rattle.calls.specs.Order.{mount_leaves, output_left}

-- ---- outcomes that leave the world where they refuse

record Keeps {A : Type 0} (f : A → Done) (w : World) (o : Outcome A) : Type 0 where
  keeps : (why : Refusal) → f o.answer ≡ Err why → (ended w o).world ≡ w

never : {R : Type 0} (why : Refusal) → fine ≡ Err why → R
never why e = let z : ◌≡◌ {A = ℕ} 0 1 = cc in absurd (omega arith)

module _ {A : Type 0} (f : A → Done) (w : World) where
  keeps_kept : (a : A) → Keeps f w (kept w a)
  keeps_kept a = record { keeps = λ why e. refl }

  keeps_fine : (o : Outcome A) → f o.answer ≡ fine → Keeps f w o
  keeps_fine o h = record { keeps = λ why e. never why (sym h ∙ e) }

  keeps_checked : (busy : Bool) (file : ℕ) (r : Refusal → A) {x : Outcome A} → Keeps f w x → Keeps f w (checked w busy file (λ why. kept w (r why)) x)
  keeps_checked busy file r {x} h = by (checks (length w.image) (length w.map) w.state busy file)
    where
      by : (d : Done) → Keeps f w (on_done d (λ why. kept w (r why)) x)
      by (Ok u) = h
      by (Err why) = keeps_kept (r why)

-- checks 1 to 4 never answer Damaged
abbrev Early : Done → Type 0
Early (Ok u) = Unit {0}
Early (Err why) = (out : List ℕ) → output_left why out ≡ out

passed : (image map : ℕ) (s : State) (busy : Bool) (file : ℕ) → Early (checks image map s busy file)
unfolding checks
passed image map s busy file = go (wrong_size image map (is_mounted s) s.pages) (is_mounted s) busy (ltb 7 file)
  where
    go : (a m b f : Bool) → Early (cond a (Err BadSize) (cond m (cond b (Err Busy) (cond f (Err BadFile) fine)) (Err NotMounted)))
    go true m b f = λ out. refl
    go false false b f = λ out. refl
    go false true true f = λ out. refl
    go false true false true = λ out. refl
    go false true false false = tt

-- ---- each call's outcome

abbrev same : Done → Done
same d = d

module _ (w : World) where
  -- of a call with no value: a refusal, a success, and checks 1 to 4
  no : (why : Refusal) → Keeps same w (refuse w why)
  no why = keeps_kept same w (Err why)

  ok : (o : Outcome Done) → o.answer ≡ fine → Keeps same w o
  ok o e = keeps_fine same w o e

  past : (busy : Bool) (file : ℕ) (x : Outcome Done) → Keeps same w x → Keeps same w (checked w busy file (refuse w) x)
  past busy file x h = keeps_checked same w busy file Err h

  format_keeps : Keeps same w (VF.format w)
  unfolding VF.format VF.formatted
  format_keeps = go (sizes (length w.image) (length w.map))
    where
      go : (b : Bool) → Keeps same w (cond b (VF.formatted w (length w.map) (seed_after w.state.seed)) (refuse w BadSize))
      go true = ok (VF.formatted w (length w.map) (seed_after w.state.seed)) refl
      go false = no BadSize

  open_keeps : (i : ℕ) → Keeps same w (O.open_writer w i)
  unfolding O.open_writer O.open_in O.open_last
  open_keeps i =
      past w.state.writer.active i (O.open_in w i f)
      (go (ltb limit f.last_seq) (is_empty f) (eqb f.header.length 224) (in_shape w.state.page_count f) (too_few w.map w.state.page_count 1) (O.step_from w f))
    where
      f : FileRecord
      f = file_at w.table i

      to : (q : PagePointer) (a : Option ℕ) → Keeps same w (O.copied_to w i f q a)
      to q None = no NoRoom
      to q (Some p) = ok (O.copied_to w i f q (Some p)) refl

      go : (l e z s t : Bool) (x : Stepped)
          → Keeps same w (cond l (refuse w SeqEnd) (cond e (O.readied w i f) (cond z (cond s (O.readied w i f) (refuse w Damaged))
          (cond t (refuse w NoRoom) (cond s (O.copied w i f x) (refuse w Damaged))))))
      go true e z s t x = no SeqEnd
      go false true z s t x = ok (O.readied w i f) refl
      go false false true true t x = ok (O.readied w i f) refl
      go false false true false t x = no Damaged
      go false false false s true x = no NoRoom
      go false false false false false x = no Damaged
      go false false false true false breaks = no Damaged
      go false false false true false stays = to O.no_page (alloc_of w.map w.state.page_count w.state.cursor)
      go false false false true false (reaches q) = to q (alloc_of w.map w.state.page_count w.state.cursor)

  write_keeps : (l : List ℕ) → Keeps same w (W.write w l)
  unfolding W.write W.write_in
  write_keeps l =
      past false 0 (cond (eqb (length l) 0) (kept w fine) (W.write_in w l))
      (go (eqb (length l) 0) w.state.writer.active (ltb limit (w.state.writer.seq + w.state.writer.length + length l))
      (too_few w.map w.state.page_count (pages_for (space w.state.writer) (length l))))
    where
      o : Outcome Done
      o = W.written_as w (W.write_from w.state.page_count (length l) l (W.begun w))

      go : (z a e t : Bool) → Keeps same w (cond z (kept w fine) (cond (not a) (refuse w NoSearch) (cond e (refuse w SeqEnd) (cond t (refuse w NoRoom) o))))
      go true a e t = ok (kept w fine) refl
      go false false e t = no NoSearch
      go false true true t = no SeqEnd
      go false true false true = no NoRoom
      go false true false false = ok o refl

  -- of a call on the open writer
  on_writer : (o : Outcome Done) → Keeps same w o → Keeps same w (checked w false 0 (refuse w) (cond w.state.writer.active o (refuse w NoSearch)))
  on_writer o h = past false 0 (cond w.state.writer.active o (refuse w NoSearch)) (go w.state.writer.active)
    where
      go : (a : Bool) → Keeps same w (cond a o (refuse w NoSearch))
      go true = h
      go false = no NoSearch

  end_keeps : Keeps same w (W.record_end w)
  unfolding W.record_end
  end_keeps = on_writer _ (ok _ refl)

  finish_keeps : Keeps same w (F.finish w)
  unfolding F.finish F.finished
  finish_keeps = on_writer _ (go (is_staged w.state.writer))
    where
      go : (b : Bool) → Keeps same w (cond b (F.finished w w.state.writer) (F.shut w))
      go true = ok (F.finished w w.state.writer) refl
      go false = ok (F.shut w) refl

  discard_keeps : Keeps same w (F.discard w)
  unfolding F.discard
  discard_keeps = on_writer _ (go (F.back_from w.state.page_count (read_at w.image) w.state.writer.stored (previous_of w.state.writer)))
    where
      go : (x : F.Back) → Keeps same w (F.discarded_by w w.state.writer x)
      go F.lost = no Damaged
      go (F.pages l) = ok (F.discarded_by w w.state.writer (F.pages l)) refl

  truncate_keeps : (i n : ℕ) → Keeps same w (T.truncate w i n)
  unfolding T.truncate T.truncate_in
  truncate_keeps i n =
      past w.state.writer.active i (cond (eqb n 0) (kept w fine) (T.truncate_in w i f n))
      (go (eqb n 0) (is_empty f) (in_shape w.state.page_count f) (walk w.state.page_count (read_at w.image) f.first_seq (last_of f)).ends)
    where
      f : FileRecord
      f = file_at w.table i

      go : (z e s : Bool) (x : Sought)
          → Keeps same w (cond z (kept w fine) (cond e (T.changed_file w i w.map T.emptied) (cond s (T.truncated_by w i f (T.new_first f n) x) (refuse w Damaged))))
      go true e s x = ok (kept w fine) refl
      go false true s x = ok (T.changed_file w i w.map T.emptied) refl
      go false false false x = no Damaged
      go false false true damaged = no Damaged
      go false false true (at q) = ok (T.truncated_by w i f (T.new_first f n) (at q)) refl

  rename_keeps : (i j : ℕ) → Keeps same w (N.rename w i j)
  unfolding N.rename
  rename_keeps i j = past w.state.writer.active i (cond (ltb 7 j) (refuse w BadFile) o) (go (ltb 7 j))
    where
      o : Outcome Done
      o = N.changed_table w (N.swapped w.table i j)

      go : (b : Bool) → Keeps same w (cond b (refuse w BadFile) o)
      go true = no BadFile
      go false = ok o refl

  flags_keeps : (i n : ℕ) → Keeps same w (N.flags w i n)
  unfolding N.flags
  flags_keeps i n = past w.state.writer.active i (N.changed_table w (with_flags w.table i n)) (ok _ refl)

  commit_keeps : Keeps same w (C.commit w)
  unfolding C.commit C.commit_batch C.moved
  commit_keeps = past w.state.writer.active 0 (C.commit_batch w b) (go (eqb (length b) 0) (log_end w.image w.state.meta_page))
    where
      b : List Entry
      b = C.dirty_files w.table

      fit : (e : ℕ) (s : Bool) (a : Option ℕ) (h : Bool) → Keeps same w (cond h (C.committed w (batch_stores w.state.meta_page e b)) (cond s (refuse w SeqEnd) (C.moved_to w a)))
      fit e s a true = ok (C.committed w (batch_stores w.state.meta_page e b)) refl
      fit e true a false = no SeqEnd
      fit e false None false = no NoRoom
      fit e false (Some p) false = ok (C.moved_to w (Some p)) refl

      go : (z : Bool) (e : Option ℕ) → Keeps same w (cond z (C.committed w []) (C.appended_at w b e))
      go true e = ok (C.committed w []) refl
      go false None = no Damaged
      go false (Some e) =
          fit e (eqb w.state.meta_seq 4294967295) (alloc_of w.map w.state.page_count w.state.cursor)
          (fits e (length b) && rest_erased w.image w.state.meta_page e)

  -- of a search
  sought_keeps : (s : Stand) → Keeps sought_done w (Q.sought w s)
  unfolding Q.sought
  sought_keeps s = go (H.hunt w.state.page_count (read_at w.image) s.left s.right s.links)
    where
      go : (x : H.Sought) → Keeps sought_done w (Q.sought_by w s x)
      go (H.offered l o) = keeps_fine sought_done w (Q.sought_by w s (H.offered l o)) refl
      go H.ended = keeps_fine sought_done w (Q.sought_by w s H.ended) refl
      go H.broken = keeps_kept sought_done w (Err Damaged)

  start_keeps : (i : ℕ) → Keeps sought_done w (Q.start w i)
  unfolding Q.start Q.start_in
  start_keeps i = keeps_checked sought_done w w.state.transaction i Err {x = Q.start_in w i f} (go (is_empty f) (in_shape w.state.page_count f))
    where
      f : FileRecord
      f = file_at w.table i

      go : (e h : Bool) → Keeps sought_done w (cond e (Q.answering w (Ok (A.End f.first_seq)) no_search) (cond h (Q.sought w (Q.start_of i f)) (kept w (Err Damaged))))
      go true h = keeps_fine sought_done w (Q.answering w (Ok (A.End f.first_seq)) no_search) refl
      go false true = sought_keeps (Q.start_of i f)
      go false false = keeps_kept sought_done w (Err Damaged)

  answered_keeps : (f : Search → Stand) → Keeps sought_done w (Q.answered w f)
  unfolding Q.answered
  answered_keeps f = keeps_checked sought_done w w.state.transaction 0 Err {x = cond w.state.search.active (Q.sought w s) (kept w (Err NoSearch))} (go w.state.search.active)
    where
      s : Stand
      s = f w.state.search

      go : (a : Bool) → Keeps sought_done w (cond a (Q.sought w s) (kept w (Err NoSearch)))
      go true = sought_keeps s
      go false = keeps_kept sought_done w (Err NoSearch)

-- ---- all at once

-- a refused mount
pub mount_leaves_lem : (w : World) (why : Refusal) → answer mount w ≡ Err why → step mount w ≡ mount_leaves why w
unfolding answer step MM.mount MM.mount_with MM.mount_best
mount_leaves_lem w why = go (sizes (length w.image) (length w.map)) (MM.mount_from w.image (length w.map) (scan w.image (length w.map)))
  where
    out : Bool → MM.Maybe MM.LoadedAll → Outcome Done
    out b x = cond b (MM.mounted_as w (length w.map) (seed_after w.state.seed) (scan w.image (length w.map)) x) (refuse w BadSize)

    go : (b : Bool) (x : MM.Maybe MM.LoadedAll) → (out b x).answer ≡ Err why → (ended w (out b x)).world ≡ mount_leaves why w
    go false x e = let q : BadSize ≡ why = cc in ap (λ (k : Refusal). mount_leaves k w) q
    go true MM.bad e = let q : Damaged ≡ why = cc in ap (λ (k : Refusal). mount_leaves k w) q
    go true (MM.good x) e = never why e

-- any other call that is refused
pub refused_leaves : (c : Call) (w : World) (why : Refusal) → ¬ (c ≡ mount) → answer c w ≡ Err why → step c w ≡ w
unfolding answer step
refused_leaves format w why n e = (format_keeps w).keeps why e
refused_leaves mount w why n e = absurd (n refl)
refused_leaves (locate file seq) w why n e = refl
refused_leaves (read r out) w why n e = refl
refused_leaves (skip r k) w why n e = refl
refused_leaves (seek file k) w why n e = refl
refused_leaves (search file) w why n e = (start_keeps w file).keeps why e
refused_leaves left w why n e = (answered_keeps w Q.left_of).keeps why e
refused_leaves right w why n e = (answered_keeps w Q.right_of).keeps why e
refused_leaves (open_writer file) w why n e = (open_keeps w file).keeps why e
refused_leaves (write l k) w why n e = (write_keeps w l).keeps why e
refused_leaves record_end w why n e = (end_keeps w).keeps why e
refused_leaves finish w why n e = (finish_keeps w).keeps why e
refused_leaves discard w why n e = (discard_keeps w).keeps why e
refused_leaves (truncate file k) w why n e = (truncate_keeps w file k).keeps why e
refused_leaves (rename i j) w why n e = (rename_keeps w i j).keeps why e
refused_leaves (flags file k l) w why n e = (flags_keeps w file k).keeps why e
refused_leaves commit w why n e = (commit_keeps w).keeps why e

abbrev ReadLeaves : Reader → List ℕ → Refusal → R.AfterRead → Type 0
ReadLeaves r out why x = x.answer ≡ Err why → x ≡ R.read_kept r (output_left why out) (Err why)

-- what a refused read leaves
pub read_leaves : (w : World) (r : Reader) (out : List ℕ) (why : Refusal) → (R.read w r out).answer ≡ Err why → R.read w r out ≡ R.read_kept r (output_left why out) (Err why)
unfolding R.read R.read_in
read_leaves w r out why = by (checks (length w.image) (length w.map) w.state w.state.transaction r.file) (passed (length w.image) (length w.map) w.state w.state.transaction r.file)
  where
    f : FileRecord
    f = file_at w.table r.file

    kept_so : (k : Refusal) → output_left k out ≡ out → ReadLeaves r out why (R.read_kept r out (Err k))
    kept_so k h e =
        let q : k ≡ why = cc in
        ap (λ (x : List ℕ). R.read_kept r x (Err k)) (sym h) ∙ ap (λ (x : Refusal). R.read_kept r (output_left x out) (Err x)) q

    broken : ReadLeaves r out why (R.read_by r out R.none)
    broken e = let q : Damaged ≡ why = cc in ap (λ (x : Refusal). R.read_kept r (output_left x out) (Err x)) q

    go : (z g e s h : Bool) (x : R.Bytes) → ReadLeaves r out why
        (cond z (R.read_kept r out fine) (cond g (R.read_kept r out (Err Gone)) (cond e (R.read_kept r out (Err Eof))
        (cond s (R.read_kept r out (Err Short)) (cond h (R.read_by r out x) (R.read_by r out R.none))))))
    go true g e s h x q = never why q
    go false true e s h x q = kept_so Gone refl q
    go false false true s h x q = kept_so Eof refl q
    go false false false true h x q = kept_so Short refl q
    go false false false false false x q = broken q
    go false false false false true R.none q = broken q
    go false false false false true (R.some l) q = never why q

    by : (d : Done) → Early d → ReadLeaves r out why (on_done d (λ k. R.read_kept r out (Err k)) (R.read_in w.image w.state.page_count f r out))
    by (Ok u) h =
        go (eqb (length out) 0) (ltb r.seq f.first_seq) (leb f.last_seq r.seq) (ltb f.last_seq (r.seq + length out)) (in_shape w.state.page_count f)
        (R.bytes_from w.image w.state.page_count f (length out) r.seq (length out))
    by (Err k) h = kept_so k (h out)
