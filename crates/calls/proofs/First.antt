-- Demand 1 over all calls at once: the refusal is the first in document 01's order whose condition holds. Assumes nothing.
use Rattle.std.specs.Prelude.{Ok, Option, Some, None, Err}
use Rattle.state.specs.Refusals.{Done, fine}
use Prim.Native.Nat.{ℕ, ◌+◌, ◌≤◌, ◌<◌}
use mathlib.Core.Path.{◌≡◌, refl, ap, ◌∙◌}
use mathlib.Core.Bool.{Bool, true, false, cond, ◌&&◌, ◌||◌, not}
use mathlib.Core.List.{List, []}
use native.Mathlib.Omega.{arith}
use borrow.Author.Tests.{ltb-false}
use lib.Dec.{eqb, leb, ltb}
use lib.ListN.{length, take}
use Rattle.metalog.specs.Log.{log_end, rest_erased, fits}
use Rattle.metalog.specs.declared.Entry.{Entry}
use Rattle.map.specs.Map.{alloc_of, free_count}
use Rattle.map.proofs.Laws.{alloc_full}
use Rattle.chain.specs.Steps.{read_at, walk, Sought, damaged, at, Trace, Stepped, stays, reaches, breaks}
use Rattle.state.specs.declared.types.FileRecord.{FileRecord}
use Rattle.state.specs.declared.types.Refusal.TheVariants.{BadSize, NotMounted, Busy, BadFile, Damaged, Eof, Short, NoRoom, SeqEnd, NoSearch, Gone}
use Rattle.state.specs.Values.{is_empty, in_shape, no_search}
use Rattle.state.specs.Checks.{sizes, is_mounted}
use Rattle.state.specs.World.{World, Outcome, kept, refuse, checked}
use Rattle.volume.specs.Format as VF
use Rattle.volume.specs.Mount as MM
use Rattle.volume.specs.Scan.{scan}
use Rattle.seq.specs.Seq.{limit}
use Rattle.page.specs.Page.{Bytes}
use Rattle.seq.specs.Seed.{seed_after}
use Rattle.reader.specs.declared.Reader.{Reader}
use Rattle.reader.specs.Locate as RL
use Rattle.reader.specs.Read as R
use Rattle.reader.specs.Skip as K
use Rattle.writer.specs.Staging.{too_few, is_staged, previous_of}
use Rattle.chain.specs.declared.PagePointer.{PagePointer}
use Rattle.chain.specs.Files.{last_of}
use Rattle.metalog.specs.Batch.{batch_stores}
use Rattle.writer.specs.Open as O
use Rattle.writer.specs.Write as W
use Rattle.writer.specs.Finish as F
use Rattle.transact.specs.Truncate as T
use Rattle.transact.specs.Rename as N
use Rattle.transact.specs.Commit as C
use Rattle.search.specs.Hunt as H
use Rattle.search.specs.Search as Q
use Rattle.search.specs.declared.search.Stand.{Stand}
use Rattle.search.specs.declared.Answer.TheVariants as A
use Rattle.state.specs.declared.types.Search.{Search}
use Rattle.calls.specs.Calls.{Call, format, mount, locate, read, skip, seek, search, left, right, open_writer, write, record_end, finish, discard, truncate, rename, flags, commit, located_done, skipped_done, sought_done, answer}
use Rattle.calls.specs.Order.{first, conditions, wrong, reading, on_open, count_of, record_at, misshapen, mount_bad, path_bad, read_bad, open_bad, step_bad, back_bad, hunt_bad, log_bad, moves, is_full, hunted}
use Rattle.calls.proofs.Cases.{fourth, answered}

-- ---- tails of cascades

-- Damaged where a file is out of shape or a walk breaks
shape_or : (s b : Bool) → cond s (cond b (Err Damaged) fine) (Err Damaged) ≡ cond (not s || b) (Err Damaged) fine
shape_or true b = refl
shape_or false b = refl

-- a reader's tests, with n wanted or none
read_tail : (z g e s d : Bool)
    → cond z fine (cond g (Err Gone) (cond e (Err Eof) (cond s (Err Short) (cond d (Err Damaged) fine))))
    ≡ cond (not z && g) (Err Gone) (cond (not z && e) (Err Eof) (cond (not z && s) (Err Short) (cond (not z && d) (Err Damaged) fine)))
read_tail true g e s d = refl
read_tail false g e s d = refl

-- ---- format and mount

first_format : (w : World) → answer format w ≡ first (conditions format w)
unfolding answer conditions VF.format VF.formatted
first_format w = go (sizes (length w.image) (length w.map))
  where
    go : (b : Bool) → (cond b (VF.formatted w (length w.map) (seed_after w.state.seed)) (refuse w BadSize)).answer ≡ cond (not b) (Err BadSize) fine
    go true = refl
    go false = refl

first_mount : (w : World) → answer mount w ≡ first (conditions mount w)
unfolding answer conditions MM.mount MM.mount_with MM.mount_best
first_mount w =
    go (sizes (length w.image) (length w.map)) (MM.mount_from w.image (length w.map) (scan w.image (length w.map)))
  where
    go : (b : Bool) (x : MM.Maybe MM.LoadedAll)
        → (cond b (MM.mounted_as w (length w.map) (seed_after w.state.seed) (scan w.image (length w.map)) x) (refuse w BadSize)).answer
        ≡ cond (not b) (Err BadSize) (cond (mount_bad x) (Err Damaged) fine)
    go true MM.bad = refl
    go true (MM.good x) = refl
    go false x = refl

-- ---- reading

first_locate : (file seq : ℕ) (w : World) → answer (locate file seq) w ≡ first (conditions (locate file seq) w)
unfolding answer conditions RL.locate RL.locate_in
first_locate file seq w =
    answered located_done w w.state.transaction file Err _ (λ why. refl)
    ∙ ap (fourth w w.state.transaction (ltb 7 file))
    (go (ltb seq f.first_seq) (leb f.last_seq seq) (in_shape (count_of w) f) t.ends (length t.path))
  where
    f : FileRecord
    f = record_at w file

    t : Trace
    t = RL.path_of w.image (count_of w) f seq

    go : (g e s : Bool) (x : Sought) (n : ℕ)
        → located_done (cond g (Err Gone) (cond e (Err Eof) (cond s (RL.located_by n x) (Err Damaged))))
        ≡ cond g (Err Gone) (cond e (Err Eof) (cond (not s || path_bad x) (Err Damaged) fine))
    go true e s x n = refl
    go false true s x n = refl
    go false false false x n = refl
    go false false true damaged n = refl
    go false false true (at q) n = refl

abbrev read_says : World → Reader → ℕ → Done
read_says w r n =
    first
    (reading w r.file r.seq n
    (misshapen w r.file || read_bad (R.bytes_from w.image (count_of w) (record_at w r.file) n r.seq n)))

read_says_lem : (w : World) (r : Reader) (out : List ℕ) → (R.read w r out).answer ≡ read_says w r (length out)
unfolding R.read R.read_in
read_says_lem w r out =
    answered (λ (x : R.AfterRead). x.answer) w w.state.transaction r.file _ _ (λ why. refl)
    ∙ ap (fourth w w.state.transaction (ltb 7 r.file))
    (go (eqb n 0) (ltb r.seq f.first_seq) (leb f.last_seq r.seq) (ltb f.last_seq (r.seq + n)) (in_shape (count_of w) f)
    (R.bytes_from w.image (count_of w) f n r.seq n))
  where
    n : ℕ
    n = length out

    f : FileRecord
    f = record_at w r.file

    go : (z g e s h : Bool) (x : R.Bytes)
        → (cond z (R.read_kept r out fine) (cond g (R.read_kept r out (Err Gone)) (cond e (R.read_kept r out (Err Eof))
        (cond s (R.read_kept r out (Err Short)) (cond h (R.read_by r out x) (R.read_by r out R.none)))))).answer
        ≡ cond (not z && g) (Err Gone) (cond (not z && e) (Err Eof) (cond (not z && s) (Err Short) (cond (not z && (not h || read_bad x)) (Err Damaged) fine)))
    go true g e s h x = refl
    go false true e s h x = refl
    go false false true s h x = refl
    go false false false true h x = refl
    go false false false false false x = refl
    go false false false false true R.none = refl
    go false false false false true (R.some l) = refl

first_read : (r : Reader) (out : List ℕ) (w : World) → answer (read r out) w ≡ first (conditions (read r out) w)
unfolding answer conditions
first_read r out w = read_says_lem w r out

first_skip : (r : Reader) (n : ℕ) (w : World) → answer (skip r n) w ≡ first (conditions (skip r n) w)
unfolding answer conditions K.skip K.skip_in K.landed
first_skip r n w =
    answered skipped_done w w.state.transaction r.file Err _ (λ why. refl)
    ∙ ap (fourth w w.state.transaction (ltb 7 r.file))
    (go (eqb n 0) (ltb r.seq f.first_seq) (leb f.last_seq r.seq) (ltb f.last_seq (r.seq + n)) (eqb (r.seq + n) f.last_seq) (in_shape (count_of w) f)
    (R.open_at w.image (count_of w) f (r.seq + n)))
  where
    f : FileRecord
    f = record_at w r.file

    go : (z g e s l h : Bool) (x : R.Opened)
        → skipped_done (cond z (Ok r.seq) (cond g (Err Gone) (cond e (Err Eof)
        (cond s (Err Short) (cond l (Ok (r.seq + n)) (cond h (K.landed_by (r.seq + n) x) (Err Damaged)))))))
        ≡ cond (not z && g) (Err Gone) (cond (not z && e) (Err Eof) (cond (not z && s) (Err Short) (cond (not z && (not l && (not h || open_bad x))) (Err Damaged) fine)))
    go true g e s l h x = refl
    go false true e s l h x = refl
    go false false true s l h x = refl
    go false false false true l h x = refl
    go false false false false true h x = refl
    go false false false false false false x = refl
    go false false false false false true R.shut = refl
    go false false false false false true (R.shown p) = refl

first_seek : (file n : ℕ) (w : World) → answer (seek file n) w ≡ first (conditions (seek file n) w)
unfolding answer conditions K.seek_offset
first_seek file n w = first_skip (K.reader_of file (record_at w file)) n w

-- ---- search

first_hunt : (w : World) (s : Stand) → sought_done (Q.sought w s).answer ≡ cond (hunt_bad (hunted w s)) (Err Damaged) fine
unfolding Q.sought
first_hunt w s = go (hunted w s)
  where
    go : (x : H.Sought) → sought_done (Q.sought_by w s x).answer ≡ cond (hunt_bad x) (Err Damaged) fine
    go (H.offered l o) = refl
    go H.ended = refl
    go H.broken = refl

first_search : (file : ℕ) (w : World) → answer (search file) w ≡ first (conditions (search file) w)
unfolding answer conditions Q.start Q.start_in
first_search file w =
    answered (λ (o : Outcome _). sought_done o.answer) w w.state.transaction file _ _ (λ why. refl)
    ∙ ap (fourth w w.state.transaction (ltb 7 file)) (go (is_empty f) (in_shape (count_of w) f))
  where
    f : FileRecord
    f = record_at w file

    s : Stand
    s = Q.start_of file f

    go : (e h : Bool)
        → sought_done (cond e (Q.answering w (Ok (A.End f.first_seq)) no_search) (cond h (Q.sought w s) (kept w (Err Damaged)))).answer
        ≡ cond (not e && (not h || hunt_bad (hunted w s))) (Err Damaged) fine
    go true h = refl
    go false false = refl
    go false true = first_hunt w s

first_answered : (w : World) (f : Search → Stand) → sought_done (Q.answered w f).answer
    ≡ first (on_open w w.state.transaction w.state.search.active false false (hunt_bad (hunted w (f w.state.search))))
unfolding Q.answered
first_answered w f =
    answered (λ (o : Outcome _). sought_done o.answer) w w.state.transaction 0 _ _ (λ why. refl)
    ∙ ap (fourth w w.state.transaction false) (go w.state.search.active)
  where
    s : Stand
    s = f w.state.search

    go : (a : Bool) → sought_done (cond a (Q.sought w s) (kept w (Err NoSearch))).answer
        ≡ cond (a && false) (Err SeqEnd) (cond (a && false) (Err NoRoom) (cond (not a) (Err NoSearch) (cond (a && hunt_bad (hunted w s)) (Err Damaged) fine)))
    go true = first_hunt w s
    go false = refl

first_left : (w : World) → answer left w ≡ first (conditions left w)
unfolding answer conditions
first_left w = first_answered w Q.left_of

first_right : (w : World) → answer right w ≡ first (conditions right w)
unfolding answer conditions
first_right w = first_answered w Q.right_of

-- ---- the writer

first_open : (file : ℕ) (w : World) → answer (open_writer file) w ≡ first (conditions (open_writer file) w)
unfolding answer conditions O.open_writer O.open_in O.open_last too_few
first_open file w =
    answered (λ (o : Outcome Done). o.answer) w w.state.writer.active file _ _ (λ why. refl)
    ∙ ap (fourth w w.state.writer.active (ltb 7 file))
    (go (ltb limit f.last_seq) (is_empty f) (eqb f.header.length 224) (in_shape (count_of w) f) (too_few w.map (count_of w) 1) refl (O.step_from w f) (alloc_of w.map (count_of w) w.state.cursor) refl)
  where
    f : FileRecord
    f = record_at w file

    -- with two pages free there is one to allocate
    copied_fine : (a : Option ℕ) (q : PagePointer) → alloc_of w.map (count_of w) w.state.cursor ≡ a → too_few w.map (count_of w) 1 ≡ false
        → (O.copied_to w file f q a).answer ≡ fine
    copied_fine (Some p) q e t = refl
    copied_fine None q e t =
        let z = alloc_full w.map (count_of w) w.state.cursor e in
        let l : 2 ≤ free_count (take (count_of w) w.map) = ltb-false _ _ t in
        absurd (omega arith)

    go : (l e z s t : Bool) → too_few w.map (count_of w) 1 ≡ t → (x : Stepped) (a : Option ℕ) → alloc_of w.map (count_of w) w.state.cursor ≡ a
        → (cond l (refuse w SeqEnd) (cond e (O.readied w file f) (cond z (cond s (O.readied w file f) (refuse w Damaged))
        (cond t (refuse w NoRoom) (cond s (O.copied w file f x) (refuse w Damaged)))))).answer
        ≡ cond l (Err SeqEnd) (cond (not e && not z && t) (Err NoRoom) (cond (not e && (not s || not e && not z && step_bad x)) (Err Damaged) fine))
    go true e z s t et x a ea = refl
    go false true z s t et x a ea = refl
    go false false true false t et x a ea = refl
    go false false true true t et x a ea = refl
    go false false false s true et x a ea = refl
    go false false false false false et x a ea = refl
    go false false false true false et breaks a ea = refl
    go false false false true false et stays a ea = copied_fine _ O.no_page refl et
    go false false false true false et (reaches q) a ea = copied_fine _ q refl et

first_write : (l : List ℕ) (ok : Bytes l) (w : World) → answer (write l ok) w ≡ first (conditions (write l ok) w)
unfolding answer conditions W.write W.write_in
first_write l ok w =
    answered (λ (o : Outcome Done). o.answer) w false 0 _ _ (λ why. refl)
    ∙ ap (fourth w false false) (go (eqb (length l) 0) w.state.writer.active _ _)
  where
    go : (z a e t : Bool)
        → (cond z (kept w fine) (cond (not a) (refuse w NoSearch) (cond e (refuse w SeqEnd) (cond t (refuse w NoRoom) (W.written_as w (W.write_from (count_of w) (length l) l (W.begun w))))))).answer
        ≡ cond (not z && a && e) (Err SeqEnd) (cond (not z && a && t) (Err NoRoom) (cond (not z && not a) (Err NoSearch) fine))
    go true a e t = refl
    go false false e t = refl
    go false true true t = refl
    go false true false true = refl
    go false true false false = refl

-- where a call on the open writer succeeds but for Damaged
on_writer : (w : World) (o : Outcome Done) (d : Bool) → o.answer ≡ cond d (Err Damaged) fine
    → (checked w false 0 (refuse w) (cond w.state.writer.active o (refuse w NoSearch))).answer ≡ first (on_open w false w.state.writer.active false false d)
on_writer w o d e = answered (λ (o : Outcome Done). o.answer) w false 0 _ _ (λ why. refl) ∙ ap (fourth w false false) (go w.state.writer.active)
  where
    go : (a : Bool) → (cond a o (refuse w NoSearch)).answer
        ≡ cond (a && false) (Err SeqEnd) (cond (a && false) (Err NoRoom) (cond (not a) (Err NoSearch) (cond (a && d) (Err Damaged) fine)))
    go true = e
    go false = refl

first_end : (w : World) → answer record_end w ≡ first (conditions record_end w)
unfolding answer conditions W.record_end
first_end w = on_writer w _ false refl

first_finish : (w : World) → answer finish w ≡ first (conditions finish w)
unfolding answer conditions F.finish F.finished
first_finish w = on_writer w _ false (go (is_staged w.state.writer))
  where
    go : (b : Bool) → (cond b (F.finished w w.state.writer) (F.shut w)).answer ≡ fine
    go true = refl
    go false = refl

first_discard : (w : World) → answer discard w ≡ first (conditions discard w)
unfolding answer conditions F.discard
first_discard w = on_writer w _ _ (go (F.back_from (count_of w) (read_at w.image) w.state.writer.stored (previous_of w.state.writer)))
  where
    go : (b : F.Back) → (F.discarded_by w w.state.writer b).answer ≡ cond (back_bad b) (Err Damaged) fine
    go F.lost = refl
    go (F.pages l) = refl

-- ---- transactions

first_truncate : (file n : ℕ) (w : World) → answer (truncate file n) w ≡ first (conditions (truncate file n) w)
unfolding answer conditions T.truncate T.truncate_in
first_truncate file n w =
    answered (λ (o : Outcome Done). o.answer) w w.state.writer.active file _ _ (λ why. refl)
    ∙ ap (fourth w w.state.writer.active (ltb 7 file))
    (go (eqb n 0) (is_empty f) (in_shape (count_of w) f) (walk (count_of w) (read_at w.image) f.first_seq (last_of f)).ends)
  where
    f : FileRecord
    f = record_at w file

    go : (z e s : Bool) (x : Sought)
        → (cond z (kept w fine) (cond e (T.changed_file w file w.map T.emptied) (cond s (T.truncated_by w file f (T.new_first f n) x) (refuse w Damaged)))).answer
        ≡ cond (not z && not e && (not s || path_bad x)) (Err Damaged) fine
    go true e s x = refl
    go false true s x = refl
    go false false false x = refl
    go false false true damaged = refl
    go false false true (at q) = refl

first_rename : (i j : ℕ) (w : World) → answer (rename i j) w ≡ first (conditions (rename i j) w)
unfolding answer conditions N.rename
first_rename i j w =
    answered (λ (o : Outcome Done). o.answer) w w.state.writer.active i _ _ (λ why. refl)
    ∙ go (wrong w) (not (is_mounted w.state)) w.state.writer.active (ltb 7 i) (ltb 7 j)
  where
    go : (a m b f g : Bool)
        → cond a (Err BadSize) (cond m (Err NotMounted) (cond b (Err Busy) (cond f (Err BadFile)
        (cond g (refuse w BadFile) (N.changed_table w (N.swapped w.table i j))).answer)))
        ≡ cond a (Err BadSize) (cond m (Err NotMounted) (cond b (Err Busy) (cond (f || g) (Err BadFile) fine)))
    go true m b f g = refl
    go false true b f g = refl
    go false false true f g = refl
    go false false false true g = refl
    go false false false false true = refl
    go false false false false false = refl

first_flags : (file n : ℕ) (ok : n < 256) (w : World) → answer (flags file n ok) w ≡ first (conditions (flags file n ok) w)
unfolding answer conditions N.flags
first_flags file n ok w = answered (λ (o : Outcome Done). o.answer) w w.state.writer.active file _ _ (λ why. refl)

commit_tail : (w : World) (b : List Entry) (z : Bool) (e : Option ℕ)
    → (cond z (C.committed w []) (C.appended_at w b e)).answer
    ≡ cond (not z && moves w b e && eqb w.state.meta_seq 4294967295) (Err SeqEnd)
    (cond (not z && moves w b e && is_full (alloc_of w.map (count_of w) w.state.cursor)) (Err NoRoom) (cond (not z && log_bad e) (Err Damaged) fine))
unfolding C.moved
commit_tail w b z e = go z e
  where
    fit : (e : ℕ) (s : Bool) (a : Option ℕ) (h : Bool)
        → (cond h (C.committed w (batch_stores w.state.meta_page e b)) (cond s (refuse w SeqEnd) (C.moved_to w a))).answer
        ≡ cond (not h && s) (Err SeqEnd) (cond (not h && is_full a) (Err NoRoom) fine)
    fit e s a true = refl
    fit e true a false = refl
    fit e false None false = refl
    fit e false (Some p) false = refl

    go : (z : Bool) (e : Option ℕ)
        → (cond z (C.committed w []) (C.appended_at w b e)).answer
        ≡ cond (not z && moves w b e && eqb w.state.meta_seq 4294967295) (Err SeqEnd)
        (cond (not z && moves w b e && is_full (alloc_of w.map (count_of w) w.state.cursor)) (Err NoRoom) (cond (not z && log_bad e) (Err Damaged) fine))
    go true e = refl
    go false None = refl
    go false (Some e) =
        fit e (eqb w.state.meta_seq 4294967295) (alloc_of w.map (count_of w) w.state.cursor)
        (fits e (length b) && rest_erased w.image w.state.meta_page e)

first_commit : (w : World) → answer commit w ≡ first (conditions commit w)
unfolding answer conditions C.commit C.commit_batch
first_commit w =
    let b = C.dirty_files w.table in
    answered (λ (o : Outcome Done). o.answer) w w.state.writer.active 0 (refuse w) (C.commit_batch w b) (λ why. refl)
    ∙ ap (fourth w w.state.writer.active false) (commit_tail w b (eqb (length b) 0) (log_end w.image w.state.meta_page))

-- ---- all at once

pub first_refusal : (c : Call) (w : World) → answer c w ≡ first (conditions c w)
first_refusal format w = first_format w
first_refusal mount w = first_mount w
first_refusal (locate file seq) w = first_locate file seq w
first_refusal (read r out) w = first_read r out w
first_refusal (skip r n) w = first_skip r n w
first_refusal (seek file n) w = first_seek file n w
first_refusal (search file) w = first_search file w
first_refusal left w = first_left w
first_refusal right w = first_right w
first_refusal (open_writer file) w = first_open file w
first_refusal (write l ok) w = first_write l ok w
first_refusal record_end w = first_end w
first_refusal finish w = first_finish w
first_refusal discard w = first_discard w
first_refusal (truncate file n) w = first_truncate file n w
first_refusal (rename i j) w = first_rename i j w
first_refusal (flags file n ok) w = first_flags file n ok w
first_refusal commit w = first_commit w
