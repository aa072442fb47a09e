-- The ledger tells the bytes in every world from a format. Assumes nothing.
use Rattle.seq.specs.Ids.{none}
use Rattle.seq.specs.Seed.{seed_after}
use Rattle.state.specs.Values.{settled}
use Rattle.state.specs.World.{World, Outcome, ended, after_call, kept}
use Rattle.state.specs.declared.types.Table.{Table}
use Rattle.state.specs.declared.types.State.{State}
use Rattle.chain.specs.Files.{last_of}
use Rattle.chain.specs.Steps.{at, damaged}
use Rattle.transact.specs.Truncate.{new_first, cut, changed_file, truncated_by, truncate_in, truncate}
use Rattle.transact.specs.Truncate as truncating
use Rattle.volume.specs.Format as VolumeFormat
use Rattle.volume.specs.Mount as VolumeMount
use Rattle.volume.specs.Mount.{good}
use Rattle.volume.specs.Scan.{scan}
use Rattle.writer.specs.Open as OpenCalls
use Rattle.writer.specs.Write as WriteCalls
use Rattle.writer.specs.Finish as FinishCalls
use Rattle.transact.specs.Rename as RenameCalls
use Rattle.transact.specs.Commit as CommitCalls
use Rattle.search.specs.Search as SearchCalls
use Rattle.calls.specs.Calls as calls
use Rattle.calls.specs.Calls.{Call, step, powered}
use Rattle.reached.specs.Ledger.{Noted, Ledger, blank, nothing, put_at, with_files, advanced, shortened, reverted, note, Written, starts, goes, boots, AsFile, AsNoted}
use Prim.Native.Nat.{ℕ, ◌+◌, ◌-◌, ◌*◌, ◌≤◌, ◌<◌, min}
use mathlib.Core.Path.{◌≡◌, refl, sym, ap, ap₂, subst, ◌∙◌}
use mathlib.Core.Bool.{Bool, true, false, cond}
use mathlib.Core.List.{List}
use native.Mathlib.Omega.{arith}
use native.Mathlib.Decide.{ℕ_discrete}
use lib.ListN.{length, get_or}
use lib.Dec.{eqb}
use borrow.Author.Tests.{eq-eqb, ne_eqb, eqb-true, eqb-false}
use Rattle.state.specs.declared.types.FileRecord.{FileRecord}
use Rattle.reached.specs.Asked.{byte_at}
use Rattle.reached.proofs.Boots.{boots_as, boot_fine}
use Rattle.reached.proofs.Held.{Held, boot_known, boot_held, step_held, format_reached}
use Rattle.reached.proofs.Ledgers.{Notes, write_notes, finish_notes}
use Rattle.reached.proofs.Noted.{flags_quiet, set_text, rename_notes, commit_notes}
use Rattle.reached.proofs.Opens.{open_notes}
use Rattle.reached.proofs.Tells.{Spells, Bare, Text, tale_of, Tells, tells_quiet, start_quiet, answered_quiet, record_end_quiet, discard_quiet}
use Rattle.agree.specs.Good.{Known}
use Rattle.agree.specs.View.{view, as_file, rec_at}
use Rattle.owners.specs.State.{Base, Mounted}
use Rattle.agree.proofs.Format.{empty_at, format_known}
use Rattle.agree.proofs.Found.{mount_finds}
use Rattle.agree.proofs.Keeps.{cond_by, checked_by, in_table}
use Rattle.agree.proofs.Pages.{clash}
use Rattle.agree.proofs.Records.{file_gone, file_live, empty_gone, file_at_lem}
use Rattle.agree.proofs.Writes.{some}
use Rattle.owners.specs.Store.{File, gone}
use Rattle.owners.proofs.Finding.{mounted_one}
use Rattle.page.specs.Page.{Bytes}
use Rattle.page.proofs.Laws.{ran_length}
use Rattle.state.specs.Checks.{sizes}
use Rattle.state.specs.Refusals.{on_done, Done, fine}
use Rattle.state.specs.Values.{empty_record, empty_table, file_at, is_empty, in_shape, no_writer, opened}
use Rattle.state.proofs.Laws.{sizes_say}
use Rattle.chain.specs.Steps.{read_at, Sought, walk}

-- ---- TRUNCATE

-- a file of which nothing is noted
bare_shortened : (n : ℕ) (x : Noted) → Bare x → shortened n x ≡ blank
bare_shortened n x b =
    let e : advanced n x ≡ length x.bytes = omega (arith, b.size, b.starts) in
    rw (eq-eqb (advanced n x) (length x.bytes) e)

-- a record set, with what is noted of it
tells_set : {N : ℕ} {w : World} (k : Known (Unit {0}) N w) (g : Ledger) → Tells N w g → w.state.writer.active ≡ false → (i : ℕ) → i ≤ 7 → (m : List ℕ) (f : FileRecord) (l : Noted) → Text w.image w.state.page_count (as_file f) l
    → Tells N (ended w (changed_file w i m f)).world (with_files g (put_at g.files i l))
unfolding opened
tells_set {N} {w} k g t off i i7 m f l a =
    record {
      files = set_text w.image w.state.page_count w.table i f (in_table k.good i7) g.files l a t.files;
      base = t.base;
      draft = λ on. clash cc;
      whose = λ on. clash cc;
    }

module _ {N : ℕ} {w : World} (k : Known (Unit {0}) N w) (g : Ledger) (t : Tells N w g) (i bytes : ℕ) where
  abbrev cut_to : Ledger
  cut_to = with_files g (put_at g.files i (shortened bytes (g.files i)))

  abbrev Q : Outcome Done → Type 0
  Q o = Notes N w g (with_files g (put_at g.files i (shortened bytes (g.files i)))) o

  abbrev f : FileRecord
  f = rec_at w.table i

  bare_text : (x : Noted) → x ≡ blank → Text w.image w.state.page_count (as_file truncating.emptied) x
  unfolding truncating.emptied
  bare_text x e = subst (λ (y : File). Text w.image w.state.page_count y x) (sym (file_gone truncating.emptied refl)) (subst Bare (sym e) (record { size = refl; starts = refl }))

  -- nothing there
  nothing_notes : w.state.writer.active ≡ false → i ≤ 7 → (rec_at w.table i).last_page ≡ none → Q (changed_file w i w.map truncating.emptied)
  nothing_notes off i7 z =
      let b = subst (λ (y : File). Text w.image w.state.page_count y (g.files i)) (file_gone f z) (t.files i (omega arith)) in
      tells_set k g t off i i7 w.map truncating.emptied (shortened bytes (g.files i)) (bare_text (shortened bytes (g.files i)) (bare_shortened bytes (g.files i) b))

  -- something: the ledger's numbers are the record's
  cut_notes : w.state.writer.active ≡ false → i ≤ 7 → ((rec_at w.table i).last_page ≡ none → ⊥) → (m : List ℕ) → Q (changed_file w i m (cut (rec_at w.table i) (new_first (rec_at w.table i) bytes)))
  unfolding cut truncating.advanced
  cut_notes off i7 some m = tells_set k g t off i i7 m (cut f (new_first f bytes)) (shortened bytes (g.files i)) (text (new_first f bytes) refl)
    where
      s : Spells w.image w.state.page_count (rec_at w.table i).last_page (rec_at w.table i).first_seq (rec_at w.table i).last_seq (g.files i)
      s = subst (λ (y : File). Text w.image w.state.page_count y (g.files i)) (file_live f some) (t.files i (omega arith))

      text : (n : ℕ) → new_first (rec_at w.table i) bytes ≡ n → Text w.image w.state.page_count (as_file (cut (rec_at w.table i) n)) (shortened bytes (g.files i))
      text n e = by (ℕ_discrete n f.last_seq)
        where
          e' : advanced bytes (g.files i) ≡ n
          e' = ap₂ (λ (a b : ℕ). a + min bytes (b - a)) s.starts s.size ∙ e

          by : Dec (n ≡ (rec_at w.table i).last_seq) → Text w.image w.state.page_count (as_file (cond (eqb n (rec_at w.table i).last_seq) truncating.emptied (truncating.advanced (rec_at w.table i) n))) (shortened bytes (g.files i))
          by (yes z) =
              rw (eq-eqb n f.last_seq z)
              (bare_text (shortened bytes (g.files i)) (ap (λ (c : Bool). cond c blank (record { first = advanced bytes (g.files i); bytes = (g.files i).bytes })) (eq-eqb (advanced bytes (g.files i)) (length (g.files i).bytes) (e' ∙ z ∙ sym s.size))))
          by (no z) =
              rw (ne_eqb n f.last_seq z)
              (subst (λ (x : Noted). Text w.image w.state.page_count (as_file (truncating.advanced f n)) x)
              (sym (ap (λ (c : Bool). cond c blank (record { first = advanced bytes (g.files i); bytes = (g.files i).bytes })) (ne_eqb (advanced bytes (g.files i)) (length (g.files i).bytes) (λ y. z (sym e' ∙ y ∙ s.size)))))
              (subst (λ (y : File). Text w.image w.state.page_count y (record { first = advanced bytes (g.files i); bytes = (g.files i).bytes })) (sym (file_live (truncating.advanced f n) some))
              (record { size = s.size; starts = e'; is = λ h r m low high. s.is h r m (omega (arith, e)) high })))

  in_notes : w.state.writer.active ≡ false → i ≤ 7 → Q (truncate_in w i (rec_at w.table i) bytes)
  unfolding truncate_in
  in_notes off i7 =
      cond_by Q (is_empty f) _ _ (λ e. nothing_notes off i7 (eqb-true f.last_page none e))
      (λ e. cond_by Q (in_shape w.state.page_count f) _ _
      (λ s. by (eqb-false f.last_page none e) (walk w.state.page_count (read_at w.image) f.first_seq (last_of f)).ends) (λ s. t))
    where
      by : ((rec_at w.table i).last_page ≡ none → ⊥) → (y : Sought) → Q (truncated_by w i (rec_at w.table i) (new_first (rec_at w.table i) bytes) y)
      by some damaged = t
      by some (at q) = cut_notes off i7 some _

  truncate_notes : Notes N w g (cond (eqb bytes 0) g (with_files g (put_at g.files i (shortened bytes (g.files i))))) (truncate w i bytes)
  unfolding truncate
  truncate_notes =
      checked_by (Notes N w g (cond (eqb bytes 0) g cut_to)) w w.state.writer.active i _ _ (λ why. t) (λ h. by h.idle h.known (eqb bytes 0))
    where
      by : w.state.writer.active ≡ false → i ≤ 7 → (c : Bool)
          → Notes N w g (cond c g (with_files g (put_at g.files i (shortened bytes (g.files i))))) (cond c (kept w fine) (truncate_in w i (file_at w.table i) bytes))
      by off i7 true = t
      by off i7 false = subst (λ (f : FileRecord). Q (truncate_in w i f bytes)) (sym (file_at_lem w.table i (in_table k.good i7))) (in_notes off i7)

-- ---- FORMAT

gone_text : (img : List ℕ) (count : ℕ) (f : File) → f ≡ gone → Text img count f blank
gone_text img count f e = subst (λ (f : File). Text img count f blank) (sym e) (record { size = refl; starts = refl })

format_tells : (w : World) → Bytes w.image → sizes (length w.image) (length w.map) ≡ true → Tells (length w.map) (ended w (VolumeFormat.formatted w (length w.map) (seed_after w.state.seed))).world nothing
unfolding VolumeFormat.formatted settled no_writer
format_tells w bs e =
    let z = sizes_say (length w.image) (length w.map) e in
    let k = format_known (Unit {0}) w bs (length w.map) (seed_after w.state.seed) refl z.2 z.0 z.1 in
    let v = (ended w (VolumeFormat.formatted w (length w.map) (seed_after w.state.seed))).world in
    record {
      files = λ i h. gone_text v.image v.state.page_count (as_file (rec_at empty_table i)) (ap as_file (empty_at i) ∙ empty_gone);
      base = λ b₂ M i h. let s = mounted_one k.good.inv.mounted M in gone_text v.image b₂.pc (b₂.tab i) (sym (s.tab i) ∙ sym (k.good.inv.closed refl i) ∙ ap as_file (empty_at i) ∙ empty_gone);
      draft = λ on. clash cc;
      whose = λ on. clash cc;
    }

starts_tells : (w : World) → Bytes w.image → (VolumeFormat.format w).answer ≡ fine → Tells (length w.map) (after_call VolumeFormat.format w).world nothing
unfolding VolumeFormat.format
starts_tells w bs =
    cond_by (λ (o : Outcome Done). o.answer ≡ fine → Tells (length w.map) (ended w o).world nothing) (sizes (length w.image) (length w.map)) _ _ (λ e h. format_tells w bs e) (λ e h. clash cc)

formatted_fine : (w : World) (g : Ledger) → Tells (length w.map) (ended w (VolumeFormat.formatted w (length w.map) (seed_after w.state.seed))).world nothing → Notes (length w.map) w g nothing (VolumeFormat.formatted w (length w.map) (seed_after w.state.seed))
unfolding VolumeFormat.formatted
formatted_fine w g t = t

format_notes : (w : World) → Bytes w.image → (g : Ledger) → Tells (length w.map) w g → Notes (length w.map) w g nothing (VolumeFormat.format w)
unfolding VolumeFormat.format
format_notes w bs g t = cond_by (Notes (length w.map) w g nothing) (sizes (length w.image) (length w.map)) _ _ (λ e. formatted_notes e) (λ e. t)
  where
    formatted_notes : sizes (length w.image) (length w.map) ≡ true → Notes (length w.map) w g nothing (VolumeFormat.formatted w (length w.map) (seed_after w.state.seed))
    formatted_notes e = formatted_fine w g (format_tells w bs e)

-- ---- MOUNT, with any map of that length, table and state

boot_tells : {w : World} (k : Held w) (g : Ledger) → Tells (length w.map) w g → (m : List ℕ) (t : Table) (s : State) → length m ≡ length w.map → Tells (length m) (after_call VolumeMount.mount (powered w m t s)).world (reverted g)
unfolding settled no_writer
boot_tells {w} k g T m t s same = subst (λ (o : Outcome Done). Tells (length m) (ended (powered w m t s) o).world (reverted g)) (sym (boots_as k.good m t s same)) tells
  where
    M : Known ⊥ (length m) (ended (powered w m t s) (VolumeMount.mounted_as (powered w m t s) (length m) (seed_after s.seed) (scan w.image (length m)) (good (mount_finds w.image k.good.inv.mounted k.good.sees.bytes).loaded))).world
    M = boot_known k m t s same ⊥

    base : (b : Base) → Mounted (length m) (view w.image) b → (i : ℕ) → i < 8 → Text w.image b.pc (b.tab i) (g.committed i)
    base b N i h = T.base b (subst (λ (n : ℕ). Mounted n (view w.image) b) same N) i h

    tells : Tells (length m) (ended (powered w m t s) (VolumeMount.mounted_as (powered w m t s) (length m) (seed_after s.seed) (scan w.image (length m)) (good (mount_finds w.image k.good.inv.mounted k.good.sees.bytes).loaded))).world (reverted g)
    tells =
        record {
          files = λ i h.
              subst (λ (c : ℕ). Text w.image c (as_file (get_or (mount_finds w.image k.good.inv.mounted k.good.sees.bytes).loaded.files i empty_record)) (g.committed i)) (sym M.good.sees.pc)
              (subst (λ (f : File). Text w.image M.base.pc f (g.committed i)) (sym (M.good.inv.closed refl i)) (base M.base M.good.inv.mounted i h));
          base = base;
          draft = λ on. clash cc;
          whose = λ on. clash cc;
        }

mount_notes : {w : World} (k : Held w) (g : Ledger) → Tells (length w.map) w g → Notes (length w.map) w g (reverted g) (VolumeMount.mount w)
mount_notes {w} k g t =
    subst (λ (d : Done). Tells (length w.map) (after_call VolumeMount.mount w).world (on_done d (λ why. g) (reverted g))) (sym (boot_fine k.good w.map w.table w.state refl))
    (boot_tells k g t w.map w.table w.state refl)

-- ---- EVERY CALL

step_tells : (c : Call) (w : World) (k : Held w) (g : Ledger) → Tells (length w.map) w g → Tells (length w.map) (step c w) (note c w g)
unfolding step note
step_tells calls.format w k g t = format_notes w k.good.sees.bytes g t
step_tells calls.mount w k g t = mount_notes k g t
step_tells (calls.locate i n) w k g t = t
step_tells (calls.read r n) w k g t = t
step_tells (calls.skip r n) w k g t = t
step_tells (calls.seek i n) w k g t = t
step_tells (calls.search i) w k g t = tells_quiet g (start_quiet w i) t
step_tells calls.left w k g t = tells_quiet g (answered_quiet w _) t
step_tells calls.right w k g t = tells_quiet g (answered_quiet w _) t
step_tells (calls.open_writer i) w k g t = open_notes k g t i
step_tells (calls.write l ok) w k g t = write_notes k g l ok t
step_tells calls.record_end w k g t = tells_quiet g (record_end_quiet w) t
step_tells calls.finish w k g t = finish_notes k g t
step_tells calls.discard w k g t = tells_quiet g (discard_quiet w) t
step_tells (calls.truncate i n) w k g t = truncate_notes k g t i n
step_tells (calls.rename i j) w k g t = rename_notes k g t i j
step_tells (calls.flags i n ok) w k g t = tells_quiet g (flags_quiet k.good i n) t
step_tells calls.commit w k g t = commit_notes k g t

-- an image's length says how many pages there are
size_of : {A : Type 0} (w : World) (o : Outcome A) → length (ended w o).world.image ≡ length w.image
size_of w o = ran_length w.image o.stores

step_size : (c : Call) (w : World) → length (step c w).image ≡ length w.image
unfolding step
step_size calls.format w = size_of w (VolumeFormat.format w)
step_size calls.mount w = size_of w (VolumeMount.mount w)
step_size (calls.locate i n) w = refl
step_size (calls.read r n) w = refl
step_size (calls.skip r n) w = refl
step_size (calls.seek i n) w = refl
step_size (calls.search i) w = size_of w (SearchCalls.start w i)
step_size calls.left w = size_of w (SearchCalls.left w)
step_size calls.right w = size_of w (SearchCalls.right w)
step_size (calls.open_writer i) w = size_of w (OpenCalls.open_writer w i)
step_size (calls.write l ok) w = size_of w (WriteCalls.write w l)
step_size calls.record_end w = size_of w (WriteCalls.record_end w)
step_size calls.finish w = size_of w (FinishCalls.finish w)
step_size calls.discard w = size_of w (FinishCalls.discard w)
step_size (calls.truncate i n) w = size_of w (truncate w i n)
step_size (calls.rename i j) w = size_of w (RenameCalls.rename w i j)
step_size (calls.flags i n ok) w = size_of w (RenameCalls.flags w i n)
step_size calls.commit w = size_of w (CommitCalls.commit w)

format_size : (w : World) → (VolumeFormat.format w).answer ≡ fine → length w.image ≡ 256 * length w.map
unfolding VolumeFormat.format
format_size w = cond_by (λ (o : Outcome Done). o.answer ≡ fine → length w.image ≡ 256 * length w.map) (sizes (length w.image) (length w.map)) _ _ (λ e h. (sizes_say (length w.image) (length w.map) e).2) (λ e h. clash cc)

pub record Holds (w : World) (g : Ledger) : Type 0 where
  pub held : Held w
  pub tells : Tells (length w.map) w g

pub written_holds : {w : World} {g : Ledger} → Written w g → Holds w g
unfolding step
written_holds {w} (starts f) =
    let h : Held w = format_reached (calls.formats f) in
    let s : length w.image ≡ length f.from.image = ap (λ (v : World). length v.image) f.left ∙ ran_length f.from.image (VolumeFormat.format f.from).stores in
    let n : length f.from.map ≡ length w.map = omega (arith, s, format_size f.from f.done, h.good.sees.size) in
    record { held = h; tells = subst (λ (k : ℕ). Tells k w nothing) n (subst (λ (v : World). Tells (length f.from.map) v nothing) (sym f.left) (starts_tells f.from f.bytes f.done)) }
written_holds (goes {w = w} {g = g} c r) =
    let p = written_holds r in
    let h = step_held c w p.held in
    let n : length w.map ≡ length (step c w).map = omega (arith, step_size c w, p.held.good.sees.size, h.good.sees.size) in
    record { held = h; tells = subst (λ (k : ℕ). Tells k (step c w) (note c w g)) n (step_tells c w p.held g p.tells) }
written_holds (boots {w = w} {g = g} m t s same r) =
    let p = written_holds r in
    let h = boot_held p.held m t s same in
    let v = (after_call VolumeMount.mount (powered w m t s)).world in
    let z : length v.image ≡ length w.image = ran_length w.image (VolumeMount.mount (powered w m t s)).stores in
    let n : length m ≡ length v.map = omega (arith, p.held.good.sees.size, h.good.sees.size) in
    record { held = h; tells = subst (λ (k : ℕ). Tells k v (reverted g)) n (boot_tells p.held g p.tells m t s same) }

-- HOW MUCH THERE IS, and THE BYTES LAST WRITTEN
pub written_file : {w : World} {g : Ledger} → Written w g → (i : ℕ) → i < 8 → AsNoted w i (g.files i)
unfolding byte_at
written_file {w} {g} r i i8 =
    let p = written_holds r in
    let G = p.held.good in
    let ok = G.sees.recs i in
    let s = tale_of w.image w.state.page_count (rec_at w.table i) (g.files i) ok (p.tells.files i i8) in
    subst (λ (f : FileRecord). AsFile w f (g.files i)) (sym (file_at_lem w.table i (omega (arith, G.sees.eight))))
    (record {
      first = s.starts;
      size = s.size;
      bytes = λ n low high. s.is (λ z. omega (arith, (ok.empty z).last)) n low high;
    })

-- every world from a format has its ledger
pub ledger_of : {w : World} → calls.FromFormat w → (g : Ledger) × Written w g
ledger_of (calls.formats f) = (nothing, starts f)
ledger_of (calls.reaches {w = w} c r) = let p = ledger_of r in (note c w p.0, goes c p.1)
ledger_of (calls.boots m t s same r) = let p = ledger_of r in (reverted p.0, boots m t s same p.1)

-- and is such a world
pub written_format : {w : World} {g : Ledger} → Written w g → calls.FromFormat w
written_format (starts f) = calls.formats f
written_format (goes c r) = calls.reaches c (written_format r)
written_format (boots m t s same r) = calls.boots m t s same (written_format r)
