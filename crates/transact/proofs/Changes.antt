-- What truncate, rename and flags leave as it was: the image, other files, and the pages of the numbers that remain. Assumes nothing.
use Rattle.std.specs.Prelude.{Ok, Err}
use mathlib.Core.Path.{◌≡◌, refl, sym, ◌∙◌, ap, subst}
use mathlib.Core.Bool.{Bool, true, false, cond}
use mathlib.Core.List.{List, [], ◌∷◌, ◌++◌}
use Prim.Native.Nat.{ℕ, ◌≤◌}
use borrow.Author.Tests.{ne_eqb, eqb-false}
use lib.Dec.{eqb, ltb}
use lib.ListN.{length, drop, get_or, set}
use lib.Seq.{get_or-set_other, drop-append_seam}
use Rattle.map.specs.Map.{held}
use Rattle.chain.specs.Files.{last_of}
use Rattle.chain.specs.Steps.{read_at, Sought, damaged, at, Trace, walk, visited}
use Rattle.chain.specs.Walk.{Each, Distinct}
use Rattle.chain.proofs.Walks.{walk_visits, walk_prefix}
use Rattle.state.specs.declared.types.FileRecord.{FileRecord}
use Rattle.state.specs.declared.types.Table.{Table}
use Rattle.state.specs.declared.types.Refusal.TheVariants.{BadFile, Damaged}
use Rattle.state.specs.Values.{file_at, with_file, is_empty, in_shape, flagged, with_flags}
use Rattle.state.specs.Refusals.{on_done, Done, fine}
use Rattle.state.specs.Checks.{checks}
use Rattle.state.specs.World.{World, Outcome, kept, refuse}
use Rattle.transact.specs.Truncate.{emptied, others, unreached, held_all, new_first, changed_file, truncated_by, truncate_in, truncate}
use Rattle.transact.specs.Rename.{swapped, changed_table, rename, flags}
use Rattle.transact.specs.Walks.{follows}
use Rattle.chain.proofs.Edges.{ends_page}
use Rattle.transact.proofs.Steps.{follows_says}

-- ---- what a call may change: nothing, or one file and the map

pub data Changed (w : World) (i : ℕ) : Outcome Done → Type 0 where
  nothing : (a : Done) → Changed w i (kept w a)
  one : (m : List ℕ) (f : FileRecord) → Changed w i (changed_file w i m f)

abbrev seen : World → ℕ → Done
seen w i = checks (length w.image) (length w.map) w.state w.state.writer.active i

changed_checks : (w : World) (i : ℕ) (d : Done) (o : Outcome Done) → Changed w i o → Changed w i (on_done d (refuse w) o)
changed_checks w i (Err why) o c = nothing (Err why)
changed_checks w i (Ok u) o c = c

changed_cond : (w : World) (i : ℕ) (b : Bool) (o p : Outcome Done) → Changed w i o → Changed w i p → Changed w i (cond b o p)
changed_cond w i true o p c d = c
changed_cond w i false o p c d = d

pub truncate_changed : (w : World) (i bytes : ℕ) → Changed w i (truncate w i bytes)
unfolding truncate truncate_in
truncate_changed w i bytes =
    changed_checks w i (seen w i) _
    (changed_cond w i (eqb bytes 0) _ _ (nothing fine)
    (changed_cond w i (is_empty f) _ _ (one w.map emptied)
    (changed_cond w i (in_shape w.state.page_count f) _ _ (by (walk w.state.page_count (read_at w.image) f.first_seq (last_of f)).ends)
    (nothing (Err Damaged)))))
  where
    f : FileRecord
    f = file_at w.table i

    by : (e : Sought) → Changed w i (truncated_by w i (file_at w.table i) (new_first (file_at w.table i) bytes) e)
    by damaged = nothing (Err Damaged)
    by (at q) = one _ _

-- it makes no store
changed_stores : (w : World) (i : ℕ) (o : Outcome Done) → Changed w i o → o.stores ≡ []
changed_stores w i _ (nothing a) = refl
changed_stores w i _ (one m f) = refl

-- and leaves other files
with_other : (t : Table) (i k : ℕ) (f : FileRecord) → (k ≡ i → ⊥) → file_at (with_file t i f) k ≡ file_at t k
unfolding with_file
with_other t i k f n = get_or-set_other t.files i k f _ n

changed_other : (w : World) (i : ℕ) (o : Outcome Done) → Changed w i o → (k : ℕ) → (k ≡ i → ⊥) → file_at o.table k ≡ file_at w.table k
changed_other w i _ (nothing a) k n = refl
changed_other w i _ (one m f) k n = with_other w.table i k f n

-- truncation stores nothing: every byte of every page stays
pub truncate_stores : (w : World) (i bytes : ℕ) → (truncate w i bytes).stores ≡ []
truncate_stores w i bytes = changed_stores w i _ (truncate_changed w i bytes)

-- and it leaves every other file
pub truncate_other : (w : World) (i bytes k : ℕ) → (k ≡ i → ⊥) → file_at (truncate w i bytes).table k ≡ file_at w.table k
truncate_other w i bytes = changed_other w i _ (truncate_changed w i bytes)

-- ---- rename and flags

-- rename leaves every file but the two
pub swapped_other : (t : Table) (i j k : ℕ) → (k ≡ i → ⊥) → (k ≡ j → ⊥) → file_at (swapped t i j) k ≡ file_at t k
unfolding swapped
swapped_other t i j k n m = with_other _ j k _ m ∙ with_other t i k _ n

-- a change of flags leaves every other file
pub flags_other : (t : Table) (i n k : ℕ) → (k ≡ i → ⊥) → file_at (with_flags t i n) k ≡ file_at t k
unfolding with_flags
flags_other t i n k e = by (ltb i 8)
  where
    by : (b : Bool) → file_at (cond b (with_file t i (flagged (file_at t i) n)) t) k ≡ file_at t k
    by true = with_other t i k _ e
    by false = refl

-- neither stores, nor touches the map
pub record Quiet (w : World) (o : Outcome Done) : Type 0 where
  pub stores : o.stores ≡ []
  pub map : o.map ≡ w.map

quiet_checks : (w : World) (d : Done) (o : Outcome Done) → Quiet w o → Quiet w (on_done d (refuse w) o)
quiet_checks w (Err why) o q = record { stores = refl; map = refl }
quiet_checks w (Ok u) o q = q

pub rename_quiet : (w : World) (i j : ℕ) → Quiet w (rename w i j)
unfolding rename
rename_quiet w i j = quiet_checks w (seen w i) _ (by (ltb 7 j))
  where
    by : (b : Bool) → Quiet w (cond b (refuse w BadFile) (changed_table w (swapped w.table i j)))
    by true = record { stores = refl; map = refl }
    by false = record { stores = refl; map = refl }

pub flags_quiet : (w : World) (i n : ℕ) → Quiet w (flags w i n)
unfolding flags
flags_quiet w i n = quiet_checks w (seen w i) (changed_table w (with_flags w.table i n)) (record { stores = refl; map = refl })

-- ---- the pages of a truncation

each_map : (P Q : ℕ → Type 0) → ((j : ℕ) → P j → Q j) → (l : List ℕ) → Each P l → Each Q l
each_map P Q f [] e = tt
each_map P Q f (j ∷ l) e = (f j e.0, each_map P Q f l e.1)

each_right : (P : ℕ → Type 0) (a b : List ℕ) → Each P (a ++ b) → Each P b
each_right P [] b e = e
each_right P (j ∷ a) b e = each_right P a b e.1

-- the two parts of a list of different pages have none in common
apart : (a b : List ℕ) → Distinct (a ++ b) → Each (λ j. Each (λ k. k ≡ j → ⊥) b) a
apart [] b d = tt
apart (j ∷ a) b d = (each_right (λ k. k ≡ j → ⊥) a b d.0, apart a b d.1)

others_each : (P : ℕ → Type 0) (p : ℕ) (l : List ℕ) → Each P l → Each P (others p l)
others_each P p [] e = tt
others_each P p (q ∷ l) e = by (eqb q p) (others_each P p l e.1)
  where
    by : (b : Bool) → Each P (others p l) → Each P (cond b (others p l) (q ∷ others p l))
    by true r = r
    by false r = (e.0, r)

others_not : (p : ℕ) (l : List ℕ) → Each (λ k. k ≡ p → ⊥) (others p l)
others_not p [] = tt
others_not p (q ∷ l) = by (eqb q p) refl (others_not p l)
  where
    by : (b : Bool) → eqb q p ≡ b → Each (λ k. k ≡ p → ⊥) (others p l) → Each (λ k. k ≡ p → ⊥) (cond b (others p l) (q ∷ others p l))
    by true e r = r
    by false e r = (eqb-false q p e, r)

-- pages that are not among those held keep their byte
pub held_other : (m l : List ℕ) (j : ℕ) → Each (λ k. k ≡ j → ⊥) l → get_or (held_all m l) j 0 ≡ get_or m j 0
held_other m [] j e = refl
held_other m (k ∷ l) j e = held_other (set m k held) l j e.1 ∙ get_or-set_other m k j held 0 (λ z. e.0 (sym z))

tail_same : (p : ℕ) (l m : List ℕ) → p ∷ l ≡ p ∷ m → l ≡ m
tail_same p l m e = cc

-- where something remains, no page that the walk to the new first_seq visits is held: the page of first_seq is not, nor any after it
module _ (img : List ℕ) (count : ℕ) (f : FileRecord) (first : ℕ) (followed : follows img count f ≡ true) (up : f.first_seq ≤ first) where
  abbrev near : List ℕ
  near = (walk count (read_at img) first (last_of f)).path

  abbrev whole : Trace
  whole = walk count (read_at img) f.first_seq (last_of f)

  pub truncate_live : (m : List ℕ) → (first ≡ f.last_seq → ⊥)
      → Each (λ j. get_or (held_all m (unreached img count f first)) j 0 ≡ get_or m j 0) (visited (last_of f) (walk count (read_at img) first (last_of f)))
  unfolding unreached
  truncate_live m n =
      let e = ends_page (last_of f) whole (follows_says img count f followed).1 in
      let v = walk_visits count (read_at img) f.first_seq (last_of f) _ e in
      let x = walk_prefix count (read_at img) f.first_seq first up (last_of f) _ e in
      let p : whole.path ≡ near ++ x.1 = tail_same f.last_page _ _ x.3 in
      let d : Distinct (near ++ x.1) = subst Distinct (sym (ap (λ (t : Trace). t.path) v.is) ∙ p) v.distinct in
      let r : drop (length near) whole.path ≡ x.1 = ap (drop (length near)) p ∙ drop-append_seam near x.1 in
      let u : unreached img count f first ≡ others f.last_page x.1 = rw (ne_eqb first f.last_seq n, r) in
      subst (λ (l : List ℕ). Each (λ j. get_or (held_all m l) j 0 ≡ get_or m j 0) (visited (last_of f) (walk count (read_at img) first (last_of f)))) (sym u) (
        held_other m (others f.last_page x.1) f.last_page (others_not f.last_page x.1),
        each_map (λ j. Each (λ k. k ≡ j → ⊥) x.1) (λ j. get_or (held_all m (others f.last_page x.1)) j 0 ≡ get_or m j 0)
            (λ j a. held_other m (others f.last_page x.1) j (others_each (λ k. k ≡ j → ⊥) f.last_page x.1 a)) near (apart near x.1 d),
      )
