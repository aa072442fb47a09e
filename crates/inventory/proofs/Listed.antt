-- A listing beside the mount that it makes: a line counts the pages that mount's walk of its file visits, never the 0 of a walk that
-- breaks. That mount claims just those pages is said in `volume` (`mount_says`). Assumes nothing.
use Rattle.std.specs.Prelude.{Option, Some, None, Ok, Err}
use Rattle.state.specs.Refusals.{Done, fine}
use mathlib.Core.Path.{◌≡◌, refl, sym, ap, subst, ◌∙◌}
use mathlib.Core.Bool.{false}
use mathlib.Core.Logic.{inl, inr}
use mathlib.Core.List.{List, [], ◌∷◌}
use Prim.Native.Nat.{ℕ, zero, suc, ◌≤◌, ◌<◌}
use native.Mathlib.Omega.{arith}
use borrow.Author.Tests.{ne_eqb, le-ltb}
use lib.ListN.{length, get_or}
use lib.Seq.{ext_get_or}
use Rattle.seq.specs.Ids.{none}
use Rattle.metalog.specs.declared.Files.{Files}
use Rattle.chain.specs.Files.{last_of}
use Rattle.chain.specs.Steps.{read_at, walk, visited}
use Rattle.state.specs.declared.types.FileRecord.{FileRecord}
use Rattle.state.specs.declared.types.Table.{Table}
use Rattle.state.specs.Values.{file_at, is_empty, empty_record, absent, settled}
use Rattle.state.specs.World.{Outcome}
use Rattle.volume.specs.Mounted.{FileIs, FilesAre, pages_of as claimed}
use Rattle.volume.proofs.Mounts.{mount_says}
use Rattle.inventory.specs.declared.FileLine.{FileLine}
use Rattle.inventory.specs.Inventory.{Inventory, no_line, pages_of, line_of, lines_of, mounted, inventory_of}

-- the pages of a file's line, and none of a file without one
abbrev pub pages_in : Option FileLine → ℕ
pages_in None = 0
pages_in (Some l) = l.pages

-- the lines of an image that is listed
abbrev pub lines_in : Inventory → List (Option FileLine)
lines_in (Err why) = []
lines_in (Ok l) = l

module _ (img : List ℕ) (count : ℕ) where
  -- a file's line counts the pages that mount claims for it
  abbrev Counted : FileRecord → Type 0
  Counted f = pages_in (line_of img count f) ≡ length (claimed img count f)

  line_pages : (p first flags : ℕ) (f : FileRecord) → FileIs img count p first flags f → Counted f
  unfolding line_of pages_of claimed empty_record
  line_pages p first flags f (inl e) = rw e.1
  line_pages p first flags f (inr l) = rw (l.is, ne_eqb p none l.some, l.walks) (omega arith)

  -- each of them
  lines_pages : (e : Files) (i : ℕ) (l : List FileRecord) → FilesAre img count e i l → (k : ℕ) → k < length l → Counted (get_or l k absent)
  lines_pages e i [] a k h = absurd (omega arith)
  lines_pages e i (f ∷ l) a zero h = line_pages _ _ _ f a.0
  lines_pages e i (f ∷ l) a (suc k) h = lines_pages e (suc i) l a.1 k (omega arith)

  -- the i-th line is the i-th file's
  line_at_lem : (t : Table) (i : ℕ) → i < 8 → get_or (lines_of img count t) i no_line ≡ line_of img count (file_at t i)
  unfolding lines_of
  line_at_lem t zero h = refl
  line_at_lem t (suc zero) h = refl
  line_at_lem t (suc (suc zero)) h = refl
  line_at_lem t (suc (suc (suc zero))) h = refl
  line_at_lem t (suc (suc (suc (suc zero)))) h = refl
  line_at_lem t (suc (suc (suc (suc (suc zero))))) h = refl
  line_at_lem t (suc (suc (suc (suc (suc (suc zero)))))) h = refl
  line_at_lem t (suc (suc (suc (suc (suc (suc (suc zero))))))) h = refl
  line_at_lem t (suc (suc (suc (suc (suc (suc (suc (suc i)))))))) h = absurd (omega arith)

  -- eight lines of which each is its file's
  pub lines_by : (t : Table) (l : List (Option FileLine)) → length l ≡ 8 → ((k : ℕ) → k < 8 → get_or l k no_line ≡ line_of img count (file_at t k)) → l ≡ lines_of img count t
  unfolding lines_of
  lines_by t l n e = ext_get_or no_line l (lines_of img count t) n (λ k h. let i : k < 8 = omega arith in e k i ∙ sym (line_at_lem t k i))

-- ---- the whole

abbrev pub line_at : List ℕ → ℕ → Option FileLine
line_at img i = get_or (lines_in (inventory_of img)) i no_line

abbrev pub count_of : List ℕ → ℕ
count_of img = (mounted img).state.page_count

abbrev pub file_of : List ℕ → ℕ → FileRecord
file_of img i = file_at (mounted img).table i

module _ (img : List ℕ) (fits : length img ≤ 65536) (good : (mounted img).answer ≡ fine) (i : ℕ) (some : i < 8) where
  -- the line of file i is that of the table that mount leaves
  listed_line : line_at img i ≡ line_of img (count_of img) (file_of img i)
  unfolding inventory_of
  listed_line = rw (le-ltb _ _ fits, good) (line_at_lem img (count_of img) (mounted img).table i some)

  -- an empty file's line has none
  pub listed_pages : pages_in (line_at img i) ≡ length (claimed img (count_of img) (file_of img i))
  unfolding settled
  listed_pages =
      let x = mount_says _ good in
      let m = x.mounted in
      ap pages_in listed_line
      ∙ subst (λ (o : Outcome Done). Counted img o.state.page_count (file_at o.table i)) (sym x.is)
      (lines_pages img x.best.page_count _ 0 x.files m.are i (omega (arith, m.eight)))

  -- any other's has at least one
  pub listed_walk : is_empty (file_of img i) ≡ false
      → pages_in (line_at img i) ≡ length (visited (last_of (file_of img i)) (walk (count_of img) (read_at img) (file_of img i).first_seq (last_of (file_of img i))))
  unfolding claimed
  listed_walk e = listed_pages ∙ rw e
