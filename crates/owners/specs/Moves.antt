-- What calls do to store, owners and table. Assumes nothing: these are definitions.
use Rattle.std.specs.Prelude.{ℕ, ◌+◌, ◌≡◌, refl, Bool, true, false, List, [], ◌∷◌, ◌++◌}
use Rattle.std.proofs.Common.{arith}
use Rattle.std.proofs.Math.Decide.{ℕ_discrete, dec_le}
use Rattle.owners.specs.Store.{Page, blank, dat, met, Store, pick, Owner, free, held, meta, writer, outside, file, Mem, here, there, File, gone, live, FileOk}
use Rattle.owners.specs.State.{Base, Now, Writer, shut, first_of, end_of}

-- ---- one store at one page

-- s' is s but for page p, which is x
pub record Change (s s' : Store) (p : ℕ) (x : Page) : Type 0 where
  pub at : s' p ≡ x
  pub off : (q : ℕ) → ¬ (q ≡ p) → s' q ≡ s q

-- x is no metadata page
abbrev pub NotMeta : Page → Type 0
NotMeta blank = Unit {0}
NotMeta (dat q n k x) = Unit {0}
NotMeta (met q c l) = ⊥

-- no committed file and no metadata stands on page p
pub record Loose (own : ℕ → Owner) (p : ℕ) : Type 0 where
  pub no_meta : own p ≡ meta → ⊥
  pub no_file : (i : ℕ) → own p ≡ file i → ⊥

-- ---- owners

-- page p given to w
abbrev pub give : (ℕ → Owner) → ℕ → Owner → ℕ → Owner
give own p w x = pick (ℕ_discrete x p) w (own x)

-- the writer's pages dropped
abbrev pub dropped : Owner → Owner
dropped free = free
dropped held = held
dropped meta = meta
dropped writer = free
dropped outside = outside
dropped (file i) = file i

-- file i's pages held
abbrev pub hold_f : ℕ → Owner → Owner
hold_f i free = free
hold_f i held = held
hold_f i meta = meta
hold_f i writer = writer
hold_f i outside = outside
hold_f i (file j) = pick (ℕ_discrete j i) held (file j)

pub mem_nil : {x : ℕ} {l : List ℕ} → Mem x l → l ≡ [] → ⊥
mem_nil here e = let u : ◌≡◌ {A = ℕ} 0 1 = cc in omega arith
mem_nil (there m) e = let u : ◌≡◌ {A = ℕ} 0 1 = cc in omega arith

pub mem_tail : {x y : ℕ} {l : List ℕ} → Mem x (y ∷ l) → ¬ (x ≡ y) → Mem x l
mem_tail here n = absurd (n refl)
mem_tail (there m) n = m

-- is x in l
unfoldable pub mem? : (x : ℕ) (l : List ℕ) → Dec (Mem x l)
mem? x [] = no (λ m. mem_nil m refl)
mem? x (y ∷ l) = go (ℕ_discrete x y) (mem? x l)
  where
    go : Dec (x ≡ y) → Dec (Mem x l) → Dec (Mem x (y ∷ l))
    go (yes e) d = yes (rw e here)
    go (no n) (yes m) = yes (there m)
    go (no n) (no k) = no (λ t. k (mem_tail t n))

-- the pages of file i that are not in part are held
abbrev pub keep_only : ℕ → List ℕ → (ℕ → Owner) → ℕ → Owner
keep_only i part own x = pick (mem? x part) (own x) (hold_f i (own x))

-- the pages of l given to o
abbrev pub assign : (ℕ → Owner) → List ℕ → Owner → ℕ → Owner
assign own l o x = pick (mem? x l) o (own x)

-- two files swapped
abbrev pub swap : ℕ → ℕ → ℕ → ℕ
swap i j k = pick (ℕ_discrete k i) j (pick (ℕ_discrete k j) i k)

abbrev pub swap_o : ℕ → ℕ → Owner → Owner
swap_o i j free = free
swap_o i j held = held
swap_o i j meta = meta
swap_o i j writer = writer
swap_o i j outside = outside
swap_o i j (file k) = file (swap i j k)

-- what commit does with a page: held is free
abbrev pub release : Owner → Owner
release free = free
release held = free
release meta = meta
release writer = writer
release outside = outside
release (file i) = file i

abbrev pub release_all : (ℕ → Owner) → ℕ → Owner
release_all own x = release (own x)

-- the metadata moved to p from mp
abbrev pub moved_to : ℕ → ℕ → (ℕ → Owner) → ℕ → Owner
moved_to p mp own = give (give (release_all own) mp free) p meta

-- before any file is mounted
abbrev pub start_own : ℕ → ℕ → ℕ → Owner
start_own pc mp x = pick (ℕ_discrete x mp) meta (pick (dec_le pc x) outside free)

-- ---- files

-- the table with f for file i, and the marks with i dirty
abbrev pub set_f : (ℕ → File) → ℕ → File → ℕ → File
set_f tab i f j = pick (ℕ_discrete j i) f (tab j)

abbrev pub set_d : (ℕ → Bool) → ℕ → ℕ → Bool
set_d dirty i j = pick (ℕ_discrete j i) true (dirty j)

-- truncation by n numbers
abbrev pub set_first : File → ℕ → File
set_first gone a = gone
set_first (live p f e g) a = live p a e g

abbrev pub cut_file : File → ℕ → File
cut_file f n = pick (dec_le (end_of f) (first_of f + n)) gone (set_first f (first_of f + n))

-- flags of a non-empty file
abbrev pub set_flags : File → ℕ → File
set_flags gone g = gone
set_flags (live p f e h) g = live p f e g

-- ---- states

abbrev pub with_wr : Now → Writer → Now
with_wr c w = record { tab = c.tab; own = c.own; dirty = c.dirty; tx = c.tx; wr = w }

abbrev pub with_own : Now → (ℕ → Owner) → Writer → Now
with_own c o w = record { tab = c.tab; own = o; dirty = c.dirty; tx = c.tx; wr = w }

-- file i is f, and a transaction is open
abbrev pub with_file : Now → ℕ → File → (ℕ → Owner) → Now
with_file c i f o = record { tab = set_f c.tab i f; own = o; dirty = set_d c.dirty i; tx = true; wr = shut }

-- what a mount starts with
abbrev pub fresh : Base → Now
fresh b = record { tab = b.tab; own = b.own; dirty = λ i. false; tx = false; wr = shut }

-- what commit leaves: the table, on the files' pages as they stood in s, with the metadata page mp' and held pages free
abbrev pub new_base : Store → ℕ → ℕ → Base → Now → (ℕ → Owner) → Base
new_base s mp' q' b c own' = record { mp = mp'; mseq = q'; pc = b.pc; tab = c.tab; own = own'; cont = s }

-- and the state after it: the marks stay
abbrev pub settled : Base → (ℕ → Bool) → Now
settled b d = record { tab = b.tab; own = b.own; dirty = d; tx = false; wr = shut }

-- the pages that mount's walk to the new first_seq reaches, and those that it does not
pub record Cut (s : Store) (pc : ℕ) (f : File) (l : List ℕ) : Type 0 where
  pub part : List ℕ
  pub rest : List ℕ
  pub ok : FileOk s pc f part
  pub is : l ≡ part ++ rest
  pub apart : (x : ℕ) → Mem x part → Mem x rest → ⊥
