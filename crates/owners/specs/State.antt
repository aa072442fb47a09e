-- What a mount of a store finds, the state between calls, and the invariant. Assumes nothing: these are definitions.
use Rattle.std.specs.Prelude.{ℕ, ◌+◌, ◌≤◌, ◌<◌, ◌≡◌, Bool, true, false, cond, List, [], ◌∷◌, eqb, length, get_or}
use Rattle.std.proofs.Math.Decide.{ℕ_discrete, dec_le}
use Rattle.seq.specs.Ids as ids
use Rattle.metalog.specs.declared.Files.{Files}
use Rattle.metalog.specs.Log.{Replay}
use Rattle.owners.specs.Store.{Link, nil, to, dat, met, Store, pick, Owner, free, held, meta, writer, outside, file, Mem, Walk, File, gone, live, FileAt, Len, limit}

-- 65535 is none
unfoldable pub link_of : ℕ → Link
link_of p = cond (eqb p ids.none) nil (to p)

-- what a replay says of a file: none, or last page, first_seq, flags
pub data Val : Type 0 where
  none : Val
  at : ℕ → ℕ → ℕ → Val

abbrev pub val_l : Link → ℕ → ℕ → Val
val_l nil f g = none
val_l (to p) f g = at p f g

abbrev pub val_in : Files → ℕ → Val
val_in t i = val_l (link_of (get_or t.last i 0)) (get_or t.first i 0) (get_or t.flags i 0)

abbrev pub val_of : File → Val
val_of gone = none
val_of (live p f e g) = at p f g

-- page mp with seq q is what the scan of N pages chooses
abbrev pub Best : Store → ℕ → ℕ → ℕ → Type 0
Best s N mp q = (p r c : ℕ) (l : Replay) → p < N → s p ≡ met r c l → (r ≤ q) × (r ≡ q → mp ≤ p)

-- the metadata page and what is past page_count, in an ownership
pub record Owners (pc mp : ℕ) (own : ℕ → Owner) : Type 0 where
  pub meta_at : own mp ≡ meta
  pub meta_only : (p : ℕ) → own p ≡ meta → p ≡ mp
  pub out_at : (p : ℕ) → pc ≤ p → own p ≡ outside
  pub out_only : (p : ℕ) → own p ≡ outside → pc ≤ p

-- what mount finds: metadata page, its seq, page_count, the files, whose each page is, and a store that holds the files' pages as they were committed
pub record Base : Type 0 where
  pub mp : ℕ
  pub mseq : ℕ
  pub pc : ℕ
  pub tab : ℕ → File
  pub own : ℕ → Owner
  pub cont : Store

-- mount of s, an image of N pages, succeeds and finds b
pub record Mounted (N : ℕ) (s : Store) (b : Base) : Type 0 where
  pub log : Replay
  pub page : s b.mp ≡ met b.mseq b.pc log
  pub pos : 0 < b.mseq
  pub mp_in : b.mp < b.pc
  pub pc_in : b.pc ≤ N
  pub best : Best s N b.mp b.mseq
  pub log_ok : log.ok ≡ true
  pub vals : (i : ℕ) → i < 8 → val_of (b.tab i) ≡ val_in log.files i
  pub above : (i : ℕ) → 8 ≤ i → b.tab i ≡ gone
  pub files : (i : ℕ) → FileAt s b.pc (b.tab i) b.own i
  pub same : (p i : ℕ) → b.own p ≡ file i → s p ≡ b.cont p
  pub owners : Owners b.pc b.mp b.own
  pub unheld : (p : ℕ) → b.own p ≡ held → ⊥
  pub unwritten : (p : ℕ) → b.own p ≡ writer → ⊥

-- the open writer: none; open with no page staged; or a file, the page before the staged one, the staged page's seq, id and length,
-- the copied page, and how many pages were stored
pub data Writer : Type 0 where
  shut : Writer
  ready : ℕ → Writer
  staging : ℕ → Link → ℕ → ℕ → ℕ → Link → ℕ → Writer

-- what may differ from what mount would find: table, ownership, dirty marks, whether a transaction is open, writer
pub record Now : Type 0 where
  pub tab : ℕ → File
  pub own : ℕ → Owner
  pub dirty : ℕ → Bool
  pub tx : Bool
  pub wr : Writer

-- a page that the committed files need is a file's still or held
abbrev pub Kept : Owner → Type 0
Kept free = ⊥
Kept held = Unit {0}
Kept meta = ⊥
Kept writer = ⊥
Kept outside = ⊥
Kept (file i) = Unit {0}

abbrev pub first_of : File → ℕ
first_of gone = 0
first_of (live p f e g) = f

abbrev pub last_of : File → Link
last_of gone = nil
last_of (live p f e g) = to p

abbrev pub end_of : File → ℕ
end_of gone = 0
end_of (live p f e g) = e

abbrev pub flags_of : File → ℕ
flags_of gone = 0
flags_of (live p f e g) = g

-- the pages behind a new page with this link and seq
pub data Back (s : Store) (pc first : ℕ) : Link → ℕ → List ℕ → Type 0 where
  end : {q : ℕ} → Back s pc first nil q []
  more : {p q r n : ℕ} {x : List ℕ} {k : Link} {l : List ℕ} → first < q → p < pc → s p ≡ dat r n k x → r < q → Walk s pc first p l → Back s pc first (to p) q l

-- the pages of writer and file i are file i's once the writer finishes, but for the copied page
abbrev pub attach : ℕ → Owner → Owner
attach i free = free
attach i held = held
attach i meta = meta
attach i writer = file i
attach i outside = outside
attach i (file j) = file j

abbrev pub is_link : Link → ℕ → {A : Type 0} → A → A → A
is_link nil p a b = b
is_link (to c) p a b = pick (ℕ_discrete p c) a b

abbrev pub finished : ℕ → Link → (ℕ → Owner) → ℕ → Owner
finished i copied own p = is_link copied p held (attach i (own p))

abbrev pub CopiedOk : ℕ → (ℕ → Owner) → Link → Type 0
CopiedOk i own nil = Unit {0}
CopiedOk i own (to c) = own c ≡ file i

-- mount's next step from a page with this seq and link
abbrev pub next_step : ℕ → ℕ → Link → Link
next_step first q k = pick (dec_le q first) nil k

-- pages one behind the other by link 0, from a link of a page with seq q: those that the writer stored
pub data Run (s : Store) (pc : ℕ) : Link → ℕ → List ℕ → Type 0 where
  done : {k : Link} {q : ℕ} → Run s pc k q []
  on : {p q r n : ℕ} {x : List ℕ} {k : Link} {l : List ℕ} → p < pc → s p ≡ dat r n k x → r < q → Run s pc k r l → Run s pc (to p) q (p ∷ l)

pub record StagedOk (s : Store) (pc : ℕ) (tab : ℕ → File) (own : ℕ → Owner) (i : ℕ) (prev : Link) (seq p len : ℕ) (copied : Link) (count : ℕ) : Type 0 where
  pub below : i < 8
  pub rest : List ℕ
  pub back : Back s pc (first_of (tab i)) prev seq rest
  pub long : Len len
  pub first_lt : first_of (tab i) < seq + len
  pub fits : seq + len ≤ limit
  pub staged : own p ≡ writer
  pub fresh : Mem p rest → ⊥
  pub copy : CopiedOk i own copied
  pub new : List ℕ
  pub many : length new ≡ count
  pub run : Run s pc prev seq new
  pub new_fresh : Mem p new → ⊥
  pub written : (x : ℕ) → Mem x (p ∷ new) → own x ≡ writer
  pub all_written : (x : ℕ) → own x ≡ writer → Mem x (p ∷ new)
  pub mine : (x : ℕ) → Mem x (p ∷ rest) → finished i copied own x ≡ file i
  pub all : (x : ℕ) → finished i copied own x ≡ file i → Mem x (p ∷ rest)

abbrev pub WriterOk : Store → ℕ → (ℕ → File) → (ℕ → Owner) → Writer → Type 0
WriterOk s pc tab own shut = (p : ℕ) → own p ≡ writer → ⊥
WriterOk s pc tab own (ready i) = (i < 8) × ((p : ℕ) → own p ≡ writer → ⊥)
WriterOk s pc tab own (staging i prev seq p len copied count) = StagedOk s pc tab own i prev seq p len copied count

-- THE invariant: store s, what mount of s finds, and the state between calls
pub record Inv (N : ℕ) (s : Store) (b : Base) (c : Now) : Type 0 where
  pub mounted : Mounted N s b
  pub files : (i : ℕ) → FileAt s b.pc (c.tab i) c.own i
  pub owners : Owners b.pc b.mp c.own
  pub keep : (p i : ℕ) → b.own p ≡ file i → Kept (c.own p)
  pub undirty : (i : ℕ) → c.dirty i ≡ false → c.tab i ≡ b.tab i
  pub closed : c.tx ≡ false → (i : ℕ) → c.tab i ≡ b.tab i
  pub unheld : c.tx ≡ false → (p : ℕ) → c.own p ≡ held → ⊥
  pub above : (i : ℕ) → 8 ≤ i → c.tab i ≡ gone
  pub wr_ok : WriterOk s b.pc c.tab c.own c.wr
