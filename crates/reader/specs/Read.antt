-- Read, by document 01, "Reading and search": it opens the located page, copies up to its end, and locates again.
-- Assumes nothing: these are definitions.
use Rattle.std.specs.Prelude.{ℕ, zero, suc, ◌+◌, ◌-◌, min, cond, List, [], ◌∷◌, ◌++◌, eqb, leb, ltb, length, replicate, Err}
use Rattle.runs.specs.Runs.{part}
use Rattle.page.specs.Page.{Read, unreadable, readable, page_of, holds}
use Rattle.chain.specs.declared.PagePointer.{PagePointer}
use Rattle.chain.specs.Steps.{read_at, Sought, damaged, at}
use Rattle.state.specs.declared.types.FileRecord.{FileRecord}
use Rattle.state.specs.declared.types.Refusal.TheVariants.{Gone, Eof, Short, Damaged}
use Rattle.state.specs.Refusals.{numbers, Done, fine}
use Rattle.state.specs.Values.{file_at, in_shape}
use Rattle.state.specs.World.{World, checked}
use Rattle.reader.specs.declared.Reader.{Reader}
use Rattle.reader.specs.Locate.{path_of}

-- ---- opening a page: its header reads from the image, and it holds the number

pub data Opened : Type 0 where
  shut : Opened
  shown : PagePointer → Opened

abbrev pub opened_by : ℕ → ℕ → Read → Opened
opened_by p seq unreadable = shut
opened_by p seq (readable h) = cond (holds h seq) (shown (record { page_id = p; header = h })) shut

abbrev pub opened_at : List ℕ → ℕ → Sought → Opened
opened_at img seq damaged = shut
opened_at img seq (at q) = opened_by q.page_id seq (read_at img q.page_id)

-- the located page of a number, opened
unfoldable pub open_at : List ℕ → ℕ → FileRecord → ℕ → Opened
open_at img count f seq = opened_at img seq (path_of img count f seq).ends

-- ---- the bytes of n numbers from seq on

pub data Bytes : Type 0 where
  none : Bytes
  some : List ℕ → Bytes

abbrev pub before : List ℕ → Bytes → Bytes
before l none = none
before l (some m) = some (l ++ m)

-- how many of n numbers from seq on a page holds, and their bytes
abbrev pub here : PagePointer → ℕ → ℕ → ℕ
here p seq n = min n (p.header.seq + p.header.length - seq)

abbrev pub bytes_here : List ℕ → PagePointer → ℕ → ℕ → List ℕ
bytes_here img p seq n = part (page_of img p.page_id) (32 + (seq - p.header.seq)) (here p seq n)

abbrev pub bytes_by : List ℕ → Opened → ℕ → ℕ → (ℕ → Bytes) → Bytes
bytes_by img shut seq n rest = none
bytes_by img (shown p) seq n rest = before (bytes_here img p seq n) (rest (here p seq n))

-- page by page; each gives one byte at least, so that as much fuel as bytes is enough
unfoldable pub bytes_from : List ℕ → ℕ → FileRecord → ℕ → ℕ → ℕ → Bytes
bytes_from img count f zero seq n = cond (eqb n 0) (some []) none
bytes_from img count f (suc k) seq n =
    cond (eqb n 0) (some []) (bytes_by img (open_at img count f seq) seq n (λ j. bytes_from img count f k (seq + j) (n - j)))

-- ---- the call: the answer, the reader and the output after it

pub record AfterRead : Type 0 where
  pub answer : Done
  pub reader : Reader
  pub out : List ℕ

-- of what the call answers, and of the reader and the output then
abbrev pub after_read : Done → Reader → List ℕ → AfterRead
after_read a r out = record { answer = a; reader = r; out = out }

abbrev pub read_kept : Reader → List ℕ → Done → AfterRead
read_kept r out a = record { answer = a; reader = r; out = out }

abbrev pub moved : Reader → ℕ → Reader
moved r n = record { file = r.file; seq = r.seq + n }

-- a Damaged read leaves the whole output zero
abbrev pub read_by : Reader → List ℕ → Bytes → AfterRead
read_by r out none = record { answer = Err Damaged; reader = r; out = replicate (length out) 0 }
read_by r out (some l) = record { answer = fine; reader = moved r (length out); out = l }

unfoldable pub read_in : List ℕ → ℕ → FileRecord → Reader → List ℕ → AfterRead
read_in img count f r out =
    cond (eqb (length out) 0) (read_kept r out fine)
    (cond (ltb r.seq f.first_seq) (read_kept r out (Err Gone))
    (cond (leb f.last_seq r.seq) (read_kept r out (Err Eof))
    (cond (ltb f.last_seq (r.seq + length out)) (read_kept r out (Err Short))
    (cond (in_shape count f) (read_by r out (bytes_from img count f (length out) r.seq (length out)))
    (read_by r out none)))))

unfoldable pub read : World → Reader → List ℕ → AfterRead
read w r out =
    checked w w.state.transaction r.file (λ why. read_kept r out (Err why))
    (read_in w.image w.state.page_count (file_at w.table r.file) r out)

-- ---- the same in document 01's numbers: the answer's, then the reader's two; and the output

abbrev pub read_numbers : Done → Reader → List ℕ
read_numbers d r = numbers d ++ (r.file ∷ r.seq ∷ [])

pub record ToldRead : Type 0 where
  pub answer : List ℕ
  pub out : List ℕ

abbrev pub read_told : AfterRead → ToldRead
read_told a = record { answer = read_numbers a.answer a.reader; out = a.out }
