-- What the code's inner functions answer: the number behind some of a file's, an opened page, what one page gives to a read, and what all
-- of them give. Assumes nothing: these are definitions.
use Rattle.std.specs.Prelude.{ℕ, ◌+◌, ◌-◌, cond, List, ◌++◌, drop, leb, ltb, length, Option, Some, None, Result, Ok, Err}
use Rattle.state.specs.declared.types.FileRecord.{FileRecord}
use Rattle.state.specs.declared.types.Refusal.{Refusal}
use Rattle.state.specs.declared.types.Refusal.TheVariants.{Gone, Eof, Short}
use Rattle.reader.specs.declared.pages.Opening.{Opening}
use Rattle.reader.specs.Read.{Opened, shut, shown, open_at, here, bytes_here, Bytes, none, some}

-- the number behind n of a file's numbers from seq on: the checks that locate, read and skip share, in their order
unfoldable pub behind : FileRecord → ℕ → ℕ → Result ℕ Refusal
behind f seq n =
    cond (ltb seq f.first_seq) (Err Gone)
    (cond (leb f.last_seq seq) (Err Eof)
    (cond (ltb f.last_seq (seq + n)) (Err Short)
    (Ok (seq + n))))

-- an opened page, for a number that it holds: where the number's byte stands in the payload, and how many there are from it on
abbrev pub opening : ℕ → Opened → Option Opening
opening seq shut = None
opening seq (shown p) =
    Some (record { page = p.page_id; offset = seq - p.header.seq; left = p.header.seq + p.header.length - seq })

-- one page's part in a read: how many bytes it gives, and the output then
pub record Turn : Type 0 where
  pub taken : Option ℕ
  pub out : List ℕ

abbrev pub turn : Option ℕ → List ℕ → Turn
turn n out = record { taken = n; out = out }

abbrev pub turn_by : List ℕ → ℕ → List ℕ → Opened → Turn
turn_by img seq out shut = turn None out
turn_by img seq out (shown p) =
    turn (Some (here p seq (length out))) (bytes_here img p seq (length out) ++ drop (here p seq (length out)) out)

-- the page of seq gives the front of the output
unfoldable pub turned : List ℕ → ℕ → FileRecord → ℕ → List ℕ → Turn
turned img count f seq out = turn_by img seq out (open_at img count f seq)

-- all pages' part in it: the bytes, where each page opens
abbrev pub all_of : Option (Unit {0}) → List ℕ → Bytes
all_of None out = none
all_of (Some u) out = some out
