-- The pages of an image and what stands on them, by document 01, "Numbers" and "Layout".
-- Assumes nothing.
use Rattle.std.specs.Prelude.{ℕ, zero, suc, ◌+◌, ◌-◌, ◌*◌, ◌/◌, ◌≤◌, ◌<◌, ◌≡◌, List, [], ◌∷◌, Bool, Option, Some, None, cond, ◌&&◌, length, get_or, replicate, leb, ltb, eqb, refl}
use Rattle.std.proofs.Common.{ap}
use Rattle.std.proofs.lemmas.Option.{same_Some}
use Rattle.runs.specs.Runs.{part, le16, le32, by16, by32}
use Rattle.page.specs.declared.DataHeader.{DataHeader}
use Rattle.page.specs.declared.BackRead.{BackRead}
use Rattle.page.specs.declared.MetaHeader.{MetaHeader}

-- page p of an image: its 256 bytes, or none where the image has no such page
unfoldable pub page_of : List ℕ → ℕ → List ℕ
page_of img p = cond (ltb p (length img / 256)) (part img (p * 256) 256) []

-- the magics of the two kinds of page
abbrev pub data_magic : ℕ
data_magic = 0x7fcb_f35d

abbrev pub meta_magic : ℕ
meta_magic = 0x1d81_bcde

-- whether these are a page's bytes and begin with the magic
unfoldable pub begins : List ℕ → ℕ → Bool
begins pg magic = eqb (length pg) 256 && eqb (le32 pg 0) magic

-- ---- a data page's header

-- whether the pair agrees, and 1 ≤ length ≤ 224
unfoldable pub pair_reads : List ℕ → Bool
pair_reads pg = eqb (le16 pg 30) (65535 - le16 pg 28) && leb 1 (le16 pg 28) && leb (le16 pg 28) 224

-- n fields of two bytes from an offset on
abbrev pub fields : List ℕ → ℕ → ℕ → List ℕ
fields pg at zero = []
fields pg at (suc n) = le16 pg at ∷ fields pg (at + 2) n

-- the header's fields, whatever stands there
unfoldable pub fields_of : List ℕ → DataHeader
fields_of pg = record { seq = le32 pg 4; skiplist = fields pg 8 9; record_boundary = le16 pg 26; length = le16 pg 28 }

-- what reading a header gives
pub data Read : Type 0 where
  unreadable : Read
  readable : DataHeader → Read

-- of a page's bytes: the magic matches, the pair agrees and 1 ≤ length ≤ 224
unfoldable pub header_of : List ℕ → Read
header_of pg = cond (begins pg data_magic && pair_reads pg) (readable (fields_of pg)) unreadable

-- the header of no page, all 0
abbrev pub no_header : DataHeader
no_header = record { seq = 0; skiplist = replicate 9 0; record_boundary = 0; length = 0 }

-- the same as the code's answer
unfoldable pub gives : Read → Option DataHeader
gives unreadable = None
gives (readable h) = Some h

-- and of it what a step back asks
unfoldable pub gives_back : Read → Option BackRead
gives_back unreadable = None
gives_back (readable h) = Some (record { seq = h.seq; link = get_or h.skiplist 0 0 })

-- laws of what a step reads of a header: all of it, or what a step back asks
pub record HeadedLaws {H : Type 0} (reads : Read → Option H) (start : H → ℕ) : Type 0 where
  pub missing : None ≡ reads unreadable
  pub starts : (x : H) (h : DataHeader) → Some x ≡ reads (readable h) → start x ≡ h.seq

pub header_laws : HeadedLaws gives (λ (h : DataHeader). h.seq)
unfolding gives
header_laws = record { missing = refl; starts = λ x h e. ap (λ (y : DataHeader). y.seq) (same_Some _ _ e) }

pub back_laws : HeadedLaws gives_back (λ (b : BackRead). b.seq)
unfolding gives_back
back_laws = record { missing = refl; starts = λ x h e. ap (λ (y : BackRead). y.seq) (same_Some _ _ e) }

-- whether a page with this header holds the number n: seq ≤ n < seq + length
unfoldable pub holds : DataHeader → ℕ → Bool
holds h n = leb h.seq n && ltb n (h.seq + h.length)

-- the payload of a page's bytes: as many bytes as its header says, from byte 32 on
unfoldable pub payload_by : Read → List ℕ → List ℕ
payload_by unreadable pg = []
payload_by (readable h) pg = part pg 32 h.length

unfoldable pub payload_of : List ℕ → List ℕ
payload_of pg = payload_by (header_of pg) pg

-- numbers of two bytes, one behind the other
abbrev pub pairs : List ℕ → List ℕ
pairs [] = []
pairs (x ∷ l) = by16 x (pairs l)

-- a header's bytes, 32
abbrev pub header_list : DataHeader → List ℕ
header_list h =
    by32 data_magic (by32 h.seq
    (by16 (get_or h.skiplist 0 0) (by16 (get_or h.skiplist 1 0) (by16 (get_or h.skiplist 2 0)
    (by16 (get_or h.skiplist 3 0) (by16 (get_or h.skiplist 4 0) (by16 (get_or h.skiplist 5 0)
    (by16 (get_or h.skiplist 6 0) (by16 (get_or h.skiplist 7 0) (by16 (get_or h.skiplist 8 0)
    (by16 h.record_boundary (by16 h.length (by16 (65535 - h.length) [])))))))))))))

unfoldable pub header_bytes : DataHeader → List ℕ
header_bytes h = header_list h

-- ---- a metadata page's header

-- of a page's bytes: the magic matches
unfoldable pub meta_of : List ℕ → Option MetaHeader
meta_of pg = cond (begins pg meta_magic) (Some (record { page_count = le32 pg 4; seq = le32 pg 8 })) None

-- its bytes, 12
abbrev pub meta_list : MetaHeader → List ℕ
meta_list m = by32 meta_magic (by32 m.page_count (by32 m.seq []))

unfoldable pub meta_bytes : MetaHeader → List ℕ
meta_bytes m = meta_list m

-- ---- what the code's types say of a value

-- each is a byte
abbrev pub Bytes : List ℕ → Type 0
Bytes [] = Unit {0}
Bytes (x ∷ l) = (x < 256) × Bytes l

-- a header whose fields fit and whose length is 1 to 224
pub record Written (h : DataHeader) : Type 0 where
  pub seq : h.seq < 4294967296
  pub nine : length h.skiplist ≡ 9
  pub links : (i : ℕ) → get_or h.skiplist i 0 < 65536
  pub boundary : h.record_boundary < 65536
  pub low : 1 ≤ h.length
  pub high : h.length ≤ 224

-- a metadata header whose fields fit
pub record Fits (m : MetaHeader) : Type 0 where
  pub count : m.page_count < 4294967296
  pub seq : m.seq < 4294967296
