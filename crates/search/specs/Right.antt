-- What is right of a search: what is offered, what falls, and files on which it is never Damaged. Assumes nothing: these are definitions.
use Rattle.std.specs.Prelude.{◌≡◌, true, List, [], ◌∷◌, ◌⊎◌, ℕ, ◌+◌, ◌-◌, ◌≤◌, ◌<◌, length}
use Rattle.seq.specs.Ids.{none}
use Rattle.page.specs.declared.DataHeader.{DataHeader}
use Rattle.page.specs.Page.{Read, readable}
use Rattle.state.specs.declared.types.FileRecord.{FileRecord}
use Rattle.state.specs.declared.types.Search.{Search}
use Rattle.state.specs.Values.{in_shape}
use Rattle.chain.specs.declared.PagePointer.{PagePointer}
use Rattle.chain.specs.Links.{start, oldest, Linked, Stand, Chain}
use Rattle.chain.specs.Files.{last_of}
use Rattle.search.specs.declared.hunt.Offer.{Offer}
use Rattle.search.specs.Hunt.{Hit, hit, too_left, wrong, Sought, offered, ended, broken}

-- ---- an offer: a boundary that a readable page names, above left and below right; the page starts above left
pub record Named (count : ℕ) (read : ℕ → Read) (left right : ℕ) (o : Offer) : Type 0 where
  pub page : ℕ
  pub header : DataHeader
  pub inside : page < count
  pub reads : read page ≡ readable header
  pub low : o.low ≡ header.seq
  pub links : o.links ≡ header.skiplist
  pub mid : o.mid ≡ header.seq + header.record_boundary
  pub payload : header.record_boundary < 224
  pub long : header.record_boundary ≤ header.length
  pub after : left < o.low
  pub above : left < o.mid
  pub below : o.mid < right

-- the search's offer, and that a call which answers m offers m so
abbrev pub offer_of : Search → Offer
offer_of q = record { low = q.low; links = q.low_links; mid = q.mid; high = q.high }

abbrev pub Offering : ℕ → (ℕ → Read) → ℕ → Search → Type 0
Offering count read m q = (m ≡ q.mid) × Named count read q.left q.right (offer_of q)

-- ---- the search ends: between left and right there is less room after each answer

-- a search as an offer leaves it
pub record Standing (q : Search) : Type 0 where
  pub after : q.left < q.low
  pub starts : q.low ≤ q.mid
  pub reaches : q.mid ≤ q.high
  pub before : q.high < q.right

abbrev pub room : Search → ℕ
room q = q.right - q.left

-- ---- files whose chain obeys the link rule

-- a boundary is none, or below the page's length, which is 224 at most
abbrev pub Bounded : PagePointer → Type 0
Bounded p = (p.header.record_boundary ≡ none) ⊎ ((p.header.record_boundary < p.header.length) × (p.header.length ≤ 224))

abbrev pub AllBounded : List PagePointer → Type 0
AllBounded [] = Unit {0}
AllBounded (p ∷ l) = Bounded p × AllBounded l

-- a page, or the next page that would be written, with the older pages of the file behind it, back to the page of first_seq
pub record OnFile (count d : ℕ) (read : ℕ → Read) (first : ℕ) (p : PagePointer) (l : List PagePointer) : Type 0 where
  pub linked : Linked count d p l
  pub stand : Stand read l
  pub bounded : AllBounded l
  pub reaches : start (oldest p l) ≤ first

-- such a page with this start and these links
pub record Place (count d : ℕ) (read : ℕ → Read) (first at : ℕ) (links : List ℕ) : Type 0 where
  pub page : PagePointer
  pub older : List PagePointer
  pub on : OnFile count d read first page older
  pub starts : at ≡ start page
  pub same : links ≡ page.header.skiplist

-- an offer lies on the file, and nothing is Damaged
abbrev pub Sound : ℕ → ℕ → (ℕ → Read) → ℕ → Hit → Type 0
Sound count d read first (hit o) = Place count d read first o.low o.links
Sound count d read first too_left = Unit {0}
Sound count d read first wrong = ⊥

abbrev pub Sane : ℕ → ℕ → (ℕ → Read) → ℕ → ℕ → Sought → Type 0
Sane count d read first left (offered l o) = (left ≤ l) × Place count d read first o.low o.links
Sane count d read first left ended = Unit {0}
Sane count d read first left broken = ⊥

-- a record whose last page stands in the image as the record has it, with a chain behind it back to the page of first_seq
pub record FileOn (count : ℕ) (read : ℕ → Read) (f : FileRecord) (l : List PagePointer) : Type 0 where
  pub shape : in_shape count f ≡ true
  pub page : f.last_page < none
  pub nine : length f.header.skiplist ≡ 9
  pub stands : read f.last_page ≡ readable f.header
  pub chain : Chain count 1 read (last_of f) l
  pub bounded : AllBounded (last_of f ∷ l)
  pub reaches : start (oldest (last_of f) l) ≤ f.first_seq

-- an open search of such a file: right and the page on offer are of the file
pub record Held (count : ℕ) (read : ℕ → Read) (first : ℕ) (q : Search) : Type 0 where
  pub standing : Standing q
  pub left : first ≤ q.left
  pub right : Place count 1 read first q.right q.right_links
  pub low : Place count 1 read first q.low q.low_links
