-- Stepping from page to page: the rule that says where to, one step, and the path of many. Document 01, "Links" and "Mount".
-- Assumes nothing: these are definitions.
use Rattle.std.specs.Prelude.{Bool, Option, Some, None, cond, ◌&&◌, not, List, [], ◌∷◌, ℕ, zero, suc, leb, ltb, eqb}
use Rattle.seq.specs.Ids.{none}
use Rattle.seq.specs.Seq.{index}
use Rattle.page.specs.Page.{Read, unreadable, readable, page_of, header_of}
use Rattle.page.specs.declared.DataHeader.{DataHeader}
use Rattle.chain.specs.declared.PagePointer.{PagePointer}
use Rattle.chain.specs.Links.{start, link}

-- what stands on a page of an image
abbrev pub read_at : List ℕ → ℕ → Read
read_at img p = header_of (page_of img p)

-- where a rule leads from a page: nowhere, for it ends here; to no page, though it should; to a page
pub data Way : Type 0 where
  halt : Way
  lost : Way
  via : ℕ → Way

-- an id that is none, or outside page_count, is no page
unfoldable pub is_page : ℕ → ℕ → Bool
is_page count j = not (eqb j none) && ltb j count

-- the page of an id
abbrev pub page_in : ℕ → ℕ → Option ℕ
page_in count j = cond (is_page count j) (Some j) None

unfoldable pub towards : ℕ → ℕ → Way
towards count j = cond (is_page count j) (via j) lost

-- a rule: where it leads, and whether a header may stand there
pub record Rule : Type 0 where
  pub way : PagePointer → Way
  pub meets : PagePointer → DataHeader → Bool

-- the seq falls
unfoldable pub falls : PagePointer → DataHeader → Bool
falls p h = ltb h.seq (start p)

-- seek: while the page's seq is above the target, link skiplist_index(target, page's seq)
unfoldable pub seek_rule : ℕ → ℕ → Rule
seek_rule count t =
    record {
      way = λ p. cond (leb (start p) t) halt (towards count (link p (index t (start p))));
      meets = falls;
    }

-- one step back, as mount, truncate, discard and the listing make it: it stops at seq ≤ limit or at a link of none
unfoldable pub back_rule : ℕ → ℕ → Rule
back_rule count limit =
    record {
      way = λ p. cond (leb (start p) limit) halt (cond (eqb (link p 0) none) halt (towards count (link p 0)));
      meets = falls;
    }

-- ---- one step

pub data Stepped : Type 0 where
  stays : Stepped
  reaches : PagePointer → Stepped
  breaks : Stepped

-- page j was read on the way from p
abbrev pub entered : Rule → PagePointer → ℕ → Read → Stepped
entered r p j unreadable = breaks
entered r p j (readable h) = cond (r.meets p h) (reaches (record { page_id = j; header = h })) breaks

abbrev pub stepped : Rule → (ℕ → Read) → PagePointer → Way → Stepped
stepped r read p halt = stays
stepped r read p lost = breaks
stepped r read p (via j) = entered r p j (read j)

unfoldable pub step : Rule → (ℕ → Read) → PagePointer → Stepped
step r read p = stepped r read p (r.way p)

-- what reading page j shows of a page below count, where its seq is below s: both rules ask that
abbrev pub lower_of : ℕ → Read → Read
lower_of s unreadable = unreadable
lower_of s (readable h) = cond (ltb h.seq s) (readable h) unreadable

unfoldable pub lower : ℕ → (ℕ → Read) → ℕ → ℕ → Read
lower count read s j = cond (is_page count j) (lower_of s (read j)) unreadable

-- ---- a path

pub data Sought : Type 0 where
  damaged : Sought
  at : PagePointer → Sought

-- the pages whose headers are read, in order, and where that ends
pub record Trace : Type 0 where
  pub path : List ℕ
  pub ends : Sought

abbrev pub stop : Sought → Trace
stop s = record { path = []; ends = s }

abbrev pub through : ℕ → Trace → Trace
through j t = record { path = j ∷ t.path; ends = t.ends }

abbrev pub follow : Stepped → (PagePointer → Trace) → Trace
follow stays rest = stop damaged
follow breaks rest = stop damaged
follow (reaches q) rest = rest q

abbrev pub along : Rule → (ℕ → Read) → PagePointer → Way → (PagePointer → Trace) → Trace
along r read p halt rest = stop (at p)
along r read p lost rest = stop damaged
along r read p (via j) rest = through j (follow (entered r p j (read j)) rest)

-- steps to the end; the start falls at each, so that more fuel than the first start is enough
unfoldable pub go : Rule → (ℕ → Read) → ℕ → PagePointer → Trace
go r read zero p = stop damaged
go r read (suc f) p = along r read p (r.way p) (λ q. go r read f q)

unfoldable pub trace : Rule → (ℕ → Read) → PagePointer → Trace
trace r read p = go r read (suc (start p)) p

-- seek from a page whose header is at hand, and the walk back to a limit
abbrev pub seek : ℕ → (ℕ → Read) → ℕ → PagePointer → Trace
seek count read t p = trace (seek_rule count t) read p

abbrev pub walk : ℕ → (ℕ → Read) → ℕ → PagePointer → Trace
walk count read limit p = trace (back_rule count limit) read p

-- what the walk visits, from the page that it starts at on
abbrev pub visited : PagePointer → Trace → List ℕ
visited p t = p.page_id ∷ t.path
