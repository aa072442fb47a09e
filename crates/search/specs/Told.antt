-- What the code's structs say of a hunt, and what its inner functions say of a page and of a level. Assumes nothing: these are definitions.
use Rattle.std.specs.Prelude.{◌≡◌, cond, List, ℕ, zero, suc, ◌+◌, ◌<◌, get_or, Result, Ok, Err, Option, Some, None}
use Rattle.seq.specs.Seq.{below, span}
use Rattle.page.specs.declared.DataHeader.{DataHeader}
use Rattle.page.specs.Page.{Read, unreadable}
use Rattle.chain.specs.Files.{last_of}
use Rattle.chain.specs.Links.{links_after}
use Rattle.chain.specs.Steps.{is_page}
use Rattle.state.specs.declared.types.FileRecord.{FileRecord}
use Rattle.state.specs.declared.types.Search.{Search}
use Rattle.state.specs.declared.types.State.{State}
use Rattle.state.specs.declared.types.Table.{Table}
use Rattle.state.specs.declared.types.Refusal.{Refusal}
use Rattle.state.specs.declared.types.Refusal.TheVariants.{Damaged}
use Rattle.state.specs.Values.{no_search, is_empty, in_shape}
use Rattle.state.specs.World.{World, Outcome, After, after_call, before, in_numbers}
use Rattle.search.specs.declared.Answer.{Answer}
use Rattle.search.specs.declared.Answer.TheVariants.{Offer as Offers, End}
use Rattle.search.specs.declared.hunt.Offer.{Offer}
use Rattle.search.specs.declared.hunt.Seen.{Seen}
use Rattle.search.specs.declared.hunt.Seen.TheVariants.{Hit as Found, TooLeft, Back, Wrong}
use Rattle.search.specs.declared.hunt.Aim.{Aim}
use Rattle.search.specs.declared.hunt.Hunted.{Hunted}
use Rattle.search.specs.declared.hunt.Hunted.TheVariants.{Offered, Ended, Broken}
use Rattle.search.specs.declared.search.Stand.{Stand}
use Rattle.search.specs.Hunt.{Hit, hit, too_left, wrong, greater, seen_by, seek_to_page, hit_by, Sought, offered, ended, broken, tries, really_seek, hunt}
use Rattle.search.specs.Search.{answer_numbers, offering, start_of}

-- ---- a call: of all that there is only the search changes

abbrev pub after_search : Result Answer Refusal → List ℕ → List ℕ → Table → State → After (Result Answer Refusal)
after_search a i m t s = record { answer = a; world = before i m t s }

-- what a call answers and leaves, in numbers, and what its definition gives
abbrev pub yields : Result Answer Refusal → List ℕ → List ℕ → Table → State → After (List ℕ)
yields a i m t s = in_numbers answer_numbers (after_search a i m t s)

abbrev pub promised : (World → Outcome (Result Answer Refusal)) → World → After (List ℕ)
promised call w = in_numbers answer_numbers (after_call call w)

-- an answer, and the search as it is then
pub record Searched : Type 0 where
  pub answer : Result Answer Refusal
  pub search : Search

abbrev pub searched : Result Answer Refusal → Search → Searched
searched a q = record { answer = a; search = q }

-- ---- where a hunt stands

abbrev pub told : Sought → Hunted
told (offered left o) = Offered left o
told ended = Ended
told broken = Broken

-- the answer, and the search that stays; old is the one before the call
abbrev pub replied : Search → Stand → Sought → Searched
replied old s (offered left o) = record { answer = Ok (Offers o.mid); search = offering s left o }
replied old s ended = record { answer = Ok (End s.result); search = no_search }
replied old s broken = record { answer = Err Damaged; search = old }

-- ---- a page on the way

abbrev pub offer_on : ℕ → DataHeader → Offer
offer_on target h =
    let start = h.seq + h.record_boundary in
    record { low = h.seq; links = h.skiplist; mid = start; high = greater target start }

abbrev pub hit_of : ℕ → DataHeader → Seen → (ℕ → ℕ → Hit) → Hit
hit_of target h Found back = hit (offer_on target h)
hit_of target h TooLeft back = too_left
hit_of target h Back back = back (get_or h.skiplist 0 0) h.seq
hit_of target h Wrong back = wrong

-- what the code saw is what a walk with this way back finds; an offered start and a page stepped back from lie below the limit
pub record Says (found : (ℕ → ℕ → Hit) → Hit) (target limit : ℕ) (h : DataHeader) (s : Seen) : Type 0 where
  pub is : (back : ℕ → ℕ → Hit) → found back ≡ hit_of target h s back
  pub fits : s ≡ Found → h.seq + h.record_boundary < limit
  pub falls : s ≡ Back → h.seq < limit

-- the header of the page that an id names
abbrev pub named : ℕ → (ℕ → Read) → ℕ → Read
named count read id = cond (is_page count id) (read id) unreadable

-- page id, on the way
abbrev pub seen_at : ℕ → (ℕ → Read) → ℕ → ℕ → ℕ → ℕ → (ℕ → ℕ → Hit) → Hit
seen_at count read left target limit id back = cond (is_page count id) (seen_by left target limit (read id) back) wrong

-- ---- a level

-- the page that its link names and its number, where it is tried
abbrev pub aimed : ℕ → ℕ → List ℕ → ℕ → Option Aim
aimed left right links i = cond (tries left right links i) (Some (record { id = get_or links i 0; target = below (span i) right })) None

-- what the levels below give
abbrev pub lowered : ℕ → (ℕ → Read) → ℕ → List ℕ → ℕ → ℕ → Sought
lowered count read right links zero left = ended
lowered count read right links (suc i) left = really_seek count read right links i left

-- walking back from page id at level i, and the levels below it
abbrev pub walked : ℕ → (ℕ → Read) → ℕ → List ℕ → ℕ → ℕ → ℕ → ℕ → ℕ → Sought
walked count read right links i left target limit id =
    hit_by left target (seek_to_page count read left target (suc limit) limit id) (λ l. lowered count read right links i l)

-- ---- a start, by the file's record

unfoldable pub begun : Search → ℕ → (ℕ → Read) → ℕ → FileRecord → Searched
begun old count read i f =
    cond (is_empty f) (record { answer = Ok (End f.first_seq); search = no_search })
    (cond (in_shape count f)
    (replied old (start_of i f) (hunt count read f.first_seq f.last_seq (links_after (last_of f) f.last_seq)))
    (record { answer = Err Damaged; search = old }))
