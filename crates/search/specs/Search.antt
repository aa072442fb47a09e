-- Search: start, left and right, by document 01, "Reading and search"; DECISIONS 6 and 23. Assumes nothing: these are definitions.
use Rattle.std.specs.Prelude.{ℕ, ◌+◌, Bool, true, false, cond, List, [], ◌∷◌, Result, Ok, Err}
use Rattle.chain.specs.Files.{last_of}
use Rattle.chain.specs.Links.{links_after}
use Rattle.chain.specs.Steps.{read_at}
use Rattle.state.specs.declared.types.FileRecord.{FileRecord}
use Rattle.state.specs.declared.types.Search.{Search}
use Rattle.state.specs.declared.types.Refusal.{Refusal}
use Rattle.state.specs.declared.types.Refusal.TheVariants.{Damaged, NoSearch}
use Rattle.state.specs.Refusals.{number}
use Rattle.state.specs.Values.{file_at, is_empty, in_shape, no_search, with_search}
use Rattle.state.specs.World.{World, Outcome, kept, checked}
use Rattle.search.specs.declared.Answer.{Answer}
use Rattle.search.specs.declared.Answer.TheVariants.{Offer as Offers, End}
use Rattle.search.specs.declared.hunt.Offer.{Offer}
use Rattle.search.specs.declared.search.Stand.{Stand}
use Rattle.search.specs.Hunt.{Sought, offered, ended, broken, hunt}

-- an answer in document 01's numbers: 0, 1 and the position on offer, or 0, 0 and the result, or the refusal's number
abbrev pub answer_numbers : Result Answer Refusal → List ℕ
answer_numbers (Ok (Offers seq)) = 0 ∷ 1 ∷ seq ∷ []
answer_numbers (Ok (End seq)) = 0 ∷ 0 ∷ seq ∷ []
answer_numbers (Err why) = number why ∷ []

abbrev pub offering : Stand → ℕ → Offer → Search
offering s left o =
    record {
      active = true;
      file = s.file;
      left = left;
      right = s.right;
      right_links = s.links;
      result = s.result;
      low = o.low;
      low_links = o.links;
      mid = o.mid;
      high = o.high;
    }

abbrev pub answering : World → Result Answer Refusal → Search → Outcome (Result Answer Refusal)
answering w a q = record { answer = a; stores = []; map = w.map; table = w.table; state = with_search w.state q }

-- a false answer leaves no position on offer, a Damaged one the search as it was
abbrev pub sought_by : World → Stand → Sought → Outcome (Result Answer Refusal)
sought_by w s (offered left o) = answering w (Ok (Offers o.mid)) (offering s left o)
sought_by w s ended = answering w (Ok (End s.result)) no_search
sought_by w s broken = kept w (Err Damaged)

unfoldable pub sought : World → Stand → Outcome (Result Answer Refusal)
sought w s = sought_by w s (hunt w.state.page_count (read_at w.image) s.left s.right s.links)

-- ---- start: left and result at first_seq, right at last_seq and the links a next page would get; an empty file answers false

abbrev pub start_of : ℕ → FileRecord → Stand
start_of i f = record { file = i; left = f.first_seq; right = f.last_seq; links = links_after (last_of f) f.last_seq; result = f.first_seq }

unfoldable pub start_in : World → ℕ → FileRecord → Outcome (Result Answer Refusal)
start_in w i f =
    cond (is_empty f) (answering w (Ok (End f.first_seq)) no_search)
    (cond (in_shape w.state.page_count f) (sought w (start_of i f)) (kept w (Err Damaged)))

unfoldable pub start : World → ℕ → Outcome (Result Answer Refusal)
start w i = checked w w.state.transaction i (λ why. kept w (Err why)) (start_in w i (file_at w.table i))

-- ---- left sets right to the offered page's seq and links; right sets result to the offered start and left past curr_high

abbrev pub left_of : Search → Stand
left_of q = record { file = q.file; left = q.left; right = q.low; links = q.low_links; result = q.result }

abbrev pub right_of : Search → Stand
right_of q = record { file = q.file; left = q.high + 1; right = q.right; links = q.right_links; result = q.mid }

-- NoSearch where no position is on offer
unfoldable pub answered : World → (Search → Stand) → Outcome (Result Answer Refusal)
answered w f =
    checked w w.state.transaction 0 (λ why. kept w (Err why))
    (cond w.state.search.active (sought w (f w.state.search)) (kept w (Err NoSearch)))

abbrev pub left : World → Outcome (Result Answer Refusal)
left w = answered w left_of

abbrev pub right : World → Outcome (Result Answer Refusal)
right w = answered w right_of

-- either of them
abbrev pub turn : Bool → World → Outcome (Result Answer Refusal)
turn true w = right w
turn false w = left w
