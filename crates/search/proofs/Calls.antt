-- What the exits of the calls come to. Assumes nothing.
use Rattle.std.specs.Prelude.{Result, Ok, Err}
use Rattle.state.specs.Refusals.{Done, fine}
use mathlib.Core.Path.{◌≡◌, refl, sym, ◌∙◌, ap}
use mathlib.Core.Bool.{Bool, true, false, cond}
use Prim.Native.Nat.{ℕ}
use lib.ListN.{length}
use Rattle.page.specs.Page.{Read}
use Rattle.chain.specs.Files.{last_of}
use Rattle.chain.specs.Links.{links_after}
use Rattle.chain.specs.Steps.{read_at}
use Rattle.state.specs.declared.types.FileRecord.{FileRecord}
use Rattle.state.specs.declared.types.Search.{Search}
use Rattle.state.specs.declared.types.Refusal.{Refusal}
use Rattle.state.specs.declared.types.Refusal.TheVariants.{Damaged, NoSearch}
use Rattle.state.specs.Values.{file_at, is_empty, in_shape, no_search, with_search}
use Rattle.state.specs.Checks.{checks}
use Rattle.state.specs.World.{World, Outcome, kept, after_call, ended as finished}
use Rattle.search.specs.declared.Answer.{Answer}
use Rattle.search.specs.declared.Answer.TheVariants.{Offer as Offers, End}
use Rattle.search.specs.declared.hunt.Hunted.{Hunted}
use Rattle.search.specs.declared.hunt.Hunted.TheVariants.{Offered, Ended, Broken}
use Rattle.search.specs.declared.search.Stand.{Stand}
use Rattle.search.specs.Hunt.{Sought, offered, ended, broken, hunt}
use Rattle.search.specs.Search.{offering, answering, sought_by, sought, start_of, start_in, start, left_of, right_of, answered, turn}
use Rattle.search.specs.Told.{Searched, searched, told, replied, begun, after_search}

-- ---- an answer by where the hunt stands

-- the same by what the code was told
abbrev pub replied_told : Search → Stand → Hunted → Searched
replied_told old s (Offered left o) = searched (Ok (Offers o.mid)) (offering s left o)
replied_told old s Ended = searched (Ok (End s.result)) no_search
replied_told old s Broken = searched (Err Damaged) old

pub replied_by : (old : Search) (s : Stand) (x : Sought) (r : Hunted) → r ≡ told x → replied_told old s r ≡ replied old s x
replied_by old s x r e = ap (replied_told old s) e ∙ by x
  where
    by : (y : Sought) → replied_told old s (told y) ≡ replied old s y
    by (offered left o) = refl
    by ended = refl
    by broken = refl

-- ---- a start by the file's record

module _ (old : Search) (count : ℕ) (read : ℕ → Read) (i : ℕ) (f : FileRecord) where
  pub begun_empty : true ≡ is_empty f → searched (Ok (End f.first_seq)) no_search ≡ begun old count read i f
  unfolding begun
  begun_empty e = rw (← e) refl

  pub begun_hunts : is_empty f ≡ false → in_shape count f ≡ true → (s : Stand) → s ≡ start_of i f
      → replied old s (hunt count read s.left s.right s.links) ≡ begun old count read i f
  unfolding begun
  begun_hunts n h s u = rw (u, n, h)

  pub begun_broken : is_empty f ≡ false → in_shape count f ≡ false → searched (Err Damaged) old ≡ begun old count read i f
  unfolding begun
  begun_broken n h = rw (n, h)

-- ---- a call is an answer and the search that stays

abbrev made : World → Searched → Outcome (Result Answer Refusal)
made w r = answering w r.answer r.search

made_sought : (w : World) (s : Stand) (x : Sought) → made w (replied w.state.search s x) ≡ sought_by w s x
unfolding with_search
made_sought w s (offered left o) = refl
made_sought w s ended = refl
made_sought w s broken = refl

made_started : (w : World) (i : ℕ) (f : FileRecord) → made w (begun w.state.search w.state.page_count (read_at w.image) i f) ≡ start_in w i f
unfolding begun start_in sought
made_started w i f = go (is_empty f) refl (in_shape w.state.page_count f) refl
  where
    go : (a : Bool) → is_empty f ≡ a → (b : Bool) → in_shape w.state.page_count f ≡ b
        → made w (begun w.state.search w.state.page_count (read_at w.image) i f) ≡ start_in w i f
    go true a b c = rw a
    go false a true c = rw (a, c) (made_sought w (start_of i f) (hunt w.state.page_count (read_at w.image) f.first_seq f.last_seq (links_after (last_of f) f.last_seq)))
    go false a false c = rw (a, c) (made_sought w (start_of i f) broken)

module _ (w : World) (i : ℕ) where
  abbrev Checks : Done
  Checks = checks (length w.image) (length w.map) w.state w.state.transaction i

  -- ---- start

  -- a start that the checks refuse leaves the search
  pub start_refused : (why : Refusal) → Checks ≡ Err why → after_search (Err why) w.image w.map w.table w.state ≡ after_call (λ w. start w i) w
  unfolding start
  start_refused why e = rw e

  -- else it is what the file's record gives
  pub start_replied : (a : Result Answer Refusal) (q : Search) → Checks ≡ fine
      → searched a q ≡ begun w.state.search w.state.page_count (read_at w.image) i (file_at w.table i)
      → after_search a w.image w.map w.table (with_search w.state q) ≡ after_call (λ w. start w i) w
  unfolding start
  start_replied a q e u = ap (λ (r : Searched). finished w (made w r)) u ∙ rw e (ap (finished w) (made_started w i (file_at w.table i)))

-- ---- left and right

module _ (w : World) (f : Search → Stand) where
  -- an answer that the checks refuse leaves the search
  pub answer_refused : (why : Refusal) → Checks w 0 ≡ Err why → after_search (Err why) w.image w.map w.table w.state ≡ after_call (λ w. answered w f) w
  unfolding answered
  answer_refused why e = rw e

  -- so does one where no position is on offer
  pub answer_none : Checks w 0 ≡ fine → w.state.search.active ≡ false
      → after_search (Err NoSearch) w.image w.map w.table w.state ≡ after_call (λ w. answered w f) w
  unfolding answered
  answer_none e a = rw (e, a)

  answered_is : Checks w 0 ≡ fine → w.state.search.active ≡ true → answered w f ≡ sought w (f w.state.search)
  unfolding answered
  answered_is e a = rw e (ap (λ (b : Bool). cond b (sought w (f w.state.search)) (kept w (Err NoSearch))) a)

  -- else it is what the hunt gives from where the answer puts the search
  pub answer_replied : (a : Result Answer Refusal) (q : Search) (s : Stand) → Checks w 0 ≡ fine → w.state.search.active ≡ true → s ≡ f w.state.search
      → searched a q ≡ replied w.state.search s (hunt w.state.page_count (read_at w.image) s.left s.right s.links)
      → after_search a w.image w.map w.table (with_search w.state q) ≡ after_call (λ w. answered w f) w
  unfolding sought
  answer_replied a q s e o g u =
      let old = w.state.search in
      ap (λ (r : Searched). finished w (made w r)) u
      ∙ rw g (ap (finished w) (made_sought w (f old) (hunt w.state.page_count (read_at w.image) (f old).left (f old).right (f old).links) ∙ sym (answered_is e o)))

-- the way of an answer
pub turned : (b : Bool) (w : World) → after_call (λ w. answered w (cond b right_of left_of)) w ≡ after_call (turn b) w
turned true w = refl
turned false w = refl
