-- What an exported call hands back, by the call's own definition. Assumes nothing: these are definitions.
use Rattle.std.specs.Prelude.{ℕ, ◌≡◌, Bool, true, false, List, Result, Ok, Err}
use Rattle.seq.specs.Ids.{none}
use Rattle.state.specs.declared.types.Refusal.{Refusal}
use Rattle.state.specs.declared.types.Table.{Table}
use Rattle.state.specs.declared.types.State.{State}
use Rattle.state.specs.Refusals.{number, Done}
use Rattle.state.specs.World.{After, before}
use Rattle.reader.specs.declared.Located.{Located}
use Rattle.reader.specs.Read.{AfterRead}
use Rattle.search.specs.declared.Answer.{Answer}
use Rattle.search.specs.declared.Answer.TheVariants as A
use Rattle.export.specs.declared.replies.Reply.{Reply}
use Rattle.export.specs.declared.replies.LocateReply.{LocateReply}
use Rattle.export.specs.declared.replies.SeqReply.{SeqReply}
use Rattle.export.specs.declared.replies.SearchReply.{SearchReply}

-- 0, or document 01's number of the refusal
abbrev pub code_of : {A : Type 0} → Result A Refusal → ℕ
code_of (Ok a) = 0
code_of (Err why) = number why

-- ---- calls that change

-- the code is the answer's, and image, map, table and state are the world after the call
pub record Replied (r : Reply) (image map : List ℕ) (a : After Done) : Type 0 where
  pub code : r.code ≡ code_of a.answer
  pub world : before image map r.table r.state ≡ a.world

-- ---- calls that read

abbrev pub located_reply : Result Located Refusal → LocateReply
located_reply (Ok at) = record { code = 0; page = at.page; headers = at.headers }
located_reply (Err why) = record { code = number why; page = none; headers = 0 }

-- the code is the answer's, the number the reader's, and the output is that of the read
pub record ReadReplied (r : SeqReply) (out : List ℕ) (a : AfterRead) : Type 0 where
  pub code : r.code ≡ code_of a.answer
  pub seq : r.seq ≡ a.reader.seq
  pub output : out ≡ a.out

-- of a reader that stands at a number, which a refusal leaves
abbrev pub skipped_reply : ℕ → Result ℕ Refusal → SeqReply
skipped_reply stands (Ok seq) = record { code = 0; seq = seq }
skipped_reply stands (Err why) = record { code = number why; seq = stands }

-- ---- search

-- a position is on offer
abbrev pub offers : Result Answer Refusal → Bool
offers (Ok (A.Offer seq)) = true
offers (Ok (A.End seq)) = false
offers (Err why) = false

-- the position, or the result at the end
abbrev pub answer_seq : Result Answer Refusal → ℕ
answer_seq (Ok (A.Offer seq)) = seq
answer_seq (Ok (A.End seq)) = seq
answer_seq (Err why) = 0

abbrev pub answer_reply : Result Answer Refusal → SearchReply
answer_reply a = record { code = code_of a; offer = offers a; seq = answer_seq a }

-- the reply is the answer's, and image, map, table and state are the world after the call
pub record SearchReplied (r : SearchReply) (image map : List ℕ) (table : Table) (state : State) (a : After (Result Answer Refusal)) : Type 0 where
  pub reply : r ≡ answer_reply a.answer
  pub world : before image map table state ≡ a.world
