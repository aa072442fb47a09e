-- A reply made of what a call answered and left says what the call's definition says: numbers lose nothing, so that the promise's equation
-- of numbers is one of answers. Assumes nothing.
use Rattle.std.specs.Prelude.{Result}
use mathlib.Core.Path.{◌≡◌, ap, ◌∙◌}
use mathlib.Core.List.{List}
use Prim.Native.Nat.{ℕ}
use Rattle.state.specs.declared.types.Refusal.{Refusal}
use Rattle.state.specs.declared.types.Table.{Table}
use Rattle.state.specs.declared.types.State.{State}
use Rattle.state.specs.Refusals.{numbers, Done}
use Rattle.state.specs.World.{After, after, in_numbers, yields}
use Rattle.state.proofs.Numbers.{numbers_same, outcome_same}
use Rattle.reader.specs.declared.Reader.{Reader}
use Rattle.reader.specs.Read.{AfterRead, after_read, read_told}
use Rattle.reader.proofs.Numbers.{read_same}
use Rattle.search.specs.declared.Answer.{Answer}
use Rattle.search.specs.Search.{answer_numbers}
use Rattle.search.specs.Told.{after_search, yields as finds}
use Rattle.search.proofs.Numbers.{answer_same}
use Rattle.export.specs.declared.replies.SearchReply.{SearchReply}
use Rattle.export.specs.Replies.{code_of, Replied, ReadReplied, answer_reply, SearchReplied}

-- of a call that changes
pub replied_is : (n : ℕ) (d : Done) (i m : List ℕ) (t : Table) (s : State) (a : After Done) → n ≡ code_of d → yields d i m t s ≡ in_numbers numbers a
    → Replied (record { code = n; table = t; state = s }) i m a
replied_is n d i m t s a e f =
    let g = outcome_same numbers numbers_same (after d i m t s) a f in
    record { code = e ∙ ap (λ (x : After Done). code_of x.answer) g; world = ap (λ (x : After Done). x.world) g }

-- of a read
pub read_is : (n : ℕ) (d : Done) (r : Reader) (out : List ℕ) (a : AfterRead) → n ≡ code_of d → read_told (after_read d r out) ≡ read_told a
    → ReadReplied (record { code = n; seq = r.seq }) out a
read_is n d r out a e f =
    let g = read_same (after_read d r out) a f in
    record {
      code = e ∙ ap (λ (x : AfterRead). code_of x.answer) g;
      seq = ap (λ (x : AfterRead). x.reader.seq) g;
      output = ap (λ (x : AfterRead). x.out) g;
    }

-- of a search
pub sought_is : (r : SearchReply) (o : Result Answer Refusal) (i m : List ℕ) (t : Table) (s : State) (a : After (Result Answer Refusal)) → r ≡ answer_reply o
    → finds o i m t s ≡ in_numbers answer_numbers a → SearchReplied r i m t s a
sought_is r o i m t s a e f =
    let g = outcome_same answer_numbers answer_same (after_search o i m t s) a f in
    record { reply = e ∙ ap (λ (x : After (Result Answer Refusal)). answer_reply x.answer) g; world = ap (λ (x : After (Result Answer Refusal)). x.world) g }
