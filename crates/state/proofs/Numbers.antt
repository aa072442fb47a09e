-- Numbers lose nothing: an answer can be read back from them, so that two answers with the same numbers are equal, and so are
-- two outcomes that one promise allows. Assumes nothing.
use Rattle.std.specs.Prelude.{Bool, true, false, Result, Ok, Err}
use Prim.Native.Nat.{ℕ}
use mathlib.Core.Path.{◌≡◌, refl, sym, ap, ◌∙◌}
use mathlib.Core.Bool.{cond}
use mathlib.Core.List.{List, [], ◌∷◌}
use lib.Dec.{eqb}
use lib.ListN.{get_or}
use Rattle.state.specs.declared.types.Refusal.{Refusal}
use Rattle.state.specs.declared.types.Refusal.TheVariants.{BadSize, NotMounted, Busy, BadFile, Damaged, Eof, Short, NoRoom, SeqEnd, NoSearch, Gone, Range}
use Rattle.state.specs.declared.types.Table.{Table}
use Rattle.state.specs.declared.types.State.{State}
use Rattle.state.specs.Refusals.{number, numbers, asked_numbers, whether_numbers, Done, fine}
use Rattle.state.specs.World.{World, Outcome, After, after_call, after, in_numbers, yields, promised}

-- ---- reading back

-- the refusal of a number
abbrev pub refusal_of : ℕ → Refusal
refusal_of n = get_or (Range ∷ BadSize ∷ NotMounted ∷ Busy ∷ BadFile ∷ Damaged ∷ Eof ∷ Short ∷ NoRoom ∷ SeqEnd ∷ NoSearch ∷ Gone ∷ []) n Range

-- an answer by its code: its values where that is 0, else the refusal of that number
abbrev pub by_code : {A : Type 0} → ℕ → A → (Refusal → A) → A
by_code n a refuse = cond (eqb n 0) a (refuse (refusal_of n))

-- a refusal's number is its own, and never 0
pub by_number : {A : Type 0} (a : A) (refuse : Refusal → A) (why : Refusal) → by_code (number why) a refuse ≡ refuse why
by_number a refuse BadSize = refl
by_number a refuse NotMounted = refl
by_number a refuse Busy = refl
by_number a refuse BadFile = refl
by_number a refuse Damaged = refl
by_number a refuse Eof = refl
by_number a refuse Short = refl
by_number a refuse NoRoom = refl
by_number a refuse SeqEnd = refl
by_number a refuse NoSearch = refl
by_number a refuse Gone = refl
by_number a refuse Range = refl

-- what can be read back is not lost
pub read_back : {A B : Type 0} (f : A → B) (g : B → A) → ((a : A) → g (f a) ≡ a) → (a b : A) → f a ≡ f b → a ≡ b
read_back f g back a b e = sym (back a) ∙ ap g e ∙ back b

-- ---- refusals, and the answers of calls that give no value

pub number_same : (x y : Refusal) → number x ≡ number y → x ≡ y
number_same = read_back number (λ n. by_code n Range (λ why. why)) (by_number Range (λ why. why))

done_back : (d : Done) → by_code (get_or (numbers d) 0 0) fine Err ≡ d
done_back (Ok u) = refl
done_back (Err why) = by_number fine Err why

pub numbers_same : (x y : Done) → numbers x ≡ numbers y → x ≡ y
numbers_same = read_back numbers (λ l. by_code (get_or l 0 0) fine Err) done_back

-- ---- small questions

asked_back : (a : Result ℕ Refusal) → by_code (get_or (asked_numbers a) 0 0) (Ok (get_or (asked_numbers a) 1 0)) Err ≡ a
asked_back (Ok n) = refl
asked_back (Err why) = by_number (Ok 0) Err why

pub asked_same : (x y : Result ℕ Refusal) → asked_numbers x ≡ asked_numbers y → x ≡ y
asked_same = read_back asked_numbers (λ l. by_code (get_or l 0 0) (Ok (get_or l 1 0)) Err) asked_back

abbrev whether_in : List ℕ → Result Bool Refusal
whether_in l = by_code (get_or l 0 0) (cond (eqb (get_or l 1 0) 0) (Ok false) (Ok true)) Err

whether_back : (a : Result Bool Refusal) → whether_in (whether_numbers a) ≡ a
whether_back (Ok true) = refl
whether_back (Ok false) = refl
whether_back (Err why) = by_number (Ok false) Err why

pub whether_same : (x y : Result Bool Refusal) → whether_numbers x ≡ whether_numbers y → x ≡ y
whether_same = read_back whether_numbers whether_in whether_back

-- ---- outcomes

-- where an answer's numbers lose nothing, its numbers with the world lose nothing
pub outcome_same : {A : Type 0} (f : A → List ℕ) → ((a b : A) → f a ≡ f b → a ≡ b) → (x y : After A) → in_numbers f x ≡ in_numbers f y → x ≡ y
outcome_same {A} f same x y e =
    let a : x.answer ≡ y.answer = same x.answer y.answer (ap (λ (z : After (List ℕ)). z.answer) e) in
    let w : x.world ≡ y.world = ap (λ (z : After (List ℕ)). z.world) e in
    ap (λ (z : A). record { answer = z; world = x.world }) a ∙ ap (λ (z : World). record { answer = y.answer; world = z }) w

-- a promise kept in numbers is kept
pub promise_same : (call : World → Outcome Done) (w : World) (a : Done) (i m : List ℕ) (t : Table) (s : State)
    → yields a i m t s ≡ promised call w → after a i m t s ≡ after_call call w
promise_same call w a i m t s e = outcome_same numbers numbers_same (after a i m t s) (after_call call w) e
