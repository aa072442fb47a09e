-- Numbers lose nothing: a reader's answers can be read back from them. Assumes nothing.
use Rattle.std.specs.Prelude.{Result, Ok, Err}
use Rattle.state.specs.declared.types.Refusal.{Refusal}
use Rattle.state.specs.Refusals.{Done, fine}
use Prim.Native.Nat.{ℕ}
use mathlib.Core.Path.{◌≡◌, refl, ap}
use mathlib.Core.List.{List}
use lib.ListN.{get_or}
use Rattle.state.proofs.Numbers.{by_code, by_number, read_back}
use Rattle.reader.specs.declared.Located.{Located}
use Rattle.reader.specs.Locate.{located_numbers, located_at}
use Rattle.reader.specs.Skip.{skipped_numbers}
use Rattle.reader.specs.Read.{AfterRead, ToldRead, read_told}

-- ---- locate

abbrev located_in : List ℕ → Result Located Refusal
located_in l = by_code (get_or l 0 0) (located_at (get_or l 1 0) (get_or l 2 0)) Err

located_back : (a : Result Located Refusal) → located_in (located_numbers a) ≡ a
located_back (Ok l) = refl
located_back (Err why) = by_number (located_at 0 0) Err why

pub located_same : (a b : Result Located Refusal) → located_numbers a ≡ located_numbers b → a ≡ b
located_same = read_back located_numbers located_in located_back

-- ---- skip and seek

abbrev skipped_in : List ℕ → Result ℕ Refusal
skipped_in l = by_code (get_or l 0 0) (Ok (get_or l 1 0)) Err

skipped_back : (a : Result ℕ Refusal) → skipped_in (skipped_numbers a) ≡ a
skipped_back (Ok seq) = refl
skipped_back (Err why) = by_number (Ok 0) Err why

pub skipped_same : (a b : Result ℕ Refusal) → skipped_numbers a ≡ skipped_numbers b → a ≡ b
skipped_same = read_back skipped_numbers skipped_in skipped_back

-- ---- read

abbrev after_in : ToldRead → AfterRead
after_in r =
    record {
      answer = by_code (get_or r.answer 0 0) fine Err;
      reader = record { file = get_or r.answer 1 0; seq = get_or r.answer 2 0 };
      out = r.out;
    }

after_back : (a : AfterRead) → after_in (read_told a) ≡ a
after_back a = by a.answer refl
  where
    by : (d : Done) → a.answer ≡ d → after_in (read_told a) ≡ a
    by (Ok u) e = rw e
    by (Err why) e = rw e (ap (λ (d : Done). record { answer = d; reader = a.reader; out = a.out }) (by_number fine Err why))

pub read_same : (a b : AfterRead) → read_told a ≡ read_told b → a ≡ b
read_same = read_back read_told after_in after_back
