-- What answers rest on: a call's outcome with its answer, buffers of which a part is lent, and bytes that are read. Assumes nothing.
use Prim.Native.Nat.{ℕ, ◌+◌, ◌≤◌, min}
use mathlib.Core.Path.{◌≡◌, refl, ap}
use mathlib.Core.List.{List, ◌++◌}
use native.Mathlib.Decide.{dec_le}
use native.Mathlib.Nat.{min-eq_left, min-eq_right}
use native.Mathlib.Omega.{arith}
use lib.ListN.{length, take, drop, drop_of_length-le}
use lib.Seq.{take_all, take_at}
use Rattle.runs.specs.Runs.{splice}
use Rattle.state.specs.Refusals.{on_done, Done}
use Rattle.reader.specs.declared.Reader.{Reader}
use Rattle.reader.specs.Read.{AfterRead, after_read, read_told}
use Rattle.reader.proofs.Numbers.{read_same}
use Rattle.script.specs.declared.command.Command.{Command}
use Rattle.script.specs.declared.command.Command.TheVariants as C
use Rattle.script.specs.declared.command.Setup.{Setup}
use Rattle.script.specs.declared.text.Output.{Output}
use Rattle.script.specs.Text.{ascii, puts}
use Rattle.script.specs.Say as say
use Rattle.answers.specs.declared.world.World.{World}
use Rattle.answers.specs.World.{Turned, left, scene}
use Rattle.answers.specs.Calls.{sight, read_by}
use Rattle.answers.specs.Answer.{on_lent, rejoined, on_buffers, on_command}

-- ---- what is lent

-- as many of a buffer as there are
pub take_least : (n : ℕ) (l : List ℕ) → take (min n (length l)) l ≡ take n l
take_least n l = elim (dec_le n (length l)) [
  | yes h ↦ rw (min-eq_left h)
  | no h ↦ let k : length l ≤ n = omega arith in rw (min-eq_right k, take_all (length l) l (omega arith), take_all n l k)
]

pub drop_least : (n : ℕ) (l : List ℕ) → drop (min n (length l)) l ≡ drop n l
drop_least n l = elim (dec_le n (length l)) [
  | yes h ↦ rw (min-eq_left h)
  | no h ↦
      let k : length l ≤ n = omega arith in
      let e : length l ≤ length l = omega arith in
      rw (min-eq_right k, drop_of_length-le l k, drop_of_length-le l e)
]

-- a command that is no setup is one on what is lent
pub other : (c : Command) (i m b : List ℕ) (w : World) (p : Output) → ((what : Setup) → c ≡ C.Setup what → ⊥) → on_command c i m b w p ≡ on_buffers c i m b w p
other (C.Setup what) i m b w p h = absurd (h what refl)
other (C.Volume what) i m b w p h = refl
other (C.Reading what) i m b w p h = refl
other (C.Searching what) i m b w p h = refl
other (C.Writing what) i m b w p h = refl
other (C.Files what) i m b w p h = refl
other (C.Show what) i m b w p h = refl
other (C.Helper what) i m b w p h = refl
other C.Nothing i m b w p h = refl

-- ---- bytes that are read

back_splice : (b o : List ℕ) (n : ℕ) → length o ≡ n → o ++ drop n b ≡ splice b 0 o
unfolding splice
back_splice b o n k = let z : 0 + n ≡ n = omega arith in rw (k, z)

-- in front of what it left are the bytes that it read
pub back_part : (b o : List ℕ) (n : ℕ) → length o ≡ n → take n (o ++ drop n b) ≡ o
back_part b o n k = take_at o (drop n b) n k

-- the bytes that a read leaves, with its answer
pub read_left : (b o : List ℕ) (n : ℕ) → length o ≡ n → (p q : Output) (d : Done) (r : Reader) (a : AfterRead) → read_told (after_read d r o) ≡ read_told a
    → q ≡ puts p (on_done d say.refused (say.hex (ascii "bytes") o)) → sight (o ++ drop n b) q ≡ read_by b p a
read_left b o n k p q d r a e f = rw (back_splice b o n k, f) (ap (read_by b p) (read_same (after_read d r o) a e))

-- ---- what was lent comes back

pub lent_back : (c : Command) (i m b : List ℕ) (w : World) (p : Output) (x y : ℕ) (i' m' b' : List ℕ) (t : Turned) → x ≡ min w.image (length i) → y ≡ min w.map (length m)
    → scene b' (left i' m' t) ≡ on_lent c (take x i) (take y m) b w p → scene b' (left (i' ++ drop x i) (m' ++ drop y m) t) ≡ on_buffers c i m b w p
lent_back c i m b w p x y i' m' b' t e f h =
    let g : scene b' (left i' m' t) ≡ on_lent c (take w.image i) (take w.map m) b w p = rw (← take_least w.image i, ← take_least w.map m, ← e, ← f) h in
    rw (e, f, drop_least w.image i, drop_least w.map m) (ap (rejoined i m w) g)
