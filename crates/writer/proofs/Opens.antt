-- The definition of opening a writer, exit by exit, in the order of its tests. Assumes nothing.
use Rattle.std.specs.Prelude.{Some, None}
use Rattle.state.specs.Refusals.{fine}
use Prim.Native.Nat.{ℕ}
use mathlib.Core.Path.{◌≡◌}
use mathlib.Core.Bool.{Bool, true}
use mathlib.Core.List.{List}
use native.Mathlib.Omega.{arith}
use lib.ListN.{length, set}
use Rattle.map.specs.Map.{alloc_of, used, beyond}
use Rattle.chain.specs.declared.PagePointer.{PagePointer}
use Rattle.state.specs.declared.types.FileRecord.{FileRecord}
use Rattle.state.specs.declared.types.State.{State}
use Rattle.state.specs.declared.types.Writer.{Writer}
use Rattle.state.specs.declared.types.Refusal.TheVariants.{NoRoom}
use Rattle.state.specs.Values.{in_shape, with_cursor, with_writer}
use Rattle.state.specs.World.{World, ended, refuse, before}
use Rattle.state.proofs.Laws.{Passed, shape_says}
use Rattle.writer.specs.Open.{copy_writer, copied_to}
use Rattle.writer.specs.Inner.{Sized, Stands}

-- what checks 1 to 4 say of the image
pub passed_sized : (img m : List ℕ) (s : State) (busy : Bool) (file : ℕ) → Passed (length img) (length m) s busy file → Sized img s
passed_sized img m s busy file p =
    record {
      few = omega (arith, p.mounted.inside, p.mounted.high);
      whole = omega (arith, p.whole, p.pages, p.mounted.inside);
      cursor = p.mounted.cursor;
    }

pub shaped_stands : (img : List ℕ) (s : State) (f : FileRecord) → Sized img s → in_shape s.page_count f ≡ true → Stands img s f
shaped_stands img s f z h = let g = shape_says s.page_count f h in record { sized = z; inside = g.inside; high = g.high }
