-- `writer::write::write_all` meets its contract: what the rest of the write makes is what the whole makes.
-- Assumes nothing.
use mathlib.Core.Path.{◌≡◌, sym, ap, ◌∙◌}
use Prim.Native.Nat.{min, ◌<◌}
use native.Mathlib.Omega.{arith}
use Rattle.std.proofs.lemmas.Bool.Decides.{nat_tests}
use lib.ListN.{length, take}
use Rattle.state.specs.Values.{with_cursor, with_writer}
use Rattle.writer.specs.Staging.{space, filled_by}
use Rattle.writer.specs.Inner.{begins, wrote}
use Rattle.writer.proofs.Turns.{turn_room, turn_fits, turn_after, turn_made, write_none}
use Rattle.writer.proofs.write.write_all.Goals as goal
use Rattle.writer.proofs.write.write_all.Goals.{After-put, After-later-1}

count : (c : After-later-1) → c.min.result ≡ min (space c.ready.new.state.writer) (length c.loop-rest.rest.now)
count c = c.min.ensures ∙ rw c.space_left.ensures

pub put-requires : goal.put-requires
put-requires c =
    let o = c.loop-rest in
    rw c.split_at.ensures.front (turn_fits o.image o.map o.state o.rest.now _ _ c.ready.new.state o.invariant.sound (grind (arith, nat_tests)) c.ready.ensures c.min.result (count c))

pub loop-rest-smaller : goal.loop-rest-smaller
loop-rest-smaller c =
    let o = c.loop-rest in
    let some : 0 < length o.rest.now = grind (arith, nat_tests) in
    let room = turn_room o.image o.map o.state o.rest.now _ _ c.ready.new.state o.invariant.sound some c.ready.ensures in
    omega (arith, room, c.split_at.ensures.back_len, c.min.ensures, c.space_left.ensures)

pub loop-rest-preserved : goal.loop-rest-preserved
unfolding with_writer
loop-rest-preserved c =
    let o = c.loop-rest in
    let s = o.invariant.sound in
    let e : c.min.result ≡ min (space c.ready.new.state.writer) (length o.rest.now) = c.min.ensures ∙ rw c.space_left.ensures in
    let v : c.put.new.w ≡ filled_by c.ready.new.state.writer (take c.min.result o.rest.now) = c.put.ensures ∙ rw c.split_at.ensures.front in
    record {
      made = rw c.split_at.ensures.back (turn_made o.image o.map o.state o.rest.now _ _ c.ready.new.state s (grind (arith, nat_tests)) c.ready.ensures c.put.new.w c.min.result e v) ∙ o.invariant.made;
      sound = rw c.split_at.ensures.back (turn_after o.image o.map o.state o.rest.now _ _ c.ready.new.state s (grind (arith, nat_tests)) c.ready.ensures c.put.new.w c.min.result e v);
    }

pub returns : goal.returns
unfolding with_cursor with_writer
returns c =
    let o = c.loop-rest in
    sym (ap (wrote o.image o.state) (write_none o.state.page_count o.rest.now (begins o.map o.state) (grind (arith, nat_tests)))) ∙ o.invariant.made
