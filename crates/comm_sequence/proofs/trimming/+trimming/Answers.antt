use Rattle.std.proofs.Common.{subst}
use Rattle.comm_sequence.specs.Parts.{part_unrolled, part_loops, loops}
use Rattle.comm_sequence.specs.bodies.Walking.{operations, HasGrown}
use Rattle.comm_sequence.proofs.Grown.{kept_loop, kept_more, kept_one, place_loops}
use Rattle.comm_sequence.proofs.trimming.+trimming.Goals as goal

pub keep-returns-in_ok-push-in-One : goal.keep-returns-in_ok-push-in-One
keep-returns-in_ok-push-in-One t c =
    kept_one c.args.kept.now.items c.push.new.self.items c.args.part.now c.in-One.operation c.in-One.is c.in_ok-push-in-One.ensures.items

pub keep-returns-in_ok-parts-in-Repeat : goal.keep-returns-in_ok-parts-in-Repeat
keep-returns-in_ok-parts-in-Repeat t c =
    kept_loop c.args.kept.now.items c.push_loop.new.list.items c.args.part.now c.in-Repeat.turns c.in-Repeat.parts c.as_slice.result.now c.in_ok-parts-in-Repeat.parts.items
    c.push_loop.result c.in-Repeat.is c.as_slice.ensures.value c.in_ok-parts-in-Repeat.ensures c.push_loop.ensures

pub operations_of-loop-part-preserved : goal.operations_of-loop-part-preserved
operations_of-loop-part-preserved t c =
    let h = c.in_ok-keep.ensures in
    let i = c.loop-part.part-index in
    let parts = c.args.parts.now in
    let P : _ → Type 0 = λ p. HasGrown c.loop-part.kept.items c.keep.new.kept.items (operations (part_unrolled p)) (part_loops p) in
    let g = subst P c.part-item.is h in
    record {
      list = kept_more parts c.loop-part.kept.items c.keep.new.kept.items i c.part-item.result _ _ c.loop-part-test.true c.loop-part.invariant.list g;
      full = h.full c.loop-part.invariant.full;
      room = g.room (loops parts) c.loop-part.invariant.room (place_loops parts i c.part-item.result c.loop-part-test.true);
    }
