use Rattle.std.proofs.Common.{sym, subst, All, rules, arith}
use Rattle.std.proofs.lemmas.List.Elements.{All-get_or}
use Rattle.comm_sequence.specs.Parts.{part_unrolled}
use Rattle.comm_sequence.specs.bodies.Walking.{CanAdd, HasAdded, IsFull}
use Rattle.comm_sequence.specs.declared.part.Part.{the_lemmas}
use Rattle.comm_sequence.proofs.PartRows.{repeat_full}
use Rattle.comm_sequence.proofs.TreeCounts.{added_loop, added_more, can_add_loop, can_add_part, turns_fit}
use Rattle.comm_sequence.proofs.counting.+adding.Goals as goal

pub add_writes-add_writes_of-requires : goal.add_writes-add_writes_of-requires
add_writes-add_writes_of-requires t c =
    let i = c.loop-part.part-index in
    let parts = c.args.parts.now in
    let now = c.loop-part.lengths in
    let can = can_add_part parts i c.part-item.result c.args.lengths.now now c.args.turns c.loop-part-test.true (search rules) c.requires.room c.loop-part.invariant in (
      search (rules, the_lemmas),
      (
        subst (λ p. CanAdd now c.args.turns (part_unrolled p)) (sym c.part-item.is) can,
        subst IsFull (sym c.part-item.is) (All-get_or IsFull parts i c.part-item.result c.loop-part-test.true c.requires.full),
      ),
    )

pub add_writes-loop-part-preserved : goal.add_writes-loop-part-preserved
add_writes-loop-part-preserved t c =
    let now = c.loop-part.lengths in
    added_more c.args.parts.now c.loop-part.part-index c.part-item.result c.args.lengths.now now c.add_writes_of.new.lengths c.args.turns
    c.loop-part-test.true (search rules) c.loop-part.invariant
    (subst (λ p. HasAdded now c.add_writes_of.new.lengths c.args.turns (part_unrolled p)) c.part-item.is c.add_writes_of.ensures)

pub add_writes_of-overflow_mul-turns : goal.add_writes_of-overflow_mul-turns
add_writes_of-overflow_mul-turns t c =
    omega (arith, turns_fit c.args.part.now c.in-Repeat.inner c.in-Repeat.parts c.args.lengths.now c.args.turns c.in-Repeat.is c.requires.full c.requires.room)

pub add_writes_of-add_writes-requires : goal.add_writes_of-add_writes-requires
add_writes_of-add_writes-requires t c =
    let full = repeat_full c.in-Repeat.inner c.in-Repeat.parts (subst IsFull c.in-Repeat.is c.requires.full) in (
      search (rules, the_lemmas),
      (
        can_add_loop c.args.part.now c.in-Repeat.inner c.in-Repeat.parts c.as_slice.result.now c.args.lengths.now c.args.turns c.in-Repeat.is
            c.as_slice.ensures.value c.requires.full c.requires.room,
        subst (All IsFull) (sym c.as_slice.ensures.value) full.2,
      ),
    )

pub add_writes_of-returns-in-Repeat : goal.add_writes_of-returns-in-Repeat
add_writes_of-returns-in-Repeat t c =
    added_loop c.args.part.now c.in-Repeat.inner c.in-Repeat.parts c.as_slice.result.now c.args.lengths.now c.add_writes.new.lengths c.args.turns
    c.in-Repeat.is c.as_slice.ensures.value c.add_writes.ensures
