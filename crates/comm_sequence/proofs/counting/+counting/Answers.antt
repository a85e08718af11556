use Rattle.std.proofs.Common.{◌≡◌, ◌*◌, length, ap, rules, arith}
use Rattle.comm_sequence.specs.Parts.{part_unrolled}
use Rattle.comm_sequence.specs.bodies.Unrolling.{communication_of}
use Rattle.comm_sequence.specs.declared.part.Part.{the_lemmas}
use Rattle.comm_sequence.proofs.TreeCounts.{body_long, loop_times, place_long, times_within}
use Rattle.comm_sequence.proofs.counting.+counting.Goals as goal

pub count-count_part-count-requires : goal.count-count_part-count-requires
count-count_part-count-requires t c =
    let long = place_long c.args.parts.now c.loop-part.part-index c.part-item.result c.loop-part-test.true in
    (search (rules, the_lemmas), omega (arith, ap (λ p. length (part_unrolled p)) c.part-item.is, long, c.requires))

pub count_part-count-requires : goal.count_part-count-requires
count_part-count-requires t c =
    let long = body_long c.args.part.now c.in-Repeat.turns c.in-Repeat.parts c.as_slice.result.now c.in-Repeat.is c.as_slice.ensures.value c.if-turns-eq0.false in
    (search (rules, the_lemmas), omega (arith, long, c.requires))

pub count_part-overflow_mul-result : goal.count_part-overflow_mul-result
count_part-overflow_mul-result t c =
    let x = communication_of c.args.entry in
    let e = loop_times x c.args.part.now c.in-Repeat.turns c.in-Repeat.parts c.as_slice.result.now c.in-Repeat.is c.as_slice.ensures.value in
    let f : c.in-Repeat.turns * c.count.result ≡ _ = ap (λ n. c.in-Repeat.turns * n) c.count.ensures in
    omega (arith, e, f, times_within x (part_unrolled c.args.part.now), c.requires)

pub count_part-returns-else-turns-eq0 : goal.count_part-returns-else-turns-eq0
count_part-returns-else-turns-eq0 t c =
    let x = communication_of c.args.entry in
    let e = loop_times x c.args.part.now c.in-Repeat.turns c.in-Repeat.parts c.as_slice.result.now c.in-Repeat.is c.as_slice.ensures.value in
    let f : c.in-Repeat.turns * c.count.result ≡ _ = ap (λ n. c.in-Repeat.turns * n) c.count.ensures in
    omega (arith, e, f)
