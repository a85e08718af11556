use Rattle.std.proofs.Common.{take}
use Rattle.comm_sequence.specs.Parts.{unrolled}
use Rattle.comm_sequence.specs.bodies.Walking.{HasAdded}
use Rattle.comm_sequence.proofs.counting.+adding.Given as goal

abbrev pub invariant-add_writes-loop-part : goal.invariant-add_writes-loop-part
invariant-add_writes-loop-part l = HasAdded l.fn.lengths l.lengths l.turns (unrolled (take l.part-index l.parts))
