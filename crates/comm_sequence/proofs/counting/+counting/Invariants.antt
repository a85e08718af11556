use Rattle.std.proofs.Common.{◌≡◌, ◌+◌, drop}
use Rattle.cell_types.specs.Communications.{times}
use Rattle.comm_sequence.specs.Parts.{unrolled}
use Rattle.comm_sequence.specs.bodies.Unrolling.{communication_of}
use Rattle.comm_sequence.proofs.counting.+counting.Given as goal

abbrev pub invariant-count-loop-part : goal.invariant-count-loop-part
invariant-count-loop-part l =
    l.count + times (communication_of l.entry) (unrolled (drop l.part-index l.parts))
    ≡ times (communication_of l.entry) (unrolled l.parts)
