use Rattle.std.proofs.Common.{◌≡◌, map, take}
use Rattle.cell_types.specs.Communications.{times}
use Rattle.comm_sequence.specs.Gathered.{all_unrolled}
use Rattle.comm_sequence.specs.bodies.Unrolling.{communication_of}
use Rattle.comm_sequence.proofs.gathering.counts.Given as goal

abbrev pub invariant-loop-parts : goal.invariant-loop-parts
invariant-loop-parts l =
    l.counts ≡ map (times (communication_of l.entry)) (all_unrolled (take l.parts-index l.cells))
