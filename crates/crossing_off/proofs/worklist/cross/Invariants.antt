use Rattle.crossing_off.specs.bodies.Worklist.{work_left, IsUnderWay, IsComplete}
use Rattle.crossing_off.proofs.worklist.cross.Given as goal

abbrev pub invariant-loop-operation : goal.invariant-loop-operation
invariant-loop-operation l = record {
  under_way : IsUnderWay l.seqs l.buffer l.crossing;
  complete : IsComplete l.seqs l.buffer l.crossing;
}

abbrev pub decreases-loop-operation : goal.decreases-loop-operation
decreases-loop-operation l = work_left l.crossing
