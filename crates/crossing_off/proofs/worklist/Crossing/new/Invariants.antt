use Rattle.crossing_off.proofs.Start.{IsStarted}
use Rattle.crossing_off.proofs.worklist.Crossing.new.Given as goal

abbrev pub invariant-loop-cell : goal.invariant-loop-cell
invariant-loop-cell l = IsStarted l.seqs l.crossing.rests.items l.crossing.waiting l.crossing.held.items l.crossing.wanted.items l.crossing.order.items l.cell
