use Rattle.crossing_off.proofs.Walking.{IsWalking, unvisited}
use Rattle.crossing_off.proofs.waits.walk.Given as goal

abbrev pub invariant-loop-front : goal.invariant-loop-front
invariant-loop-front l = IsWalking l.seqs l.residue.fronts.items l.waits.items l.visited.items l.cell

abbrev pub decreases-loop-front : goal.decreases-loop-front
decreases-loop-front l = unvisited l.visited.items
