use Rattle.std.proofs.Common.{◌-◌, ℕ, ◌≤◌, length}
use Rattle.comm_sequence.specs.declared.comm.Comm.{Comm}
use Rattle.crossing_off.specs.Walk.{HasFront}
use Rattle.crossing_off.proofs.waits.first_left.Given as goal

abbrev pub invariant-loop-cell : goal.invariant-loop-cell
invariant-loop-cell l = (other : ℕ) (comm : Comm) → HasFront l.fronts other comm → l.cell ≤ other

abbrev pub decreases-loop-cell : goal.decreases-loop-cell
decreases-loop-cell l = length l.fronts - l.cell
