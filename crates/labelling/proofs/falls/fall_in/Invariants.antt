use Rattle.std.proofs.Common.{◌<◌, length}
use Rattle.labelling.proofs.Falling.{IsPassed}
use Rattle.labelling.proofs.falls.fall_in.Given as goal

abbrev pub invariant-loop-operation : goal.invariant-loop-operation
invariant-loop-operation l =
    record { passed : IsPassed l.fn.cursor l.labels l.at l.before l.cursor; known : l.before < length l.labels }

abbrev pub decreases-loop-operation : goal.decreases-loop-operation
decreases-loop-operation l = length l.cursor
