use Rattle.std.proofs.Common.{◌≡◌, map}
use Rattle.sys_base.proofs.streams.Inputs.copy.Given as goal

abbrev pub invariant-loop-cell : goal.invariant-loop-cell
invariant-loop-cell l = l.cells ≡ map (λ y. y.now) l.yielded
