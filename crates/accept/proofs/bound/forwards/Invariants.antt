use Rattle.std.proofs.Common.{◌≡◌, ◌*◌, ◌≤◌}
use Rattle.cell_types.specs.Typed.{plain}
use Rattle.accept.proofs.Moves.{moves_before}
use Rattle.accept.proofs.bound.forwards.Given as goal

abbrev pub invariant-loop-index : goal.invariant-loop-index
invariant-loop-index l = record {
  sum : l.forwards ≡ moves_before (plain l.program) l.index;
  small : l.forwards ≤ l.index * 1095216660225;
}
