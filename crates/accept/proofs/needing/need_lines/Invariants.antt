use Rattle.std.proofs.Common.{◌≡◌}
use Rattle.cell_types.specs.Typed.{plain}
use Rattle.accept.specs.bodies.Needing.{lines_below}
use Rattle.accept.proofs.needing.need_lines.Given as goal

abbrev pub invariant-loop-link : goal.invariant-loop-link
invariant-loop-link l = l.lines.items ≡ lines_below (plain l.program) l.groups l.link
