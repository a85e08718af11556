use Rattle.std.proofs.Common.{◌≡◌, map, take}
use Rattle.cell_types.specs.Typed.{plain}
use Rattle.accept.specs.Told.{wait_line}
use Rattle.accept.proofs.stalls.walk_lines.Given as goal

abbrev pub invariant-loop-wait : goal.invariant-loop-wait
invariant-loop-wait l = l.lines ≡ map (wait_line (plain l.program)) (take l.wait-index l.walk.waits.items)
