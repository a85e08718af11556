use Rattle.std.proofs.Common.{◌≡◌, map, length, take}
use Rattle.drive_tests.proofs.images.lists.Given as goal

abbrev pub invariant-loop-cell : goal.invariant-loop-cell
invariant-loop-cell l = map length l.lists ≡ map (λ c. c.takes) (take l.cell-index l.cells)
