use Rattle.std.proofs.Common.{◌≡◌, ◌++◌, take}
use Rattle.std.specs.List.{flat_map, enumerate_from}
use Rattle.object_io.specs.Objects.{cell_lines}
use Rattle.object_io.proofs.write_image.write_cells.Given as goal

abbrev pub invariant-loop-index : goal.invariant-loop-index
invariant-loop-index l = l.out.items ≡ l.fn.out.items ++ flat_map cell_lines (enumerate_from 0 (take l.index l.cells))
