use Rattle.std.proofs.Common.{◌≡◌, ◌++◌, take}
use Rattle.std.specs.List.{flat_map}
use Rattle.cell_tree.specs.Canonical.{cell_pieces}
use Rattle.cell_tree.specs.Pieces.{joined}
use Rattle.cell_tree.proofs.print_source.write_cells.Given as goal

abbrev pub invariant-loop-cell : goal.invariant-loop-cell
invariant-loop-cell l = l.out.items ≡ l.fn.out.items ++ joined (flat_map cell_pieces (take l.cell-index l.cells))
