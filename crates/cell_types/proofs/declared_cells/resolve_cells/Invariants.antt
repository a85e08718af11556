use Rattle.std.proofs.Common.{◌≡◌, length, map}
use Rattle.std.specs.Vec.Iter.{into_iter_items, into_iter_len}
use Rattle.cell_types.specs.bodies.Tables.{named_in}
use Rattle.cell_types.specs.Typed.{plain_cell}
use Rattle.cell_types.proofs.CellLoop.{CellsTaken}
use Rattle.cell_types.proofs.declared_cells.resolve_cells.Given as goal

abbrev pub invariant-loop-cell : goal.invariant-loop-cell
invariant-loop-cell l =
    CellsTaken l.grid (named_in l.messages) l.fn.declared l.marks.items (map plain_cell l.cells.items) l.yielded
    (into_iter_items l.cell-iterator)
    × (into_iter_len l.cell-iterator ≡ length (into_iter_items l.cell-iterator))
