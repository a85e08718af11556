use Rattle.std.proofs.Common.{◌≡◌, map, replicate}
use Rattle.cell_types.specs.Code.{End}
use Rattle.cell_types.specs.Resolved.{cell_with}
use Rattle.cell_types.specs.Typed.{plain_cell}
use Rattle.cell_types.proofs.declared_cells.empty_cells.Given as goal

abbrev pub invariant-loop : goal.invariant-loop
invariant-loop l = map plain_cell l.cells.items ≡ replicate l.counter (cell_with 0 End)
