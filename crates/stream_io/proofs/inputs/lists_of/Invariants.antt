use Rattle.std.proofs.Common.{◌≡◌, length}
use Rattle.serde_json.specs.View.{view}
use Rattle.stream_io.specs.Reading.{lists_below}
use Rattle.stream_io.proofs.inputs.lists_of.Given as goal

abbrev pub invariant-loop-cell : goal.invariant-loop-cell
invariant-loop-cell l = (l.cells ≡ lists_below l.grid (view l.value) l.cell) × (length l.cells ≡ l.cell)
