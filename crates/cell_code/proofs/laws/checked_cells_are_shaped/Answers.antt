use Rattle.cell_code.proofs.Checks.{checked_cell}
use Rattle.cell_code.proofs.laws.checked_cells_are_shaped.Goals as goal

pub returns : goal.returns
returns c = checked_cell
