use Rattle.cell_types.specs.Typed.{action_of}
use Rattle.cell_types.proofs.FirstFaults.{first_left, stops_with}
use Rattle.cell_types.proofs.statements.set.Goals as goal

pub returns-in_err-word : goal.returns-in_err-word
returns-in_err-word c =
    stops_with action_of _ _ c.from_residual.result _ c.from_residual.ensures.1 (first_left _ _ _ c.in_err-word.ensures)
