use Rattle.cell_codegen.proofs.EachCell.{at_its_end, is_shaped}
use Rattle.cell_codegen.proofs.laws.code_is_shaped.Goals as goal

pub returns-clause-shaped : goal.returns-clause-shaped
returns-clause-shaped c = λ program cell sound within alike. is_shaped program cell sound within alike

pub returns-clause-ends : goal.returns-clause-ends
returns-clause-ends c = λ program cell at instr sound within is. at_its_end program cell sound within at instr is
