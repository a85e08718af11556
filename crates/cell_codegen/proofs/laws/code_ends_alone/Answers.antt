use Rattle.cell_codegen.proofs.EachCell.{followed}
use Rattle.cell_codegen.proofs.laws.code_ends_alone.Goals as goal

pub returns : goal.returns
returns c = λ program cell sound within input streams. followed program cell sound within input streams
