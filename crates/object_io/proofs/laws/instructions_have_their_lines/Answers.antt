use Rattle.object_io.proofs.Instructions.{instruction_cut}
use Rattle.object_io.proofs.laws.instructions_have_their_lines.Goals as goal

pub returns : goal.returns
returns c = λ x y rest left h k e. instruction_cut x y rest left h k e
