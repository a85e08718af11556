use Rattle.object_io.proofs.Whole.{one_image}
use Rattle.object_io.proofs.laws.one_image_for_a_text.Goals as goal

pub returns : goal.returns
returns c = λ one other l m s t e. one_image one other l m s t e
