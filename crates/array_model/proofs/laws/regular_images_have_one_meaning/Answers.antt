use Rattle.array_model.proofs.Meant.{one_meaning}
use Rattle.array_model.proofs.laws.regular_images_have_one_meaning.Goals as goal

pub returns : goal.returns
returns c = λ image buffer inputs h counted. one_meaning image buffer h inputs counted
