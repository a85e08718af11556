use Rattle.array_model.proofs.Sure.{regular_sure}
use Rattle.array_model.proofs.laws.regular_images_are_sure.Goals as goal

pub returns : goal.returns
returns c = regular_sure
