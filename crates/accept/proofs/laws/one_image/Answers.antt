use Rattle.accept.proofs.OneBuild.{built_is_image, one_image, one_program}
use Rattle.accept.proofs.laws.one_image.Goals as goal

pub returns-clause-one : goal.returns-clause-one
returns-clause-one c = one_image c.laws_below.ensures

pub returns-clause-program : goal.returns-clause-program
returns-clause-program c = one_program c.laws_below.ensures

pub returns-clause-built : goal.returns-clause-built
returns-clause-built c = built_is_image
