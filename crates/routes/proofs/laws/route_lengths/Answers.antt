use Rattle.routes.proofs.Lengths.{given_long, default_long}
use Rattle.routes.proofs.laws.route_lengths.Goals as goal

pub returns-clause-given : goal.returns-clause-given
returns-clause-given c = given_long

pub returns-clause-default : goal.returns-clause-default
returns-clause-default c = default_long
