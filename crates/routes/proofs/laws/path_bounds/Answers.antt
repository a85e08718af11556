use Rattle.routes.proofs.Counts.{path_some, path_each, path_inside, path_most}
use Rattle.routes.proofs.Outcomes.{route_is_path}
use Rattle.routes.proofs.laws.path_bounds.Goals as goal

pub returns-clause-routes : goal.returns-clause-routes
returns-clause-routes c = route_is_path

pub returns-clause-inside : goal.returns-clause-inside
returns-clause-inside c = path_inside

pub returns-clause-some : goal.returns-clause-some
returns-clause-some c = path_some

pub returns-clause-most : goal.returns-clause-most
returns-clause-most c = path_most

pub returns-clause-each : goal.returns-clause-each
returns-clause-each c = path_each
