use Rattle.routes.proofs.DefaultRoute.{no_default_fault}
use Rattle.routes.proofs.OneRoute.{one_route, one_route_fault, route_no_fault}
use Rattle.routes.proofs.laws.one_route.Goals as goal

pub returns-clause-routes : goal.returns-clause-routes
returns-clause-routes c = one_route

pub returns-clause-faults : goal.returns-clause-faults
returns-clause-faults c = one_route_fault

pub returns-clause-apart : goal.returns-clause-apart
returns-clause-apart c = route_no_fault

pub returns-clause-default : goal.returns-clause-default
returns-clause-default c = no_default_fault
