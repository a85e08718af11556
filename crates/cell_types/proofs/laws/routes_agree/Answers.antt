use Rattle.cell_types.proofs.RouteFound.{route_found, fault_found}
use Rattle.cell_types.proofs.SoundRoutes.{route_kept}
use Rattle.cell_types.proofs.laws.routes_agree.Goals as goal

pub returns-clause-routes : goal.returns-clause-routes
returns-clause-routes c = λ g from to given links. (route_found g from to given links, route_kept g from to given links)

pub returns-clause-faults : goal.returns-clause-faults
returns-clause-faults c = fault_found
