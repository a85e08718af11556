use Rattle.std.proofs.Common.{◌≡◌, ◌⊎◌, ◌∙◌, subst}
use Rattle.routes.specs.declared.error.RouteError.TheVariants as Q
use Rattle.routes.specs.Faults.{IsFault}
use Rattle.routes.specs.Walks.{IsRoute}
use Rattle.cell_types.proofs.MessageSteps.{route_there, route_not_there}
use Rattle.cell_types.proofs.messages.ways.resolve_route.Goals as goal

pub returns-in-Ok : goal.returns-in-Ok
returns-in-Ok c =
    let there = route_there c.args.grid.now c.args.ends.from c.args.ends.to c.args.message.now.route c.args.message.now.name c.args.message.now.line
    c.in-Ok.links.items (subst (λ ds. IsRoute c.args.grid.now c.args.ends.from c.args.ends.to ds c.in-Ok.links.items) c.as_slice.ensures c.in-Ok.ensures.route) in
    (there.0, c.from_vec.ensures ∙ there.1)

pub returns-in-Err : goal.returns-in-Err
returns-in-Err c =
    route_not_there c.args.grid.now c.args.ends.from c.args.ends.to c.args.message.now.route c.args.message.now.name c.args.message.now.line
    c.in-Err.error c.route_fault.result
    (subst (λ ds. IsFault c.args.grid.now c.args.ends.from c.args.ends.to ds c.in-Err.error ⊎ (c.in-Err.error ≡ Q.Memory)) c.as_slice.ensures
    c.in-Err.ensures.fault) c.route_fault.ensures
