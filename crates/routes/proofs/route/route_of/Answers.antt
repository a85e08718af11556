use Rattle.std.proofs.Common.{ℕ}
use Rattle.std.specs.Global.{Vec}
use Rattle.std.proofs.lemmas.Result.{IfOk-weaker}
use Rattle.routes.proofs.Counts.{path_some, path_each, path_most}
use Rattle.routes.proofs.Outcomes.{only_route, only_fault, only_memory, route_is_path}
use Rattle.routes.proofs.route.route_of.Goals as goal

pub returns-clause-only : goal.returns-clause-only
returns-clause-only c = only_route (λ v. v.items) c.args.grid.now c.args.from c.args.to c.args.given.now _ c.find_route.ensures.route c.find_route.ensures.fault

pub returns-clause-only_fault : goal.returns-clause-only_fault
returns-clause-only_fault c = only_fault (λ v. v.items) c.args.grid.now c.args.from c.args.to c.args.given.now _ c.find_route.ensures.route c.find_route.ensures.fault

pub returns-clause-default : goal.returns-clause-default
returns-clause-default c = only_memory (λ v. v.items) c.args.grid.now c.args.from c.args.to c.args.given.now _ c.find_route.ensures.fault c.requires.from c.requires.to

pub returns-clause-some : goal.returns-clause-some
returns-clause-some c =
    IfOk-weaker _ _ _ (λ (v : Vec ℕ) r. path_some c.args.grid.now c.args.from c.args.to v.items c.requires.apart (route_is_path c.args.grid.now c.args.from c.args.to c.args.given.now v.items r)) c.find_route.ensures.route

pub returns-clause-most : goal.returns-clause-most
returns-clause-most c =
    IfOk-weaker _ _ _ (λ (v : Vec ℕ) r. path_most c.args.grid.now c.args.from c.args.to v.items c.requires.from (route_is_path c.args.grid.now c.args.from c.args.to c.args.given.now v.items r)) c.find_route.ensures.route

pub returns-clause-each : goal.returns-clause-each
returns-clause-each c =
    IfOk-weaker _ _ _ (λ (v : Vec ℕ) r. path_each c.args.grid.now c.args.from c.args.to v.items c.requires.from (route_is_path c.args.grid.now c.args.from c.args.to c.args.given.now v.items r)) c.find_route.ensures.route
