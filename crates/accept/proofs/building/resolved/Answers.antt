use Rattle.accept.proofs.ToldFault.{told_first}
use Rattle.accept.proofs.building.resolved.Goals as goal

pub static_refusal-requires : goal.static_refusal-requires
static_refusal-requires c = c.in-Err.ensures.near

pub returns-in_ok-static_refusal-in-Err-clause-fault : goal.returns-in_ok-static_refusal-in-Err-clause-fault
returns-in_ok-static_refusal-in-Err-clause-fault c =
    told_first c.args.source c.in-Err.fault c.in_ok-static_refusal-in-Err.field-0 c.in-Err.ensures.fault
    c.in_ok-static_refusal-in-Err.ensures
