use Rattle.std.proofs.Common.{rules, ◌≤◌, length}
use Rattle.sys_base.specs.declared.limits.TheConstants.{SOURCE_BYTES}
use Rattle.accept.proofs.Refused.{fault_read, program_read}
use Rattle.accept.proofs.building.program_in.Goals as goal

pub returns-clause-program : goal.returns-clause-program
returns-clause-program c =
    let short : length c.args.text.now ≤ SOURCE_BYTES = search rules in
    program_read c.laws_below.ensures c.args.text.now short c.in_ok-source.source c.in_ok-source.ensures.source c.resolved.result
    c.resolved.ensures.program

pub returns-clause-refused : goal.returns-clause-refused
returns-clause-refused c =
    let short : length c.args.text.now ≤ SOURCE_BYTES = search rules in
    fault_read c.laws_below.ensures c.args.text.now short c.in_ok-source.source c.in_ok-source.ensures.source c.resolved.result
    c.resolved.ensures.fault
