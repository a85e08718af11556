use Rattle.std.proofs.Common.{◌<◌, length, sym, subst, arith}
use Rattle.cell_types.specs.bodies.Declarations.{naming_faults}
use Rattle.cell_types.specs.Faults.{IsFirst}
use Rattle.cell_types.specs.bodies.Scopes.{names_in}
use Rattle.cell_types.proofs.MessageSteps.{named_twice, named_once, added_since}
use Rattle.cell_types.proofs.messages.add_name.Goals as goal

pub returns-then-not-branch-clause-names : goal.returns-then-not-branch-clause-names
returns-then-not-branch-clause-names c =
    let names = names_in c.args.names.now in
    let few : length names < 512 = omega (arith, c.len.ensures) in
    subst (IsFirst (naming_faults names c.args.message.now)) (sym c.in_ok-twice.ensures)
    (named_twice names c.args.message.now few c.in_ok-add.field-0 c.in_ok-add.ensures.new c.if-not-branch.true)

pub returns-clause-names : goal.returns-clause-names
returns-clause-names c =
    let names = names_in c.args.names.now in
    let few : length names < 512 = omega (arith, c.len.ensures) in (
      named_once names c.args.message.now few c.in_ok-add.field-0 c.in_ok-add.ensures.new c.if-not-branch.false,
      added_since c.in_ok-add.field-0 _ _ _ c.in_ok-add.ensures.names c.if-not-branch.false,
    )
