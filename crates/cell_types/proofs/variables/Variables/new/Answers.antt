use Rattle.std.proofs.Common.{◌≡◌, ◌+◌, ◌++◌, ◌∷◌, [], cond, true, sym, subst, ap, ◌∙◌, arith}
use Rattle.cell_types.specs.Faults.{IsFirst}
use Rattle.cell_types.specs.bodies.Scopes.{variables_faults, names_in}
use Rattle.cell_types.specs.bodies.Tables.{named_in}
use Rattle.cell_types.proofs.VariableSteps.{VariablesSoFar, named_twice, twice_by_message, twice_by_variable, named_once, stop_twice, stop_full, stop_large, variables_more}
use Rattle.cell_types.proofs.variables.Variables.new.Goals as goal
use Rattle.cell_types.proofs.variables.Variables.new.Goals.{then-is_some-via-then-is_some, then-is_some-via-else-is_some+in_ok-add+then-not-branch}

pub returns-then-is_some-clause-variables : goal.returns-then-is_some-clause-variables
returns-then-is_some-clause-variables c =
    let so = c.loop-variable.invariant in
    let twice : named_twice (named_in c.args.messages.now) c.args.declared.now c.loop-variable.variable-index _ _ _ so
    c.variable-item.result c.loop-variable-test.true c.variable-item.is ≡ true =
    elim c.then-is_some.branch [
      | then-is_some-via-then-is_some w ↦
          twice_by_message (named_in c.args.messages.now) c.args.declared.now c.loop-variable.variable-index _ _ _ so
          c.variable-item.result c.loop-variable-test.true c.variable-item.is
          c.find.result c.find.ensures.index (sym c.is_some.ensures ∙ w.if-is_some.true)
      | then-is_some-via-else-is_some+in_ok-add+then-not-branch w ↦
          twice_by_variable (named_in c.args.messages.now) c.args.declared.now c.loop-variable.variable-index _ _ _ so
          c.variable-item.result c.loop-variable-test.true c.variable-item.is
          _ w.in_ok-add.ensures.new w.if-not-branch.true
    ] in
    subst (IsFirst (variables_faults (named_in c.args.messages.now) c.args.declared.now)) (sym c.in_ok-twice.ensures)
    (stop_twice (named_in c.args.messages.now) c.args.declared.now c.loop-variable.variable-index _ _ _ so
    c.variable-item.result c.loop-variable-test.true c.variable-item.is twice)

pub returns-then-len-ge-VARIABLES-clause-variables : goal.returns-then-len-ge-VARIABLES-clause-variables
returns-then-len-ge-VARIABLES-clause-variables c =
    let so = c.loop-variable.invariant in
    stop_full (named_in c.args.messages.now) c.args.declared.now c.loop-variable.variable-index _ _ _ so
    c.variable-item.result c.loop-variable-test.true c.variable-item.is
    (named_once (named_in c.args.messages.now) c.args.declared.now c.loop-variable.variable-index _ _ _ so
    c.variable-item.result c.loop-variable-test.true c.variable-item.is
    c.find.result c.find.ensures.index (sym c.is_some.ensures ∙ c.if-is_some.false) _ c.in_ok-add.ensures.new c.if-not-branch.false)
    (omega (arith, c.len.ensures, c.if-len-ge-VARIABLES.true))

pub returns-in_default-clause-variables : goal.returns-in_default-clause-variables
returns-in_default-clause-variables c =
    let so = c.loop-variable.invariant in
    stop_large (named_in c.args.messages.now) c.args.declared.now c.loop-variable.variable-index _ _ _ so
    c.variable-item.result c.loop-variable-test.true c.variable-item.is
    (named_once (named_in c.args.messages.now) c.args.declared.now c.loop-variable.variable-index _ _ _ so
    c.variable-item.result c.loop-variable-test.true c.variable-item.is
    c.find.result c.find.ensures.index (sym c.is_some.ensures ∙ c.if-is_some.false) _ c.in_ok-add.ensures.new c.if-not-branch.false)
    (omega (arith, c.len.ensures, c.if-len-ge-VARIABLES.false)) c.in_default.ensures.end

pub loop-variable-preserved : goal.loop-variable-preserved
loop-variable-preserved c =
    let so = c.loop-variable.invariant in
    let named : names_in c.add.new.self ≡ names_in c.loop-variable.names ++ c.variable-item.result.name ∷ [] =
    c.in_ok-add.ensures.names ∙ ap (λ b. cond b (names_in c.loop-variable.names ++ c.variable-item.result.name ∷ []) (names_in c.loop-variable.names)) c.if-not-branch.false in
    subst (λ ns. VariablesSoFar (named_in c.args.messages.now) c.args.declared.now (c.loop-variable.variable-index + 1) ns c.push.new.self.items c.in-Some.end) (sym named)
    (subst (λ ss. VariablesSoFar (named_in c.args.messages.now) c.args.declared.now (c.loop-variable.variable-index + 1)
    (names_in c.loop-variable.names ++ c.variable-item.result.name ∷ []) ss c.in-Some.end) (sym c.in_ok-push.ensures.items)
    (variables_more (named_in c.args.messages.now) c.args.declared.now c.loop-variable.variable-index _ _ _ so
    c.variable-item.result c.loop-variable-test.true c.variable-item.is
    (named_once (named_in c.args.messages.now) c.args.declared.now c.loop-variable.variable-index _ _ _ so
    c.variable-item.result c.loop-variable-test.true c.variable-item.is
    c.find.result c.find.ensures.index (sym c.is_some.ensures ∙ c.if-is_some.false) _ c.in_ok-add.ensures.new c.if-not-branch.false)
    (omega (arith, c.len.ensures, c.if-len-ge-VARIABLES.false)) c.slot_at.result c.in-Some.end c.slot_at.ensures c.in-Some.ensures.end.1 c.in-Some.ensures.end.0))
