use Rattle.std.proofs.Common.{ℕ, ◌+◌, ◌*◌, ◌∙◌, ap, subst, sym, refl, arith}
use Rattle.cell_types.specs.Cost.{IsLimited, action_cost, block_cost}
use Rattle.cell_types.specs.Typed.{action_of, block_of}
use Rattle.cell_types.proofs.CostSteps.{loop_is, branch_is, loop_over}
use Rattle.cell_types.proofs.costs.+cost.Goals as goal

pub act_cost-returns-in_err-statements_cost-in-For : goal.act_cost-returns-in_err-statements_cost-in-For
act_cost-returns-in_err-statements_cost-in-For t c =
    let e = loop_is _ _ _ _ _ c.in-For.is c.as_slice.ensures.value in
    let over = loop_over c.in-For.turns (block_cost (block_of c.as_slice.result.now)) (omega arith) in
    subst (IsLimited (action_cost (action_of c.args.act.now))) (sym c.from_residual-in_err-statements_cost-in-For.ensures)
    (omega (arith, e, over, c.in_err-statements_cost-in-For.ensures))

pub act_cost-returns-in_err-first-in-If : goal.act_cost-returns-in_err-first-in-If
act_cost-returns-in_err-first-in-If t c =
    let e = branch_is _ _ _ _ _ _ c.in-If.is c.as_slice-in-If.ensures.value refl in
    subst (IsLimited (action_cost (action_of c.args.act.now))) (sym c.from_residual-in_err-first-in-If.ensures)
    (omega (arith, e, c.in_err-first-in-If.ensures))

pub act_cost-returns-in_err-statements_cost-in-If : goal.act_cost-returns-in_err-statements_cost-in-If
act_cost-returns-in_err-statements_cost-in-If t c =
    let e = branch_is _ _ _ _ _ _ c.in-If.is c.as_slice-in-If.ensures.value c.as_slice-in-If-2.ensures.value in
    subst (IsLimited (action_cost (action_of c.args.act.now))) (sym c.from_residual-in_err-statements_cost-in-If.ensures)
    (omega (arith, e, c.in_err-statements_cost-in-If.ensures))

pub act_cost-returns-in_ok-statements_cost-in-For : goal.act_cost-returns-in_ok-statements_cost-in-For
act_cost-returns-in_ok-statements_cost-in-For t c =
    let e = loop_is _ _ _ _ _ c.in-For.is c.as_slice.ensures.value in
    let turns = c.in-For.turns in
    let answer = c.loop_cost.result in
    let P : ℕ → Type 0 = λ n. IsLimited n answer in
    subst P (ap (λ b. 1 + turns * (b + 1)) c.in_ok-statements_cost-in-For.ensures.0 ∙ sym e) c.loop_cost.ensures

pub act_cost-returns-in_ok-statements_cost-in-If : goal.act_cost-returns-in_ok-statements_cost-in-If
act_cost-returns-in_ok-statements_cost-in-If t c =
    let e = branch_is _ _ _ _ _ _ c.in-If.is c.as_slice-in-If.ensures.value c.as_slice-in-If-2.ensures.value in
    let answer = c.branch_cost.result in
    let P : ℕ → Type 0 = λ n. IsLimited n answer in
    subst P (omega (arith, e, c.in_ok-test-in-If.ensures.0, c.in_ok-first-in-If.ensures.0, c.in_ok-statements_cost-in-If.ensures.0))
    c.branch_cost.ensures
