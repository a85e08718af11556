use Rattle.std.proofs.Common.{arith, ap, sum_by, length, sym, ◌+◌, ◌≤◌, subst}
use Rattle.std.proofs.lemmas.List.{take_all}
use Rattle.queue_plan.specs.Grouping.{IsGroups}
use Rattle.queue_plan.proofs.Sizes.{few_groups, few_more}
use Rattle.queue_plan.proofs.groups.Groups.count.Goals as goal

pub overflow_add-count : goal.overflow_add-count
overflow_add-count c =
    let h : c.loop-groups.count + length c.groups-item.result ≤ 524288 =
    few_more c.as_slice-groups-items.result.now c.loop-groups.groups-index c.groups-item.result c.loop-groups.count
    (subst IsGroups (sym c.as_slice-groups-items.ensures) c.self.invariant) c.loop-groups-test.true c.groups-item.is c.loop-groups.invariant in
    omega (arith, h, c.len.ensures)

pub returns-clause-most : goal.returns-clause-most
returns-clause-most c =
    let h = few_groups c.as_slice-groups-items.result.now (subst IsGroups (sym c.as_slice-groups-items.ensures) c.self.invariant) in
    let all = ap (sum_by length) (take_all c.loop-groups.groups-index c.as_slice-groups-items.result.now c.loop-groups-test.false) in
    omega (arith, h, all, c.loop-groups.invariant)
