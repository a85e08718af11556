use Rattle.std.proofs.Common.{◌≡◌, ap, sym, ◌∙◌, [], length, arith, below_more, slice_get, slice_index, filter_map}
use Rattle.queue_plan.specs.Lacks.{lack_of, lacks}
use Rattle.queue_plan.proofs.Firsts.{none_of_lists}
use Rattle.queue_plan.proofs.Lacking.{lack_found, lacks_at, no_lack, read_at}
use Rattle.queue_plan.proofs.groups.Groups.lack.Goals as goal

pub returns-then-is_some-clause-lack : goal.returns-then-is_some-clause-lack
returns-then-is_some-clause-lack c =
    let links = c.as_slice-groups-items.result.now in
    let queues = c.args.program.now.queues in
    let link = c.loop-link.link in
    let at = ap (filter_map (lack_of link (slice_index c.queues-queues.result.now link))) c.as_slice.ensures
    ∙ ap (λ qs. filter_map (lack_of link (slice_index qs link)) c.groups-item.result) c.queues-queues.ensures.queues
    ∙ read_at links queues link c.groups-item.result c.loop-link-test.true c.groups-item.is in
    lack_found links queues link c.first_lack-lack.result c.loop-link-test.true c.loop-link.invariant
    (c.first_lack-lack.ensures ∙ ap (λ ys. slice_get ys 0) at) (sym c.is_some.ensures ∙ c.if-is_some.true)
    ∙ ap (λ ls. slice_get (lacks ls queues) 0) (c.as_slice-groups-items.ensures ∙ c.self.view_is)

pub loop-link-preserved : goal.loop-link-preserved
loop-link-preserved c =
    let links = c.as_slice-groups-items.result.now in
    let queues = c.args.program.now.queues in
    let link = c.loop-link.link in
    let at = ap (filter_map (lack_of link (slice_index c.queues-queues.result.now link))) c.as_slice.ensures
    ∙ ap (λ qs. filter_map (lack_of link (slice_index qs link)) c.groups-item.result) c.queues-queues.ensures.queues
    ∙ read_at links queues link c.groups-item.result c.loop-link-test.true c.groups-item.is in
    below_more (λ k. lacks_at links queues k ≡ []) link c.loop-link.invariant
    (no_lack links queues link c.first_lack-lack.result (c.first_lack-lack.ensures ∙ ap (λ ys. slice_get ys 0) at)
    (sym c.is_some.ensures ∙ c.if-is_some.false))

pub returns-clause-lack : goal.returns-clause-lack
returns-clause-lack c =
    let links = c.as_slice-groups-items.result.now in
    let queues = c.args.program.now.queues in
    none_of_lists (lacks_at links queues) (length links) (λ k l. c.loop-link.invariant k (omega arith))
    ∙ ap (λ ls. slice_get (lacks ls queues) 0) (c.as_slice-groups-items.ensures ∙ c.self.view_is)
