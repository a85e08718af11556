use Rattle.std.proofs.Common.{ℕ, ◌*◌, ◌<◌, List, length, slice_index, All, sym, ◌∙◌, ap, subst}
use Rattle.std.proofs.lemmas.List.Elements.{All-filter}
use Rattle.std.proofs.lemmas.List.FromFn.{length-map-range_with_len}
use Rattle.std.proofs.lemmas.List.Kept.{IsNonDecreasingBy-filter}
use Rattle.std.specs.List.Sorted.{IsNonDecreasingBy}
use Rattle.sys_base.specs.Grid.{cell_count}
use Rattle.cell_types.specs.Groups.{groups, routes_of}
use Rattle.cell_types.specs.Typed.{plain}
use Rattle.queue_plan.specs.Grouping.{IsGroups}
use Rattle.queue_plan.proofs.SoundGroups.{sound_groups}
use Rattle.queue_plan.proofs.Whole.{each_noted, links_are, noted, order_within}
use Rattle.queue_plan.proofs.grouping.group.Goals as goal

pub users_of-requires-clause-order : goal.users_of-requires-clause-order
users_of-requires-clause-order c =
    subst (All (λ m. m < length c.args.program.now.messages)) (sym c.deref.ensures.value)
    (subst (λ n. All (λ m. m < n) c.in_ok-order.order.items) c.requires.labels
    (order_within c.args.labels.now c.in_ok-order.order.items c.in_ok-order.ensures))

pub groups_of-requires-clause-known : goal.groups_of-requires-clause-known
groups_of-requires-clause-known c =
    let labels = c.args.labels.now in
    let order = c.in_ok-order.order.items in
    let known : ℕ → Type 0 = λ m. m < length labels in
    let P : List ℕ → Type 0 = λ ms. All known ms in
    subst P (sym (c.as_slice.ensures ∙ c.messages-item.is))
    (each_noted P (plain c.args.program.now) c.args.lengths.now c.deref.result.now c.deref-messages-items.result.now
    (c.deref-messages-items.ensures.value ∙ c.in_ok-users.ensures)
    (λ taken. All-filter taken known c.deref.result.now
    (subst P (sym c.deref.ensures.value) (order_within labels order c.in_ok-order.ensures)))
    c.loop-messages.messages-index c.messages-item.result c.loop-messages-test.true)

pub groups_of-requires-clause-rising : goal.groups_of-requires-clause-rising
groups_of-requires-clause-rising c =
    let label = slice_index c.args.labels.now in
    let P : List ℕ → Type 0 = λ ms. IsNonDecreasingBy label ms in
    subst P (sym (c.as_slice.ensures ∙ c.messages-item.is))
    (each_noted P (plain c.args.program.now) c.args.lengths.now c.deref.result.now c.deref-messages-items.result.now
    (c.deref-messages-items.ensures.value ∙ c.in_ok-users.ensures)
    (λ taken. IsNonDecreasingBy-filter label taken c.deref.result.now
    (subst P (sym c.deref.ensures.value) c.in_ok-order.ensures.rising))
    c.loop-messages.messages-index c.messages-item.result c.loop-messages-test.true)

pub new-requires : goal.new-requires
new-requires c =
    let p = plain c.args.program.now in
    let labels = c.args.labels.now in
    let lengths = c.args.lengths.now in
    let order = c.in_ok-order.order.items in
    subst IsGroups
    (sym (links_are p labels lengths order c.deref-messages-items.result.now c.loop-messages.links c.loop-messages.messages-index
    c.loop-messages.invariant c.loop-messages-test.false
    (c.deref-messages-items.ensures.value ∙ c.in_ok-users.ensures ∙ ap (noted p lengths) c.deref.ensures.value)
    c.in_ok-order.ensures c.requires.labels))
    (sound_groups p labels lengths c.messages.ensures.sound)

pub returns-clause-groups : goal.returns-clause-groups
returns-clause-groups c =
    let p = plain c.args.program.now in
    let labels = c.args.labels.now in
    let lengths = c.args.lengths.now in
    let order = c.in_ok-order.order.items in
    c.new.ensures
    ∙ links_are p labels lengths order c.deref-messages-items.result.now c.loop-messages.links c.loop-messages.messages-index
    c.loop-messages.invariant c.loop-messages-test.false
    (c.deref-messages-items.ensures.value ∙ c.in_ok-users.ensures ∙ ap (noted p lengths) c.deref.ensures.value)
    c.in_ok-order.ensures c.requires.labels

pub returns-clause-links : goal.returns-clause-links
returns-clause-links c =
    let p = plain c.args.program.now in
    let labels = c.args.labels.now in
    let lengths = c.args.lengths.now in
    ap length (returns-clause-groups c) ∙ length-map-range_with_len (groups (routes_of p) labels lengths) 0 (4 * cell_count p.grid)
    ∙ sym c.messages.ensures.sound.links
