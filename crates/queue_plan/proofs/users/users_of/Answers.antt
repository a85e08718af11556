use Rattle.std.proofs.Common.{rules, ◌≡◌, ℕ, ◌<◌, ◌++◌, [], length, get_or, filter, sym, ◌∙◌, ap, subst, refl, arith, ◌*◌, ◌≤◌}
use Rattle.std.proofs.lemmas.List.{places, take_all, with_items_is}
use Rattle.std.proofs.lemmas.List.FromFn.{fill_by_all}
use Rattle.sys_base.specs.Grid.{cell_count}
use Rattle.cell_types.specs.Groups.{route}
use Rattle.cell_types.specs.Typed.{plain}
use Rattle.queue_plan.specs.bodies.ByLabel.{uses}
use Rattle.queue_plan.proofs.Noted.{route_read, unused, used}
use Rattle.queue_plan.proofs.UserSteps.{one_if}
use Rattle.queue_plan.proofs.users.users_of.Goals as goal
use Rattle.queue_plan.proofs.users.users_of.Goals.{then-length-gt0+in_ok-add_user, else-length-gt0}

pub loop-message-preserved : goal.loop-message-preserved
loop-message-preserved c =
    let p = plain c.args.program.now in
    let lengths = c.args.lengths.now in
    let order = c.args.order.now in
    let i = c.loop-message.message-index in
    let message = get_or order i 0 in
    let at : c.from-index.result ≡ message = c.from-index.ensures in
    elim c.if-length-gt0.branch [
      | then-length-gt0+in_ok-add_user w ↦
          let index = c.from-index.result in
          let within : index < length c.messages-messages.result.now =
          omega (arith, c.requires.order i 0 c.loop-message-test.true, ap length c.messages-messages.ensures.messages) in
          let links = ap (route p) (sym at)
          ∙ route_read p c.messages-messages.result.now index w.index-messages-index.result c.messages-messages.ensures.messages within
          ∙ sym w.as_slice.ensures in
          let long = ap length w.deref_mut.ensures.value in
          let now : c.if-length-gt0.users.items ≡ w.add_user.new.users =
          ap (λ us. us.items) w.users-is ∙ with_items_is c.loop-message.users w.add_user.new.users (search (rules, places)) in
          record {
            long = omega (arith, ap length now, long, c.loop-message.invariant.long);
            each = λ k l.
                ap (λ us. get_or us k []) now
                ∙ w.in_ok-add_user.ensures k (omega (arith, long, c.loop-message.invariant.long))
                ∙ ap (λ us. get_or us k [] ++ one_if w.as_slice.result.now message k) w.deref_mut.ensures.value
                ∙ ap (λ us. us ++ one_if w.as_slice.result.now message k) (c.loop-message.invariant.each k l)
                ∙ used p lengths order i message k w.as_slice.result.now c.loop-message-test.true refl
                (subst (λ k. 0 < get_or lengths k 0) at w.if-length-gt0.true) links;
          }
      | else-length-gt0 w ↦ record {
        long = ap (λ us. length us.items) w.users-is ∙ c.loop-message.invariant.long;
        each = λ k l.
            ap (λ us. get_or us.items k []) w.users-is ∙ c.loop-message.invariant.each k l
            ∙ unused p lengths order i message k c.loop-message-test.true refl
            (subst (λ k. get_or lengths k 0 ≤ 0) at w.if-length-gt0.false);
      }
    ]

pub returns : goal.returns
returns c =
    let p = plain c.args.program.now in
    let f = λ (link : ℕ). filter (uses p c.args.lengths.now link) c.args.order.now in
    fill_by_all f c.loop-message.users.items (4 * cell_count c.args.program.now.grid) [] c.loop-message.invariant.long
    (λ k l. c.loop-message.invariant.each k l
    ∙ ap (filter (uses p c.args.lengths.now k)) (take_all c.loop-message.message-index c.args.order.now c.loop-message-test.false))
