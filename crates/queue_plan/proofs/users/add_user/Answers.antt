use Rattle.std.proofs.Common.{◌≡◌, ◌<◌, [], length, get_or, set, ap, ap₂, ◌∙◌, arith}
use Rattle.queue_plan.proofs.UserSteps.{one_link}
use Rattle.queue_plan.proofs.users.add_user.Goals as goal

pub loop-link-preserved : goal.loop-link-preserved
loop-link-preserved c = λ k l.
    let route = c.args.route.now in
    let i = c.loop-link.link-index in
    let link = get_or route i 0 in
    let users = c.loop-link.users in
    let found = c.index-users-from.result in
    let messages = get_or users c.from.result found in
    let at : c.from.result ≡ link = c.from.ensures in
    let bound : link < length users = omega (arith, c.requires.links i 0 c.loop-link-test.true) in
    ap₂ (λ j ms. get_or (set users j ms) k []) at c.in_ok-push.ensures.ok
    ∙ one_link c.args.users.now users route i c.args.message messages found c.loop-link-test.true c.requires.differ (omega arith) bound
    (ap (λ j. get_or users j found) at) c.loop-link.invariant k l
