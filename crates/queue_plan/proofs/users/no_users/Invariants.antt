use Rattle.std.proofs.Common.{◌≡◌, [], replicate}
use Rattle.queue_plan.proofs.users.no_users.Given as goal

abbrev pub invariant-loop : goal.invariant-loop
invariant-loop l = l.users.items ≡ replicate l.counter []
