use Rattle.std.proofs.Common.{◌≡◌}
use Rattle.queue_tests.proofs.calls.all_answer.Given as goal

-- the image stays
abbrev pub invariant-loop-call : goal.invariant-loop-call
invariant-loop-call l = l.fabric.image ≡ l.image
