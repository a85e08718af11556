use Rattle.std.proofs.Common.{◌≡◌, [], ◌∷◌, replicate}
use Rattle.sys_base.specs.Groups.{below}
use Rattle.queue_tests.specs.Arrays.{message}
use Rattle.queue_tests.proofs.images.wide.Given as goal

-- the messages of the first group so far, and their numbers
abbrev pub invariant-loop-message : goal.invariant-loop-message
invariant-loop-message l = (l.messages ≡ replicate l.message (message 0 1 1 0 (1 ∷ []))) × (l.members ≡ below l.message)
