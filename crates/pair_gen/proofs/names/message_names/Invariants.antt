use Rattle.std.proofs.Common.{◌≡◌, map}
use Rattle.sys_base.specs.Groups.{below}
use Rattle.pair_gen.specs.Generated.{message_name}
use Rattle.pair_gen.proofs.names.message_names.Given as goal

abbrev pub invariant-loop-message : goal.invariant-loop-message
invariant-loop-message l = l.names ≡ map message_name (below l.message-counter)
