use Rattle.std.proofs.Common.{◌≡◌, map}
use Rattle.sys_base.specs.Groups.{below}
use Rattle.pair_gen.specs.Generated.{message_decl}
use Rattle.pair_gen.proofs.messages.message_declarations.Given as goal

abbrev pub invariant-loop-message : goal.invariant-loop-message
invariant-loop-message l = l.messages ≡ map message_decl (below l.message)
