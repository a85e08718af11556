use Rattle.std.proofs.Common.{◌≡◌, ◌++◌, take}
use Rattle.std.specs.List.{flat_map}
use Rattle.cell_tree.specs.Canonical.{message_pieces}
use Rattle.cell_tree.specs.Pieces.{joined}
use Rattle.cell_tree.proofs.print_source.write_messages.Given as goal

abbrev pub invariant-loop-message : goal.invariant-loop-message
invariant-loop-message l = l.out.items ≡ l.fn.out.items ++ joined (flat_map message_pieces (take l.message-index l.messages))
