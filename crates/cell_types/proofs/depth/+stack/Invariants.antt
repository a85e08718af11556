use Rattle.std.proofs.Common.{◌≡◌, max, drop}
use Rattle.cell_types.specs.Depth.{block_stack}
use Rattle.cell_types.specs.Typed.{block_of}
use Rattle.cell_types.proofs.depth.+stack.Given as goal

abbrev pub invariant-block_stack-loop-statement : goal.invariant-block_stack-loop-statement
invariant-block_stack-loop-statement l =
    max l.deepest (block_stack (block_of (drop l.statement-index l.body))) ≡ block_stack (block_of l.body)
