use Rattle.std.proofs.Common.{◌≡◌, max, drop}
use Rattle.cell_types.specs.Depth.{block_loops}
use Rattle.cell_types.specs.Typed.{block_of}
use Rattle.cell_types.proofs.depth.+loops.Given as goal

abbrev pub invariant-block_loops-loop-statement : goal.invariant-block_loops-loop-statement
invariant-block_loops-loop-statement l =
    max l.deepest (block_loops (block_of (drop l.statement-index l.body))) ≡ block_loops (block_of l.body)
