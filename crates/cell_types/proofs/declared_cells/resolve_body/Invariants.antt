use Rattle.std.proofs.Common.{◌≡◌, length}
use Rattle.std.specs.Vec.Iter.{into_iter_items, into_iter_len}
use Rattle.cell_types.specs.Cost.{IsLimited, block_cost}
use Rattle.cell_types.specs.Depth.{block_loops, block_stack}
use Rattle.cell_types.specs.bodies.Scopes.{scope_in}
use Rattle.cell_types.specs.Typed.{block_of}
use Rattle.cell_types.proofs.StatementSteps.{BlockSoFar}
use Rattle.cell_types.proofs.declared_cells.resolve_body.Given as goal

abbrev pub invariant-loop-statement : goal.invariant-loop-statement
invariant-loop-statement l =
    BlockSoFar (scope_in l.fn.scope) l.fn.body (into_iter_items l.statement-iterator) (scope_in l.scope) l.statements.items
    × (into_iter_len l.statement-iterator ≡ length (into_iter_items l.statement-iterator))
    × (l.stack ≡ block_stack (block_of l.statements.items))
    × (l.counters ≡ block_loops (block_of l.statements.items))
    × IsLimited (block_cost (block_of l.statements.items)) l.cost
