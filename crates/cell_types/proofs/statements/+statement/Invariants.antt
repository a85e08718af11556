use Rattle.std.proofs.Common.{◌≡◌, length}
use Rattle.std.specs.Vec.Iter.{into_iter_items, into_iter_len}
use Rattle.cell_types.specs.bodies.Scopes.{scope_in}
use Rattle.cell_types.proofs.StatementSteps.{BlockSoFar}
use Rattle.cell_types.proofs.statements.+statement.Given as goal

abbrev pub invariant-resolve_block-loop-statement : goal.invariant-resolve_block-loop-statement
invariant-resolve_block-loop-statement l =
    BlockSoFar (scope_in l.fn.scope) l.fn.body (into_iter_items l.statement-iterator) (scope_in l.scope) l.typed.items
    × (into_iter_len l.statement-iterator ≡ length (into_iter_items l.statement-iterator))
