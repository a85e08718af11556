use Rattle.std.proofs.Common.{length, ap, arith}
use Rattle.cell_types.specs.Names.{Scope}
use Rattle.cell_types.specs.bodies.Scopes.{scope_in}
use Rattle.cell_types.proofs.WrittenTrees.{block_keeps}
use Rattle.cell_types.proofs.declared_cells.resolve_cell.Goals as goal

pub resolve_body-requires-clause-stack : goal.resolve_body-requires-clause-stack
resolve_body-requires-clause-stack c =
    let s : Scope = scope_in c.new-scope.result in
    omega (arith, (block_keeps c.args.cell.body).in_stack s, c.requires.stack)

pub resolve_body-requires-clause-loops : goal.resolve_body-requires-clause-loops
resolve_body-requires-clause-loops c =
    let s : Scope = scope_in c.new-scope.result in
    let none = ap (λ (z : Scope). length z.counters) c.new-scope.ensures in
    omega (arith, none, (block_keeps c.args.cell.body).in_loops s, c.requires.loops)
