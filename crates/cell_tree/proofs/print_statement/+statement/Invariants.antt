use Rattle.std.proofs.Common.{◌≡◌, ◌++◌, take}
use Rattle.std.specs.List.{flat_map}
use Rattle.cell_tree.specs.Pieces.{joined}
use Rattle.cell_tree.specs.Statement.{statement_pieces}
use Rattle.cell_tree.proofs.print_statement.+statement.Given as goal

abbrev pub invariant-write_statements-loop-statement : goal.invariant-write_statements-loop-statement
invariant-write_statements-loop-statement l =
    l.out.items ≡ l.fn.out.items ++ joined (flat_map (λ s. statement_pieces s l.depth) (take l.statement-index l.statements))
