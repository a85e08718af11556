use Rattle.std.proofs.Common.{◌≡◌, ◌++◌, take}
use Rattle.std.specs.List.{flat_map}
use Rattle.cell_tree.specs.Canonical.{var_pieces}
use Rattle.cell_tree.specs.Pieces.{joined}
use Rattle.cell_tree.proofs.print_source.write_vars.Given as goal

abbrev pub invariant-loop-variable : goal.invariant-loop-variable
invariant-loop-variable l = l.out.items ≡ l.fn.out.items ++ joined (flat_map var_pieces (take l.variable-index l.vars))
