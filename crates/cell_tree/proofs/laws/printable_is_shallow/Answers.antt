use Rattle.cell_tree.proofs.ShallowSources.{cells_stack, cells_loops}
use Rattle.cell_tree.proofs.laws.printable_is_shallow.Goals as goal

pub returns-clause-stack : goal.returns-clause-stack
returns-clause-stack c = cells_stack

pub returns-clause-loops : goal.returns-clause-loops
returns-clause-loops c = cells_loops
