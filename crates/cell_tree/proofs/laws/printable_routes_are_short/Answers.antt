use Rattle.cell_tree.proofs.ShallowSources.{routes_short}
use Rattle.cell_tree.proofs.laws.printable_routes_are_short.Goals as goal

pub returns : goal.returns
returns c = routes_short
