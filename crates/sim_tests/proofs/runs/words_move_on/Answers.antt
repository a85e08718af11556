use Rattle.std.proofs.Common.{subst, sym}
use Rattle.cell_code.specs.Images.{IsShaped}
use Rattle.sim_tests.proofs.Shaped.{chain_is_shaped}
use Rattle.sim_tests.proofs.runs.words_move_on.Goals as goal

pub new-requires-clause-shaped : goal.new-requires-clause-shaped
new-requires-clause-shaped g c = subst IsShaped (sym (rw c.in-Some.is at c.in_ok-image.ensures)) chain_is_shaped
