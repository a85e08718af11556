use Rattle.std.proofs.Common.{subst, sym}
use Rattle.cell_code.specs.Images.{IsShaped}
use Rattle.sim_tests.proofs.Shaped.{shared_is_shaped}
use Rattle.sim_tests.proofs.runs.messages_share_a_queue.Goals as goal

pub new-requires-clause-shaped : goal.new-requires-clause-shaped
new-requires-clause-shaped g c = subst IsShaped (sym (rw c.in-Some.is at c.in_ok-image.ensures)) shared_is_shaped
