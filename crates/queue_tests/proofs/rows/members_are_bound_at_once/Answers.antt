use Rattle.std.proofs.Common.{subst, sym}
use Rattle.cell_code.specs.Images.{IsShaped}
use Rattle.queue_tests.proofs.Shaped.{paired_is_shaped}
use Rattle.queue_tests.proofs.rows.members_are_bound_at_once.Goals as goal

pub new-requires-clause-shaped : goal.new-requires-clause-shaped
new-requires-clause-shaped g c = subst IsShaped (sym (rw c.in-Some.is at c.in_ok-image.ensures)) paired_is_shaped
