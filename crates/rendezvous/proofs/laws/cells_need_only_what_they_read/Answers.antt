use Rattle.rendezvous.proofs.Saying.{needs_only}
use Rattle.rendezvous.proofs.laws.cells_need_only_what_they_read.Goals as goal

pub returns : goal.returns
returns c = λ program cell input n v w alike reads. needs_only program cell input n v w alike reads
