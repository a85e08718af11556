use Rattle.comm_sequence.proofs.SameLists.{same_test}
use Rattle.comm_sequence.proofs.entry.Entry.is_same.Goals as goal

pub returns : goal.returns
returns c = same_test c.args.self c.args.other c.eq.result c.eq.ensures
