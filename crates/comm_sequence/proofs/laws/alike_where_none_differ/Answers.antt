use Rattle.comm_sequence.proofs.AlikeWhere.{alike_where}
use Rattle.comm_sequence.proofs.laws.alike_where_none_differ.Goals as goal

pub returns : goal.returns
returns c = alike_where
