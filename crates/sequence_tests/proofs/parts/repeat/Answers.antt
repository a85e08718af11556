use Rattle.sequence_tests.proofs.Loops.{repeat_loops, repeat_unrolled}
use Rattle.sequence_tests.proofs.parts.repeat.Goals as goal

pub returns-clause-list : goal.returns-clause-list
returns-clause-list c = repeat_unrolled c.args.turns c.args.parts

pub returns-clause-deep : goal.returns-clause-deep
returns-clause-deep c = repeat_loops c.args.turns c.args.parts
