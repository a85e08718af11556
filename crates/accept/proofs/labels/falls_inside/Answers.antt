use Rattle.std.proofs.Common.{subst}
use Rattle.cell_types.specs.Typed.{plain}
use Rattle.comm_sequence.specs.Sequences.{IsSequences}
use Rattle.accept.proofs.FallsInside.{fall_inside}
use Rattle.accept.proofs.labels.falls_inside.Goals as goal

pub returns : goal.returns
returns c = fall_inside (plain c.args.program.now) c.messages.ensures.sound (subst IsSequences c.requires c.messages-2.ensures.kept)
