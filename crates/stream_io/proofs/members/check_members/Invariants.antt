use Rattle.stream_io.proofs.Lists.{Checked}
use Rattle.stream_io.proofs.members.check_members.Given as goal

abbrev pub invariant-loop-key : goal.invariant-loop-key
invariant-loop-key l = Checked l.grid l.map.entries l.key-iterator
