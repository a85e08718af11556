use Rattle.std.proofs.Common.{◌≡◌, ◌++◌, take}
use Rattle.object_io.specs.Objects.{behind_commas}
use Rattle.object_io.proofs.write_parts.write_others.Given as goal

abbrev pub invariant-loop-member : goal.invariant-loop-member
invariant-loop-member l = l.out.items ≡ l.fn.out.items ++ behind_commas (take l.member-index l.members)
