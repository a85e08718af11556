use Rattle.std.proofs.Common.{◌≡◌, ◌++◌, take}
use Rattle.std.specs.Prelude.{map}
use Rattle.object_io.specs.Objects.{spaced, group_text}
use Rattle.object_io.proofs.write_parts.write_groups.Given as goal

abbrev pub invariant-loop-group : goal.invariant-loop-group
invariant-loop-group l = l.out.items ≡ l.fn.out.items ++ spaced (map group_text (take l.group-index l.groups))
