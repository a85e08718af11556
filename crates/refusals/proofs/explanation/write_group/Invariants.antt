use Rattle.std.proofs.Common.{◌≡◌, ◌++◌, take}
use Rattle.std.specs.Prelude.{codes, string_bytes}
use Rattle.std.specs.List.{flat_map}
use Rattle.refusals.proofs.explanation.write_group.Given as goal

abbrev pub invariant-loop-name : goal.invariant-loop-name
invariant-loop-name l =
    string_bytes l.out
    ≡ string_bytes l.fn.out ++ codes "group" ++ flat_map (λ name. codes " " ++ name) (take l.name-index l.group)
