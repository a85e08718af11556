use Rattle.std.proofs.Common.{◌≡◌, ◌≤◌, ◌++◌, All, drop}
use Rattle.comm_sequence.specs.Parts.{unrolled, loops}
use Rattle.comm_sequence.specs.bodies.Walking.{operations, IsFull}
use Rattle.comm_sequence.proofs.trimming.+trimming.Given as goal

abbrev pub invariant-operations_of-loop-part : goal.invariant-operations_of-loop-part
invariant-operations_of-loop-part l =
    record {
      list : unrolled l.kept.items ++ operations (unrolled (drop l.part-index l.parts)) ≡ operations (unrolled l.parts);
      full : All IsFull l.kept.items;
      room : loops l.kept.items ≤ loops l.parts;
    }
