use Rattle.std.proofs.Common.{◌≡◌, All, map, take}
use Rattle.comm_sequence.specs.Gathered.{all_unrolled}
use Rattle.comm_sequence.specs.Parts.{unrolled}
use Rattle.comm_sequence.specs.bodies.Walking.{operations, AreWalked}
use Rattle.comm_sequence.proofs.gathering.trees_of.Given as goal

abbrev pub invariant-loop-parts : goal.invariant-loop-parts
invariant-loop-parts l =
    record {
      walked : All AreWalked l.trees;
      lists : map unrolled l.trees ≡ map operations (all_unrolled (take l.parts-index l.cells));
    }
