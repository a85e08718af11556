use Rattle.std.proofs.Common.{◌≡◌, map, length}
use Rattle.cell_types.specs.Groups.{below}
use Rattle.comm_sequence.specs.Labels.{key}
use Rattle.labelling.specs.bodies.Ranks.{key_of}
use Rattle.labelling.specs.bodies.Sets.{is_before}
use Rattle.labelling.proofs.ranks.keys_of.Given as goal

abbrev pub invariant-loop-message : goal.invariant-loop-message
invariant-loop-message l =
    record {
      size : length l.keys.items ≡ l.message;
      keys : map key_of l.keys.items ≡ map (key (is_before l.sets) (length l.sets)) (below l.message);
    }
