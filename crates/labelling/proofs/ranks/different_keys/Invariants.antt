use Rattle.std.proofs.Common.{◌≡◌, ◌≤◌, nat_eq, map, length, get_or}
use Rattle.std.specs.List.{filter}
use Rattle.cell_types.specs.Groups.{below}
use Rattle.labelling.specs.bodies.Ranks.{no_key}
use Rattle.labelling.proofs.ranks.different_keys.Given as goal

abbrev pub invariant-loop-message : goal.invariant-loop-message
invariant-loop-message l =
    record {
      few : length l.different.items ≤ l.message;
      found : l.different.items
          ≡ map (λ m. get_or l.keys m no_key) (filter (λ m. nat_eq (get_or l.keys m no_key).least m) (below l.message));
    }
