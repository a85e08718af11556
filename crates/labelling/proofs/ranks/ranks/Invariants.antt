use Rattle.std.proofs.Common.{◌≡◌, map, take}
use Rattle.std.specs.List.{count_by}
use Rattle.comm_sequence.specs.Labels.{is_below}
use Rattle.labelling.specs.bodies.Ranks.{key_of}
use Rattle.labelling.proofs.ranks.ranks.Given as goal

abbrev pub invariant-loop-key : goal.invariant-loop-key
invariant-loop-key l =
    l.labels.items ≡ map (λ own. count_by (λ k. is_below (key_of k) (key_of own)) l.different.items) (take l.key-index l.keys)
