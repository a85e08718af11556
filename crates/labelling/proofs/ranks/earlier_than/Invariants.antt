use Rattle.std.proofs.Common.{◌≡◌, ◌≤◌}
use Rattle.std.specs.List.{count_by}
use Rattle.cell_types.specs.Groups.{below}
use Rattle.labelling.specs.bodies.Sets.{is_before}
use Rattle.labelling.proofs.ranks.earlier_than.Given as goal

abbrev pub invariant-loop-other : goal.invariant-loop-other
invariant-loop-other l = (l.earlier ≡ count_by (λ a. is_before l.sets a l.message) (below l.other)) × (l.earlier ≤ l.other)
