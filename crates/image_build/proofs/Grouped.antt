-- The links that have a group, one after another.
use Rattle.std.proofs.Common.{ℕ, List, length, nat_lt, filter, map}
use Rattle.cell_types.specs.Groups.{below}
use Rattle.queue_plan.specs.Grouping.{groups_at}

-- the links below this id that have a group, with their groups
abbrev pub grouped_before : List (List (ℕ × List ℕ)) → ℕ → List (ℕ × List (ℕ × List ℕ))
grouped_before links n =
    filter (λ link. nat_lt 0 (length link.1)) (map (λ link. (link, groups_at links link)) (below n))
