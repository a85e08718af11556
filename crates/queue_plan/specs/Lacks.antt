-- The groups that a link's queues do not hold.
use Rattle.std.specs.Prelude.{ℕ, List, Option, Some, None, nat_lt, if◌then◌else◌, length, flat_map, filter_map, slice_index}
use Rattle.cell_types.specs.Groups.{below}
use Rattle.queue_plan.specs.Grouping.{groups_at}
use Rattle.queue_plan.specs.declared.lack.Lack.{Lack}

-- what a link lacks for a group that has more members than the link has queues
abbrev pub lack_of : ℕ → ℕ → ℕ × List ℕ → Option Lack
lack_of link queues group =
    if nat_lt queues (length group.1)
    then Some (record { link = link; label = group.0; need = length group.1; has = queues }) else None

-- what all links lack for all their groups, by link and then by label, where these are the queues of the links
abbrev pub lacks : List (List (ℕ × List ℕ)) → List ℕ → List Lack
lacks links queues =
    flat_map (λ link. filter_map (lack_of link (slice_index queues link)) (groups_at links link))
    (below (length links))
