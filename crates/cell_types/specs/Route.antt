-- The route of a message as a value: its links, or the first fault of its walk.
use Rattle.std.specs.Prelude.{ℕ, List, [], ◌∷◌, ◌++◌, Option, Some, None, Result, Ok, Err, nat_eq, if◌then◌else◌}
use Rattle.std.specs.List.{list_any}
use Rattle.sys_base.specs.Grid.{Extent, neighbour_of, link_id}
use Rattle.sys_base.specs.declared.kinds.Dir.{Dir}
use Rattle.routes.specs.declared.error.RouteError.{RouteError}
use Rattle.routes.specs.declared.error.RouteError.TheVariants as Q
use Rattle.routes.specs.Walks.{directions}
use Rattle.cell_types.specs.declared.error.RouteFault.{RouteFault}
use Rattle.cell_types.specs.declared.error.RouteFault.TheVariants as R

-- the links of a route, or its first fault
abbrev pub Walked : Type 0
Walked = Result (List ℕ) RouteFault

-- one hop over a link to the cell at its end, if there is one, and on from there: where these links are used already,
-- the link must be another one
abbrev pub hop : List ℕ → ℕ → Option ℕ → (ℕ → Walked) → Walked
hop used link None on = Err R.LeavesGrid
hop used link (Some next) on = if list_any (nat_eq link) used then Err (R.LinkTwice link) else on next

-- the walk to a cell that has come to another one over these links, and goes on in these directions
abbrev pub walk_on : Extent → ℕ → List ℕ → ℕ → List Dir → Walked
walk_on g to used cell [] = if nat_eq cell to then Ok used else Err R.WrongEnd
walk_on g to used cell (d ∷ ds) =
    hop used (link_id cell d) (neighbour_of g cell d) (λ next. walk_on g to (used ++ link_id cell d ∷ []) next ds)

-- the route between two cells by the given directions, or the default route where none is given
abbrev pub route_between : Extent → ℕ → ℕ → List Dir → Walked
route_between g from to given = walk_on g to [] from (directions g from to given)

-- a fault of a route as the answer of its walk; want of memory is no fault of it
abbrev pub walked_with : RouteError → Walked
walked_with Q.LeavesGrid = Err R.LeavesGrid
walked_with (Q.LinkTwice link) = Err (R.LinkTwice link)
walked_with Q.WrongEnd = Err R.WrongEnd
walked_with Q.Memory = Ok []
