-- What can be wrong in the walk of a route.
use Rattle.std.specs.Prelude.{ℕ, ◌≡◌, ◌≢◌, ◌++◌, List, ◌∷◌, None, IsSome, Contains}
use Rattle.sys_base.specs.declared.kinds.Dir.{Dir}
use Rattle.sys_base.specs.Grid.{Extent, neighbour_of, link_id}
use Rattle.routes.specs.declared.error.RouteError.{RouteError}
use Rattle.routes.specs.declared.error.RouteError.TheVariants as R
use Rattle.routes.specs.Walks.{directions, IsTrail}

-- The walk comes to a cell over these links, each used once, and goes on in this direction.
pub record ComesTo (g : Extent) (from : ℕ) (ds : List Dir) (links : List ℕ) (cell : ℕ) (d : Dir) : Type 0 where
  pub before : List Dir
  pub after : List Dir
  pub split : ds ≡ before ++ d ∷ after
  pub trail : IsTrail g from before links cell

-- This is the first fault of the walk of these directions to a cell.
abbrev pub FaultOf : Extent → ℕ → ℕ → List Dir → RouteError → Type 0
FaultOf g from to ds R.LeavesGrid =
    (links : List ℕ) × (cell : ℕ) × (d : Dir) × ComesTo g from ds links cell d × (neighbour_of g cell d ≡ None)
FaultOf g from to ds (R.LinkTwice link) =
    (links : List ℕ) × (cell : ℕ) × (d : Dir) × ComesTo g from ds links cell d
    × IsSome (neighbour_of g cell d) × (link ≡ link_id cell d) × Contains links link
FaultOf g from to ds R.WrongEnd = (links : List ℕ) × (cell : ℕ) × IsTrail g from ds links cell × (cell ≢ to)
FaultOf g from to ds R.Memory = ⊥

-- This is the first fault of the route between two cells by the given directions.
abbrev pub IsFault : Extent → ℕ → ℕ → List Dir → RouteError → Type 0
IsFault g from to given e = FaultOf g from to (directions g from to given) e
