-- How many links routes have.
use Rattle.std.proofs.Common.{ℕ, ◌≡◌, ◌+◌, ◌-◌, ◌<◌, List, [], ◌∷◌, length, replicate, refl, arith, length-append}
use Rattle.std.proofs.lemmas.List.{length-replicate}
use Rattle.sys_base.specs.declared.kinds.Dir.{Dir}
use Rattle.sys_base.specs.declared.kinds.Dir.TheVariants.{N, E, S, W}
use Rattle.sys_base.specs.Grid.{Extent, cell_count, row_of, col_of}
use Rattle.routes.specs.Walks.{straight, default_directions, Walks, IsRoute}
use Rattle.routes.proofs.Hops.{row_inside, col_inside}

-- a walk goes over a link for each direction
walk_long : (g : Extent) (from to : ℕ) (ds : List Dir) (links : List ℕ) → Walks g from ds links to → length links ≡ length ds
walk_long g from to [] [] w = refl
walk_long g from to [] (l ∷ ls) w = absurd w
walk_long g from to (d ∷ ds) [] w = absurd w
walk_long g from to (d ∷ ds) (l ∷ ls) w = omega (arith, walk_long g w.1 to ds ls w.3)

-- a route by given directions has a link for each
pub given_long : (g : Extent) (from to : ℕ) (d : Dir) (ds : List Dir) (links : List ℕ) → IsRoute g from to (d ∷ ds) links
    → length links ≡ length (d ∷ ds)
given_long g from to d ds links r = walk_long g from to (d ∷ ds) links r.walk

-- how many directions lead from one row or column to another
straight_long : (on back : Dir) (a b : ℕ) → length (straight on back a b) ≡ (b - a) + (a - b)
straight_long on back a b =
    omega (arith, length-append (replicate (b - a) on) (replicate (a - b) back), length-replicate (b - a) on, length-replicate (a - b) back)

-- a default route has fewer links than the grid has rows and columns
pub default_long : (g : Extent) (from to : ℕ) (links : List ℕ) → from < cell_count g → to < cell_count g → IsRoute g from to [] links
    → length links < g.rows + g.cols
default_long g from to links f t r =
    let along = straight_long E W (col_of g from) (col_of g to) in
    let down = straight_long S N (row_of g from) (row_of g to) in
    let both = length-append (straight E W (col_of g from) (col_of g to)) (straight S N (row_of g from) (row_of g to)) in
    omega (
      arith,
      walk_long g from to (default_directions g from to) links r.walk,
      both,
      along,
      down,
      row_inside g from f,
      row_inside g to t,
      col_inside g from f,
      col_inside g to t,
    )
