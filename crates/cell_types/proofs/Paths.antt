-- What the laws of paths and routes say, as far as they are used here.
use Rattle.std.specs.Prelude.{ℕ, ◌≡◌, ◌≢◌, ◌+◌, ◌*◌, ◌<◌, List, [], ◌∷◌, length, All}
use Rattle.sys_base.specs.declared.kinds.Dir.{Dir}
use Rattle.sys_base.specs.Grid.{Extent, cell_count}
use Rattle.routes.specs.Walks.{IsPath, IsRoute}

-- A path from a cell of the grid ends at one, it has a link where it leads to another cell, and its links are those of the grid.
-- A route has a link for each direction that is given, and few links where none is.
pub record PathLaws : Type 0 where
  pub inside : (g : Extent) (from to : ℕ) (links : List ℕ) → from < cell_count g → IsPath g from links to → to < cell_count g
  pub some : (g : Extent) (from to : ℕ) (links : List ℕ) → from ≢ to → IsPath g from links to → 0 < length links
  pub each : (g : Extent) (from to : ℕ) (links : List ℕ) → from < cell_count g → IsPath g from links to
      → All (λ link. link < 4 * cell_count g) links
  pub given : (g : Extent) (from to : ℕ) (d : Dir) (ds : List Dir) (links : List ℕ) → IsRoute g from to (d ∷ ds) links
      → length links ≡ length (d ∷ ds)
  pub default : (g : Extent) (from to : ℕ) (links : List ℕ) → from < cell_count g → to < cell_count g
      → IsRoute g from to [] links → length links < g.rows + g.cols
