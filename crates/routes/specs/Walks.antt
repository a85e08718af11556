-- The routes of messages.
pub use Rattle.sys_base.specs.Paths.{Walks, Differ, Leads, IsPath}
use Rattle.std.specs.Prelude.{ℕ, ◌-◌, ◌++◌, List, [], ◌∷◌, replicate}
use Rattle.sys_base.specs.declared.kinds.Dir.{Dir}
use Rattle.sys_base.specs.declared.kinds.Dir.TheVariants.{N, E, S, W}
use Rattle.sys_base.specs.Grid.{Extent, row_of, col_of}

-- the directions from one row or column to another: onward, or back, by how far apart they are
abbrev pub straight : Dir → Dir → ℕ → ℕ → List Dir
straight onward back from to = replicate (to - from) onward ++ replicate (from - to) back

-- the directions of the default route between two cells: along the row first, then along the column
abbrev pub default_directions : Extent → ℕ → ℕ → List Dir
default_directions g from to = straight E W (col_of g from) (col_of g to) ++ straight S N (row_of g from) (row_of g to)

-- the directions of a route between two cells: the given ones, or the default ones where none is given
abbrev pub directions : Extent → ℕ → ℕ → List Dir → List Dir
directions g from to [] = default_directions g from to
directions g from to (d ∷ ds) = d ∷ ds

-- The directions walk from a cell over these links, each used once, to that cell.
pub record IsTrail (g : Extent) (from : ℕ) (ds : List Dir) (links : List ℕ) (to : ℕ) : Type 0 where
  pub walk : Walks g from ds links to
  pub differ : Differ links

-- The links are the route between two cells by the given directions, or the default route where none is given.
abbrev pub IsRoute : Extent → ℕ → ℕ → List Dir → List ℕ → Type 0
IsRoute g from to given links = IsTrail g from (directions g from to given) links to
