-- The grid of cells, its directions and its links.
use Rattle.std.specs.Prelude.{ℕ, ◌+◌, ◌-◌, ◌*◌, ◌/◌, ◌%◌, ◌<◌, ◌≤◌, Option, Some, None, nat_lt, if◌then◌else◌}
use Rattle.sys_base.specs.declared.kinds.Dir.{Dir}
use Rattle.sys_base.specs.declared.kinds.Dir.TheVariants.{N, E, S, W}
use Rattle.sys_base.specs.declared.limits.TheConstants.{SIDE}

-- how many rows and columns a grid has
pub record Extent : Type 0 where
  pub rows : ℕ
  pub cols : ℕ

-- There are some rows and columns, and not too many of either.
pub record IsExtent (g : Extent) : Type 0 where
  pub some_rows : 1 ≤ g.rows
  pub most_rows : g.rows ≤ SIDE
  pub some_cols : 1 ≤ g.cols
  pub most_cols : g.cols ≤ SIDE

-- The grid has this row and this column.
pub record IsInside (g : Extent) (row col : ℕ) : Type 0 where
  pub in_rows : row < g.rows
  pub in_cols : col < g.cols

-- how many cells the grid has
abbrev pub cell_count : Extent → ℕ
cell_count g = g.rows * g.cols

-- the index of the cell in a row and a column: cells are numbered along the rows
abbrev pub cell_at : Extent → ℕ → ℕ → ℕ
cell_at g row col = row * g.cols + col

-- the row of a cell
abbrev pub row_of : Extent → ℕ → ℕ
row_of g cell = cell / g.cols

-- the column of a cell
abbrev pub col_of : Extent → ℕ → ℕ
col_of g cell = cell % g.cols

-- the cell next to a cell: north is the row before, east the column after, south the row after, west the column before
abbrev pub neighbour_of : Extent → ℕ → Dir → Option ℕ
neighbour_of g cell N = if nat_lt 0 (row_of g cell) then Some (cell_at g (row_of g cell - 1) (col_of g cell)) else None
neighbour_of g cell E =
    if nat_lt (col_of g cell + 1) g.cols then Some (cell_at g (row_of g cell) (col_of g cell + 1)) else None
neighbour_of g cell S =
    if nat_lt (row_of g cell + 1) g.rows then Some (cell_at g (row_of g cell + 1) (col_of g cell)) else None
neighbour_of g cell W = if nat_lt 0 (col_of g cell) then Some (cell_at g (row_of g cell) (col_of g cell - 1)) else None

-- the number of a direction
abbrev pub dir_number : Dir → ℕ
dir_number N = 0
dir_number E = 1
dir_number S = 2
dir_number W = 3

-- the id of the link that leaves a cell in a direction
abbrev pub link_id : ℕ → Dir → ℕ
link_id cell dir = 4 * cell + dir_number dir
