-- The names of cells and links, as they are printed.
use Rattle.std.specs.Prelude.{ℕ, ◌/◌, ◌%◌, ◌==◌, if◌then◌else◌, List, ◌++◌, codes}
use Rattle.std.specs.Fmt.{decimal}
use Rattle.sys_base.specs.declared.kinds.Dir.{Dir}
use Rattle.sys_base.specs.declared.kinds.Dir.TheVariants.{N, E, S, W}
use Rattle.sys_base.specs.declared.places.CellName.{CellName}
use Rattle.sys_base.specs.declared.places.LinkName.{LinkName}

-- the name of a cell by its index, in a grid with this number of columns
abbrev pub cell_name : ℕ → ℕ → CellName
cell_name cols cell = record { row = cell / cols; col = cell % cols }

-- the direction with a number from 0 to 3
abbrev pub dir_of : ℕ → Dir
dir_of n = if n == 0 then N else (if n == 1 then E else (if n == 2 then S else W))

-- the name of a link by its id, in a grid with this number of columns
abbrev pub link_name : ℕ → ℕ → LinkName
link_name cols link = record { cell = cell_name cols (link / 4); dir = dir_of (link % 4) }

-- the letter of a direction
abbrev pub dir_letter : Dir → List ℕ
dir_letter N = codes "N"
dir_letter E = codes "E"
dir_letter S = codes "S"
dir_letter W = codes "W"

-- the name of a cell: its row and its column
unfoldable pub cell_text : CellName → List ℕ
cell_text name = decimal name.row ++ codes "." ++ decimal name.col

-- the name of a link: that of the cell that it leaves, and the letter of its direction
unfoldable pub link_text : LinkName → List ℕ
link_text name = cell_text name.cell ++ dir_letter name.dir
