-- The cells and links that a static fault names.
use Rattle.std.specs.Prelude.{ℕ, ◌<◌, ◌≤◌, ◌*◌, ◌/◌}
use Rattle.sys_base.specs.declared.limits.TheConstants.{SIDE}
use Rattle.cell_types.specs.declared.error.RouteFault.TheVariants as P
use Rattle.cell_types.specs.declared.error.StaticError.{StaticError}
use Rattle.cell_types.specs.declared.error.StaticError.TheVariants as S
use Rattle.cell_types.specs.declared.error.What.{What}
use Rattle.cell_types.specs.declared.error.What.TheVariants as T

-- A cell of a grid with this many columns has a row and a column below the most that a grid has.
pub record IsNear (cols cell : ℕ) : Type 0 where
  pub some : 1 ≤ cols
  pub most : cols ≤ SIDE
  pub row : cell < SIDE * cols

-- What stands twice is near, where it is a cell or a link.
abbrev pub IsWhatNear : ℕ → What → Type 0
IsWhatNear cols (T.Named name) = Unit {0}
IsWhatNear cols (T.Cell cell) = IsNear cols cell
IsWhatNear cols (T.Link link) = IsNear cols (link / 4)

-- The cells and links that a static fault names have rows and columns that some grid has, where the
-- grid has this many columns.
abbrev pub NamesNear : ℕ → StaticError → Type 0
NamesNear cols (S.Twice what line) = IsWhatNear cols what
NamesNear cols (S.WrongEnd name cell sends line) = IsNear cols cell
NamesNear cols (S.Route name (P.LinkTwice link) line) = IsNear cols (link / 4)
NamesNear cols _ = Unit {0}
