-- One hop of a walk: where it leads, and the id of its link.
use Rattle.std.proofs.Common.{ℕ, zero, suc, ◌≡◌, ◌+◌, ◌-◌, ◌*◌, ◌/◌, ◌<◌, Some, None, Bool, true, false, cond, refl, ap, ◌∙◌, subst, arith}
use Rattle.std.proofs.lemmas.Nat.{div-mul-add, mod-mul-add, mul-add-lt, div_below, mod_below, div-add-mod'}
use Rattle.std.proofs.lemmas.Bool.{ltb-true}
use Rattle.std.proofs.lemmas.Option.{same_Some, none-some}
use Rattle.sys_base.specs.declared.kinds.Dir.{Dir}
use Rattle.sys_base.specs.declared.kinds.Dir.TheVariants.{N, E, S, W}
use Rattle.sys_base.specs.Grid.{Extent, cell_count, cell_at, row_of, col_of, neighbour_of, dir_number, link_id}

-- a direction has a number below four
pub dir_number_small : (d : Dir) → dir_number d < 4
dir_number_small N = omega arith
dir_number_small E = omega arith
dir_number_small S = omega arith
dir_number_small W = omega arith

-- a link leaves a cell of the grid
pub link_below : (g : Extent) (cell : ℕ) (d : Dir) → cell < cell_count g → link_id cell d < 4 * cell_count g
link_below g cell d lt = let small = dir_number_small d in omega arith

-- the cell that a link leaves
pub cell_of_link : (cell : ℕ) (d : Dir) → link_id cell d / 4 ≡ cell
cell_of_link cell d =
    let e : 4 * cell + dir_number d ≡ cell * 4 + dir_number d = omega arith in
    ap (λ n. n / 4) e ∙ div-mul-add cell 4 (dir_number d) (dir_number_small d)

-- a grid that has a cell has a column
some_cols : (rows cols cell : ℕ) → cell < rows * cols → 0 < cols
some_cols rows zero cell lt = absurd (omega arith)
some_cols rows (suc cols) cell lt = omega arith

-- the row of a cell of the grid is one of its rows
pub row_inside : (g : Extent) (cell : ℕ) → cell < cell_count g → row_of g cell < g.rows
row_inside g cell lt = div_below cell g.cols g.rows (some_cols g.rows g.cols cell lt) lt

-- the column of a cell of the grid is one of its columns
pub col_inside : (g : Extent) (cell : ℕ) → cell < cell_count g → col_of g cell < g.cols
col_inside g cell lt = mod_below cell g.cols (some_cols g.rows g.cols cell lt)

-- a cell stands in its row and its column
pub cell_again : (g : Extent) (cell : ℕ) → cell_at g (row_of g cell) (col_of g cell) ≡ cell
cell_again g cell = div-add-mod' cell g.cols

-- The cell of the grid has this row and this column.
pub record Stands (g : Extent) (cell row col : ℕ) : Type 0 where
  pub in_row : row_of g cell ≡ row
  pub in_col : col_of g cell ≡ col
  pub inside : cell < cell_count g

-- the cell in a row and a column of the grid stands there
pub stands : (g : Extent) (row col : ℕ) → row < g.rows → col < g.cols → Stands g (cell_at g row col) row col
stands g row col r c = record {
  in_row = div-mul-add row g.cols col c;
  in_col = mod-mul-add row g.cols col c;
  inside = omega (arith, mul-add-lt row g.cols col g.rows r c);
}

-- what a test has chosen
record Chosen (b : Bool) (x next : ℕ) : Type 0 where
  yes : b ≡ true
  same : x ≡ next

-- what is chosen is there, and it is the choice
chosen : (b : Bool) (x next : ℕ) → cond b (Some x) None ≡ Some next → Chosen b x next
chosen true x next e = record { yes = refl; same = same_Some _ _ e }
chosen false x next e = absurd (none-some next e)

-- a hop stays in the grid
pub hop_inside : (g : Extent) (cell : ℕ) (d : Dir) (next : ℕ) → cell < cell_count g → neighbour_of g cell d ≡ Some next → next < cell_count g
hop_inside g cell N next lt e =
    let c = chosen _ _ _ e in
    let row = row_inside g cell lt in
    subst (λ n. n < cell_count g) c.same (stands g (row_of g cell - 1) (col_of g cell) (omega arith) (col_inside g cell lt)).inside
hop_inside g cell E next lt e =
    let c = chosen _ _ _ e in
    subst (λ n. n < cell_count g) c.same (stands g (row_of g cell) (col_of g cell + 1) (row_inside g cell lt) (ltb-true _ _ c.yes)).inside
hop_inside g cell S next lt e =
    let c = chosen _ _ _ e in
    subst (λ n. n < cell_count g) c.same (stands g (row_of g cell + 1) (col_of g cell) (ltb-true _ _ c.yes) (col_inside g cell lt)).inside
hop_inside g cell W next lt e =
    let c = chosen _ _ _ e in
    let col = col_inside g cell lt in
    subst (λ n. n < cell_count g) c.same (stands g (row_of g cell) (col_of g cell - 1) (row_inside g cell lt) (omega arith)).inside
