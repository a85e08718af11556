-- The routes of a shaped image: each has a link, and leads over links of the grid.
use Rattle.std.proofs.Common.{◌≡◌, ◌≢◌, ℕ, zero, suc, ◌+◌, ◌-◌, ◌*◌, ◌<◌, List, [], ◌∷◌, Some, length, get_or, subst, arith, ltb-true}
use Rattle.std.proofs.lemmas.Nat.{div_below, mod_below, mul-add-lt}
use Rattle.std.proofs.lemmas.Option.{cond_some}
use Rattle.sys_base.specs.Grid.{Extent, cell_at, cell_count, col_of, dir_number, neighbour_of, row_of}
use Rattle.sys_base.specs.Paths.{Walks}
use Rattle.sys_base.specs.declared.kinds.Dir.{Dir}
use Rattle.sys_base.specs.declared.kinds.Dir.TheVariants.{N, E, S, W}

small : (d : Dir) → dir_number d < 4
small N = omega arith
small E = omega arith
small S = omega arith
small W = omega arith

some_cols : (rows cols cell : ℕ) → cell < rows * cols → 0 < cols
some_cols rows zero cell l = absurd (omega arith)
some_cols rows (suc cols) cell l = omega arith

place_inside : (g : Extent) (row col : ℕ) → row < g.rows → col < g.cols → cell_at g row col < cell_count g
place_inside g row col r c = omega (arith, mul-add-lt row g.cols col g.rows r c)

row_inside : (g : Extent) (cell : ℕ) → cell < cell_count g → row_of g cell < g.rows
row_inside g cell l = div_below cell g.cols g.rows (some_cols g.rows g.cols cell l) l

col_inside : (g : Extent) (cell : ℕ) → cell < cell_count g → col_of g cell < g.cols
col_inside g cell l = mod_below cell g.cols (some_cols g.rows g.cols cell l)

neighbour_inside : (g : Extent) (cell : ℕ) (d : Dir) (next : ℕ) → cell < cell_count g → neighbour_of g cell d ≡ Some next
    → next < cell_count g
neighbour_inside g cell N next l e =
    let row = row_inside g cell l in
    subst (λ n. n < cell_count g) (cond_some _ _ _ e).1
    (place_inside g (row_of g cell - 1) (col_of g cell) (omega arith) (col_inside g cell l))
neighbour_inside g cell E next l e =
    subst (λ n. n < cell_count g) (cond_some _ _ _ e).1
    (place_inside g (row_of g cell) (col_of g cell + 1) (row_inside g cell l) (ltb-true _ _ (cond_some _ _ _ e).0))
neighbour_inside g cell S next l e =
    subst (λ n. n < cell_count g) (cond_some _ _ _ e).1
    (place_inside g (row_of g cell + 1) (col_of g cell) (ltb-true _ _ (cond_some _ _ _ e).0) (col_inside g cell l))
neighbour_inside g cell W next l e =
    let col = col_inside g cell l in
    subst (λ n. n < cell_count g) (cond_some _ _ _ e).1
    (place_inside g (row_of g cell) (col_of g cell - 1) (row_inside g cell l) (omega arith))

pub links_inside : (g : Extent) (from : ℕ) (ds : List Dir) (links : List ℕ) (to i : ℕ) → Walks g from ds links to
    → from < cell_count g → i < length links → get_or links i 0 < 4 * cell_count g
links_inside g from [] [] to i w l h = absurd (omega arith)
links_inside g from [] (link ∷ links) to i w l h = absurd w
links_inside g from (d ∷ ds) [] to i w l h = absurd w
links_inside g from (d ∷ ds) (link ∷ links) to zero w l h = omega (arith, w.0, small d)
links_inside g from (d ∷ ds) (link ∷ links) to (suc i) w l h =
    links_inside g w.1 ds links to i w.3 (neighbour_inside g from d w.1 l w.2) (omega arith)

pub some_links : (g : Extent) (from : ℕ) (ds : List Dir) (links : List ℕ) (to : ℕ) → Walks g from ds links to → from ≢ to
    → 0 < length links
some_links g from [] [] to w h = absurd (h w)
some_links g from [] (link ∷ links) to w h = absurd w
some_links g from (d ∷ ds) [] to w h = absurd w
some_links g from (d ∷ ds) (link ∷ links) to w h = omega arith
