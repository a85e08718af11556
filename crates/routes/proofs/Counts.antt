-- How many links a path has, and which.
use Rattle.std.proofs.Common.{ℕ, ◌≢◌, ◌*◌, ◌<◌, ◌≤◌, List, [], ◌∷◌, length, All, subst, arith}
use Rattle.std.proofs.lemmas.Bool.Decides.{Decides-eqb}
use Rattle.std.proofs.lemmas.List.Elements.{All-cons, All-contains}
use Rattle.std.proofs.lemmas.Map.Made.{IsDistinct-from_AllPairs}
use Rattle.std.proofs.lemmas.Map.Steps.{length-le_from_distinct_below}
use Rattle.std.proofs.lemmas.Map.Views.{Contains-from_any}
use Rattle.sys_base.specs.declared.kinds.Dir.{Dir}
use Rattle.sys_base.specs.Grid.{Extent, cell_count}
use Rattle.routes.specs.Walks.{Walks, Differ, IsPath}
use Rattle.routes.proofs.Hops.{link_below, hop_inside}

-- a walk between two cells has a link
some_link : (g : Extent) (from to : ℕ) (ds : List Dir) (links : List ℕ) → from ≢ to → Walks g from ds links to → 0 < length links
some_link g from to [] [] ne w = absurd (ne w)
some_link g from to [] (l ∷ ls) ne w = absurd w
some_link g from to (d ∷ ds) [] ne w = absurd w
some_link g from to (d ∷ ds) (l ∷ ls) ne w = omega arith

-- a path between two cells has a link
pub path_some : (g : Extent) (from to : ℕ) (links : List ℕ) → from ≢ to → IsPath g from links to → 0 < length links
path_some g from to links ne p = some_link g from to p.leads.0 links ne p.leads.1

-- different numbers below a bound are at most so many
pub most_links : (links : List ℕ) (n : ℕ) → Differ links → All (λ l. l < n) links → length links ≤ n
most_links links n a below =
    length-le_from_distinct_below links n (IsDistinct-from_AllPairs Decides-eqb links a)
    (λ q h. All-contains (λ l. l < n) links q below (Contains-from_any (λ x y. (Decides-eqb x y).0) q links h))

-- a walk goes over links of the grid
walk_each : (g : Extent) (from to : ℕ) (ds : List Dir) (links : List ℕ) → from < cell_count g → Walks g from ds links to → All (λ l. l < 4 * cell_count g) links
walk_each g from to [] [] f w = λ k d lt. absurd (omega arith)
walk_each g from to [] (l ∷ ls) f w = absurd w
walk_each g from to (d ∷ ds) [] f w = absurd w
walk_each g from to (d ∷ ds) (l ∷ ls) f w =
    All-cons (λ l. l < 4 * cell_count g) l ls (omega (arith, w.0, link_below g from d f))
    (walk_each g w.1 to ds ls (hop_inside g from d w.1 f w.2) w.3)

-- a path goes over links of the grid
pub path_each : (g : Extent) (from to : ℕ) (links : List ℕ) → from < cell_count g → IsPath g from links to → All (λ l. l < 4 * cell_count g) links
path_each g from to links f p = walk_each g from to p.leads.0 links f p.leads.1

-- a path has at most as many links as there are ids
pub path_most : (g : Extent) (from to : ℕ) (links : List ℕ) → from < cell_count g → IsPath g from links to → length links ≤ 4 * cell_count g
path_most g from to links f p = most_links links (4 * cell_count g) p.differ (path_each g from to links f p)

-- a walk from a cell of the grid ends at one
walk_inside : (g : Extent) (from to : ℕ) (ds : List Dir) (links : List ℕ) → from < cell_count g → Walks g from ds links to → to < cell_count g
walk_inside g from to [] [] f w = subst (λ cell. cell < cell_count g) w f
walk_inside g from to [] (l ∷ ls) f w = absurd w
walk_inside g from to (d ∷ ds) [] f w = absurd w
walk_inside g from to (d ∷ ds) (l ∷ ls) f w = walk_inside g w.1 to ds ls (hop_inside g from d w.1 f w.2) w.3

-- a path from a cell of the grid ends at one
pub path_inside : (g : Extent) (from to : ℕ) (links : List ℕ) → from < cell_count g → IsPath g from links to → to < cell_count g
path_inside g from to links f p = walk_inside g from to p.leads.0 links f p.leads.1
