-- Walks over the links of a grid, and paths.
use Rattle.std.specs.Prelude.{ℕ, ◌≡◌, ◌≢◌, List, [], ◌∷◌, Some, AllPairs}
use Rattle.sys_base.specs.declared.kinds.Dir.{Dir}
use Rattle.sys_base.specs.Grid.{Extent, neighbour_of, link_id}

-- Walking these directions from a cell goes over just these links, by their ids, and ends at that cell.
abbrev pub Walks : Extent → ℕ → List Dir → List ℕ → ℕ → Type 0
Walks g from [] [] to = from ≡ to
Walks g from [] (link ∷ links) to = ⊥
Walks g from (d ∷ ds) [] to = ⊥
Walks g from (d ∷ ds) (link ∷ links) to =
    (link ≡ link_id from d) × (next : ℕ) × (neighbour_of g from d ≡ Some next) × Walks g next ds links to

-- No link is used twice.
abbrev pub Differ : List ℕ → Type 0
Differ links = AllPairs (λ k l. k ≢ l) links

-- Some directions walk from a cell over these links to that cell.
abbrev pub Leads : Extent → ℕ → List ℕ → ℕ → Type 0
Leads g from links to = (ds : List Dir) × Walks g from ds links to

-- The links are a path between two cells: they lead from the one to the other, and none is used twice.
pub record IsPath (g : Extent) (from : ℕ) (links : List ℕ) (to : ℕ) : Type 0 where
  pub leads : Leads g from links to
  pub differ : Differ links
