-- The words of the functions that walk along a route.
use Rattle.std.specs.Prelude.{ℕ, ◌≡◌, ◌*◌, ◌<◌, ◌++◌, ◌↔◌, true, false, List, [], ◌∷◌, Some, None, IsSome, IsTrue, length, Contains, slice_index_or, slice_set}
use Rattle.sys_base.specs.declared.kinds.Dir.{Dir}
use Rattle.sys_base.specs.Grid.{Extent, cell_count, neighbour_of, link_id}
use Rattle.routes.specs.declared.error.RouteError.{RouteError}
use Rattle.routes.specs.declared.error.RouteError.TheVariants as R
use Rattle.routes.specs.declared.walk.Walk.{Walk}
use Rattle.routes.specs.Walks.{IsTrail}

-- The walk has gone in these directions, and its table marks the links that it has used.
pub record HasWalked (g : Extent) (from : ℕ) (ds : List Dir) (now : Walk) : Type 0 where
  pub inside : now.cell < cell_count g
  pub trail : IsTrail g from ds now.links.items now.cell
  pub size : length now.used.items ≡ 4 * cell_count g
  pub marks : (link : ℕ) → IsTrue (slice_index_or now.used.items link false) ↔ Contains now.links.items link

-- The walk went on in this direction, over a link that it had not used.
pub record HasStepped (g : Extent) (d : Dir) (old new : Walk) : Type 0 where
  pub inside : new.cell < cell_count g
  pub next : neighbour_of g old.cell d ≡ Some new.cell
  pub fresh : slice_index_or old.used.items (link_id old.cell d) false ≡ false
  pub links : new.links.items ≡ old.links.items ++ link_id old.cell d ∷ []
  pub used : new.used.items ≡ slice_set old.used.items (link_id old.cell d) true

-- This is why the walk cannot go on in this direction.
abbrev pub IsStop : Extent → Dir → Walk → RouteError → Type 0
IsStop g d now R.LeavesGrid = neighbour_of g now.cell d ≡ None
IsStop g d now (R.LinkTwice link) =
    IsSome (neighbour_of g now.cell d) × (link ≡ link_id now.cell d)
    × IsTrue (slice_index_or now.used.items link false)
IsStop g d now R.WrongEnd = ⊥
IsStop g d now R.Memory = Unit {0}
