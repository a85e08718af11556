-- The queues of all links, from the table of those that have lines.
use Rattle.std.proofs.Common.{ℕ, ◌≡◌, ◌*◌, ◌<◌, ◌≤◌, Bool, true, false, cond, List, [], ◌∷◌, Option, Some, None, IfSome, All, get_or, nat_eq, refl, sym, ap, ◌∙◌, arith, find}
use Rattle.std.specs.Option.{option_map_or, option_map, is_some}
use Rattle.std.proofs.lemmas.List.Elements.{All-head, All-tail}
use Rattle.sys_base.specs.declared.kinds.Dir.{Dir}
use Rattle.sys_base.specs.declared.kinds.Dir.TheVariants as D
use Rattle.sys_base.specs.Grid.{Extent, cell_count, neighbour_of, link_id}
use Rattle.cell_tree.specs.declared.source.LinkDecl.{LinkDecl}
use Rattle.cell_types.specs.bodies.Declarations.{HasQueuesOf, own_queues}
use Rattle.cell_types.specs.Faults.{declared_link}
use Rattle.cell_types.specs.Names.{extent_of}
use Rattle.cell_types.specs.Resolved.{queues_of}
use Rattle.cell_types.specs.Written.{WrittenSource}

-- what is found is one of the list
some_at : (p : LinkDecl → Bool) (links : List LinkDecl) → All (λ (l : LinkDecl). 1 ≤ l.queues) links
    → IfSome (find p links) (λ (l : LinkDecl). 1 ≤ l.queues)
some_at p [] some = tt
some_at p (l ∷ ls) some = by (p l) (some_at p ls (All-tail (λ (l : LinkDecl). 1 ≤ l.queues) l ls some))
  where
    by : (b : Bool) → IfSome (find p ls) (λ (m : LinkDecl). 1 ≤ m.queues) → IfSome (cond b (Some l) (find p ls)) (λ (m : LinkDecl). 1 ≤ m.queues)
    by true later = All-head (λ (m : LinkDecl). 1 ≤ m.queues) l ls some
    by false later = later

-- the queues of a line, or others where there is none
abbrev given : Option LinkDecl → ℕ → ℕ
given line others = option_map_or (λ (l : LinkDecl). l.queues) line others

-- where no line gives queues there is no line
no_line : (line : Option LinkDecl) (others : ℕ) → IfSome line (λ (l : LinkDecl). 1 ≤ l.queues) → given line 0 ≡ 0 → given line others ≡ others
no_line None others some none = refl
no_line (Some l) others some none = absurd (omega arith)

-- a link of the grid, by its id
some_there : (o : Option ℕ) (link n : ℕ) → Some link ≡ option_map (λ _. n) o → (is_some o ≡ true) × (link ≡ n)
some_there None link n e = absurd (cc)
some_there (Some next) link n e = (refl, cc)

-- the link of a cell of the grid has an id below four times the cells
pub link_below : (cell count : ℕ) (dir : Dir) → cell < count → link_id cell dir < 4 * count
link_below cell count D.N l = omega arith
link_below cell count D.E l = omega arith
link_below cell count D.S l = omega arith
link_below cell count D.W l = omega arith

module _ (source : WrittenSource) (g : Extent) (usual : ℕ) (own : List ℕ) (so : HasQueuesOf source g usual own) (cell : ℕ) (dir : Dir) where
  -- the line of the link
  abbrev line : Option LinkDecl
  line = find (λ l. nat_eq (declared_link (extent_of source) l) (link_id cell dir)) source.links

  module _ (link : ℕ) (e : Some link ≡ option_map (λ _. link_id cell dir) (neighbour_of g cell dir)) (inside : cell < cell_count g) where
    -- the link is there, so it has queues
    there : given line source.queues ≡ queues_of source cell dir
    there =
        ap (λ b. cond b (given line source.queues) 0)
        (sym (some_there (neighbour_of g cell dir) link (link_id cell dir) e).0 ∙ ap (λ h. is_some (neighbour_of h cell dir)) so.grid)

    -- its id
    is : link ≡ link_id cell dir
    is = (some_there (neighbour_of g cell dir) link (link_id cell dir) e).1

    -- what its line gives
    found : get_or own link 0 ≡ given line 0
    found =
        ap (λ k. get_or own k 0) is ∙ so.own.each (link_id cell dir) (link_below cell (cell_count g) dir inside)
        ∙ ap (λ h. own_queues h source.links (link_id cell dir)) so.grid

    -- without a line it has the usual queues
    pub usual_queues : get_or own link 0 ≡ 0 → usual ≡ queues_of source cell dir
    usual_queues none =
        so.usual
        ∙ sym (no_line line source.queues (some_at (λ l. nat_eq (declared_link (extent_of source) l) (link_id cell dir)) source.links so.own.some)
        (sym found ∙ none)) ∙ there
