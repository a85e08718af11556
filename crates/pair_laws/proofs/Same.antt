-- Programs of sources that are the same but for lines.
use Rattle.std.proofs.Common.{◌≡◌, ℕ, zero, suc, ◌+◌, ◌++◌, Bool, true, false, cond, List, [], ◌∷◌, Some, map, refl, sym, ap, ap₂, ◌∙◌, slice_get}
use Rattle.std.specs.Prelude.{nat_eq, find, sum_by, is_some, if◌then◌else◌}
use Rattle.std.specs.List.{flat_map}
use Rattle.std.specs.Option.{option_map_or}
use Rattle.std.proofs.lemmas.List.Sums.{sum_by-cons}
use Rattle.sys_base.specs.Grid.{neighbour_of, link_id}
use Rattle.sys_base.specs.declared.kinds.Dir.{Dir}
use Rattle.sys_base.specs.declared.kinds.Dir.TheVariants as D
use Rattle.cell_tree.specs.declared.source.LinkDecl.{LinkDecl}
use Rattle.cell_types.specs.Code.{Block, CellCode, ProgramCode}
use Rattle.cell_types.specs.Communications.{Communication, block_communications, communications}
use Rattle.cell_types.specs.Cost.{block_cost, cells_cost}
use Rattle.cell_types.specs.Faults.{declared_link}
use Rattle.cell_types.specs.Names.{extent_of}
use Rattle.cell_types.specs.Resolved.{cell_code, cell_queues, cells_of, declaration_of, queues_of, resolved_message, resolved_program}
use Rattle.cell_types.specs.Written.{WrittenSource}
use Rattle.pair_laws.specs.bodies.Bare.{bare_link, bare_message, bare_source, bare_code}
use Rattle.pair_laws.proofs.Bare.{stays}
use Rattle.pair_laws.proofs.Programs.{blocks_communicate, blocks_cost, cell_bare}

-- what the cells of a program do, without lines
abbrev pub bodies : ProgramCode → List Block
bodies p = map (λ (c : CellCode). bare_code c.body) p.cells

-- the statements of the cells of a program without lines
abbrev pub own_bodies : ProgramCode → List Block
own_bodies p = map (λ (c : CellCode). c.body) p.cells

-- ---- links

links_found : (p : LinkDecl → Bool) → ((l : LinkDecl) → p (bare_link l) ≡ p l) → (usual : ℕ) (ls : List LinkDecl)
    → option_map_or (λ (l : LinkDecl). l.queues) (find p (map bare_link ls)) usual ≡ option_map_or (λ (l : LinkDecl). l.queues) (find p ls) usual
links_found p h usual [] = refl
links_found p h usual (l ∷ ls) =
    ap (λ b. option_map_or (λ (k : LinkDecl). k.queues) (cond b (Some (bare_link l)) (find p (map bare_link ls))) usual) (h l)
    ∙ choice (p l) (links_found p h usual ls)
  where
    choice : (b : Bool)
        → option_map_or (λ (k : LinkDecl). k.queues) (find p (map bare_link ls)) usual ≡ option_map_or (λ (k : LinkDecl). k.queues) (find p ls) usual
        → option_map_or (λ (k : LinkDecl). k.queues) (cond b (Some (bare_link l)) (find p (map bare_link ls))) usual
        ≡ option_map_or (λ (k : LinkDecl). k.queues) (cond b (Some l) (find p ls)) usual
    choice true rest = refl
    choice false rest = rest

queues_same : (w : WrittenSource) (cell : ℕ) (dir : Dir) → queues_of (bare_source w) cell dir ≡ queues_of w cell dir
queues_same w cell dir =
    ap (λ n. if is_some (neighbour_of (extent_of w) cell dir) then n else 0)
    (links_found (λ l. nat_eq (declared_link (extent_of w) l) (link_id cell dir)) (λ l. refl) w.queues w.links)

cell_queues_same : (w : WrittenSource) (cell : ℕ) → cell_queues (bare_source w) cell ≡ cell_queues w cell
cell_queues_same w cell =
    same (D.N ∷ D.E ∷ D.S ∷ D.W ∷ [])
  where
    same : (dirs : List Dir) → map (queues_of (bare_source w) cell) dirs ≡ map (queues_of w cell) dirs
    same [] = refl
    same (d ∷ ds) = ap₂ (λ (n : ℕ) (ns : List ℕ). n ∷ ns) (queues_same w cell d) (same ds)

all_queues_same : (w : WrittenSource) (cells : List ℕ) → flat_map (cell_queues (bare_source w)) cells ≡ flat_map (cell_queues w) cells
all_queues_same w [] = refl
all_queues_same w (c ∷ cs) = ap₂ (λ (xs ys : List ℕ). xs ++ ys) (cell_queues_same w c) (all_queues_same w cs)

bodies_same : (w : WrittenSource) (cells : List ℕ)
    → map (λ (c : CellCode). c.body) (map (λ cell. cell_code (bare_source w) (declaration_of (bare_source w) cell)) cells)
    ≡ map (λ (c : CellCode). bare_code c.body) (map (λ cell. cell_code w (declaration_of w cell)) cells)
bodies_same w [] = refl
bodies_same w (c ∷ cs) = ap₂ (λ (b : Block) (bs : List Block). b ∷ bs) (cell_bare w c) (bodies_same w cs)

-- The first program is the second one but for lines.
pub record IsBare (q p : ProgramCode) : Type 0 where
  pub grid : q.grid ≡ p.grid
  pub queues : q.queues ≡ p.queues
  pub messages : q.messages ≡ p.messages
  pub bodies_are : own_bodies q ≡ bodies p
  pub buffer : q.buffer ≡ p.buffer

-- the program of a source without lines is that of the source but for lines
pub program_bare : (w : WrittenSource) → IsBare (resolved_program (bare_source w)) (resolved_program w)
program_bare w =
    record {
      grid = refl;
      queues = all_queues_same w (cells_of w);
      messages = stays (resolved_message (extent_of w)) bare_message (λ m. refl) w.messages;
      bodies_are = bodies_same w (cells_of w);
      buffer = refl;
    }

-- ---- what has no lines

all_map : {A B X : Type 0} (f : B → X) (g : A → B) (xs : List A) → map f (map g xs) ≡ map (λ x. f (g x)) xs
all_map f g [] = refl
all_map {X} f g (x ∷ xs) = ap (λ (ys : List X). f (g x) ∷ ys) (all_map f g xs)

costs : (cs : List CellCode) → sum_by block_cost (map (λ (c : CellCode). bare_code c.body) cs) ≡ sum_by (λ (c : CellCode). block_cost c.body) cs
costs [] = refl
costs (c ∷ cs) =
    sum_by-cons block_cost (bare_code c.body) (map (λ (d : CellCode). bare_code d.body) cs)
    ∙ ap₂ (λ (m n : ℕ). m + n) (blocks_cost c.body) (costs cs) ∙ sym (sum_by-cons (λ (d : CellCode). block_cost d.body) c cs)

pub own_costs : (cs : List CellCode) → sum_by block_cost (map (λ (c : CellCode). c.body) cs) ≡ sum_by (λ (c : CellCode). block_cost c.body) cs
own_costs [] = refl
own_costs (c ∷ cs) =
    sum_by-cons block_cost c.body (map (λ (d : CellCode). d.body) cs)
    ∙ ap (λ n. block_cost c.body + n) (own_costs cs) ∙ sym (sum_by-cons (λ (d : CellCode). block_cost d.body) c cs)

-- the communications of the cell at a place among these
abbrev pub made_at : List Block → ℕ → List Communication
made_at bs cell = option_map_or block_communications (slice_get bs cell) []

made : (cs : List CellCode) (cell : ℕ)
    → made_at (map (λ (c : CellCode). bare_code c.body) cs) cell ≡ option_map_or (λ (c : CellCode). block_communications c.body) (slice_get cs cell) []
made [] cell = refl
made (c ∷ cs) zero = blocks_communicate c.body
made (c ∷ cs) (suc n) = made cs n

pub own_made : (cs : List CellCode) (cell : ℕ)
    → made_at (map (λ (c : CellCode). c.body) cs) cell ≡ option_map_or (λ (c : CellCode). block_communications c.body) (slice_get cs cell) []
own_made [] cell = refl
own_made (c ∷ cs) zero = refl
own_made (c ∷ cs) (suc n) = own_made cs n

all_made : (cs : List CellCode)
    → flat_map block_communications (map (λ (c : CellCode). bare_code c.body) cs) ≡ flat_map (λ (c : CellCode). block_communications c.body) cs
all_made [] = refl
all_made (c ∷ cs) = ap₂ (λ (xs ys : List Communication). xs ++ ys) (blocks_communicate c.body) (all_made cs)

pub all_own : (cs : List CellCode)
    → flat_map block_communications (map (λ (c : CellCode). c.body) cs) ≡ flat_map (λ (c : CellCode). block_communications c.body) cs
all_own [] = refl
all_own (c ∷ cs) = ap (λ ys. block_communications c.body ++ ys) (all_own cs)

module _ (q p : ProgramCode) (is : IsBare q p) where
  -- the cells cost as much
  pub same_cost : cells_cost p ≡ cells_cost q
  same_cost = sym (costs p.cells) ∙ ap (sum_by block_cost) (sym is.bodies_are) ∙ own_costs q.cells

  -- each cell communicates the same
  pub same_made : (cell : ℕ) → communications p cell ≡ communications q cell
  same_made cell = sym (made p.cells cell) ∙ ap (λ bs. made_at bs cell) (sym is.bodies_are) ∙ own_made q.cells cell

  -- and so do all
  pub same_all : flat_map (λ (c : CellCode). block_communications c.body) p.cells ≡ flat_map (λ (c : CellCode). block_communications c.body) q.cells
  same_all = sym (all_made p.cells) ∙ ap (flat_map block_communications) (sym is.bodies_are) ∙ all_own q.cells
