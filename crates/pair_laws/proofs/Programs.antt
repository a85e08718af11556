-- The program of a source without lines is the same but for lines.
use Rattle.std.proofs.Common.{◌≡◌, ℕ, ◌+◌, ◌*◌, ◌++◌, Bool, true, false, cond, List, [], ◌∷◌, Option, None, Some, map, refl, ap, ap₂, ◌∙◌, length}
use Rattle.std.specs.Prelude.{nat_eq, find, option_map, max}
use Rattle.cell_types.specs.Code as C
use Rattle.cell_types.specs.Code.{Action, Block, CellCode}
use Rattle.cell_types.specs.Communications.{action_communications, block_communications, Communication, copies}
use Rattle.cell_types.specs.Cost.{expression_cost, action_cost, block_cost}
use Rattle.cell_types.specs.Names.{Scope, scope_of, inside_loop, extent_of, cell_index}
use Rattle.cell_types.specs.Resolved.{cell_code, declaration_of, resolved_action, resolved_block, resolved_expression}
use Rattle.cell_types.specs.Written as W
use Rattle.cell_types.specs.Written.{WrittenAction, WrittenBlock, WrittenCell, WrittenSource}
use Rattle.pair_laws.specs.bodies.Bare.{bare_action, bare_block, bare_cell, bare_source, bare_act, bare_code}
use Rattle.pair_laws.proofs.Bare.{scope_stays}

mutual
  -- names mean the same without lines
  action_resolved : (s : Scope) (a : WrittenAction) → resolved_action s (bare_action a) ≡ bare_act (resolved_action s a)
  action_resolved s (W.Set name value) = refl
  action_resolved s (W.SetAt name index value) = refl
  action_resolved s (W.Write message value) = refl
  action_resolved s (W.Read message name) = refl
  action_resolved s (W.Take name) = refl
  action_resolved s (W.Emit value) = refl
  action_resolved s (W.For counter turns body) = ap (C.For (length s.counters) turns) (block_resolved (inside_loop counter s) body)
  action_resolved s (W.If test first second) = ap₂ (C.If (resolved_expression s test)) (block_resolved s first) (block_resolved s second)

  block_resolved : (s : Scope) (b : WrittenBlock) → resolved_block s (bare_block b) ≡ bare_code (resolved_block s b)
  block_resolved s W.End = refl
  block_resolved s (W.Then line action rest) = ap₂ (C.Then 0) (action_resolved s action) (block_resolved s rest)

mutual
  -- what an action communicates, costs and tries has no lines
  acts_communicate : (a : Action) → action_communications (bare_act a) ≡ action_communications a
  acts_communicate (C.Set word value) = refl
  acts_communicate (C.SetAt base len index value) = refl
  acts_communicate (C.Write message value) = refl
  acts_communicate (C.Read message word) = refl
  acts_communicate (C.Take word) = refl
  acts_communicate (C.Emit value) = refl
  acts_communicate (C.For counter turns body) = ap (copies turns) (blocks_communicate body)
  acts_communicate (C.If test first second) = blocks_communicate first

  pub blocks_communicate : (b : Block) → block_communications (bare_code b) ≡ block_communications b
  blocks_communicate C.End = refl
  blocks_communicate (C.Then line action rest) =
      ap₂ (λ (xs ys : List Communication). xs ++ ys) (acts_communicate action) (blocks_communicate rest)

mutual
  acts_cost : (a : Action) → action_cost (bare_act a) ≡ action_cost a
  acts_cost (C.Set word value) = refl
  acts_cost (C.SetAt base len index value) = refl
  acts_cost (C.Write message value) = refl
  acts_cost (C.Read message word) = refl
  acts_cost (C.Take word) = refl
  acts_cost (C.Emit value) = refl
  acts_cost (C.For counter turns body) = ap (λ n. 1 + turns * (n + 1)) (blocks_cost body)
  acts_cost (C.If test first second) =
      ap₂ (λ (m n : ℕ). expression_cost test + 1 + max (m + 1) n) (blocks_cost first) (blocks_cost second)

  pub blocks_cost : (b : Block) → block_cost (bare_code b) ≡ block_cost b
  blocks_cost C.End = refl
  blocks_cost (C.Then line action rest) = ap₂ (λ (m n : ℕ). m + n) (acts_cost action) (blocks_cost rest)

-- the declaration of a cell without lines
found_bare : (p : WrittenCell → Bool) → ((c : WrittenCell) → p (bare_cell c) ≡ p c) → (cs : List WrittenCell)
    → find p (map bare_cell cs) ≡ option_map bare_cell (find p cs)
found_bare p h [] = refl
found_bare p h (c ∷ cs) = ap (λ b. cond b (Some (bare_cell c)) (find p (map bare_cell cs))) (h c) ∙ choice (p c) (found_bare p h cs)
  where
    choice : (b : Bool) → find p (map bare_cell cs) ≡ option_map bare_cell (find p cs)
        → cond b (Some (bare_cell c)) (find p (map bare_cell cs)) ≡ option_map bare_cell (cond b (Some c) (find p cs))
    choice true rest = refl
    choice false rest = rest

-- the statements of a cell
body_bare : (w : WrittenSource) (o : Option WrittenCell)
    → (cell_code (bare_source w) (option_map bare_cell o)).body ≡ bare_code (cell_code w o).body
body_bare w None = refl
body_bare w (Some c) = ap (λ s. resolved_block s (bare_block c.body)) (scope_stays w c) ∙ block_resolved (scope_of w c) c.body

pub cell_bare : (w : WrittenSource) (cell : ℕ)
    → (cell_code (bare_source w) (declaration_of (bare_source w) cell)).body ≡ bare_code (cell_code w (declaration_of w cell)).body
cell_bare w cell =
    ap (λ o. (cell_code (bare_source w) o).body) (found_bare (λ (c : WrittenCell). nat_eq (cell_index (extent_of w) c.place) cell) (λ c. refl) w.cells)
    ∙ body_bare w (declaration_of w cell)
