-- The statements of a program are compiled to no more instructions than its source has nodes.
use Rattle.std.proofs.Common.{ℕ, ◌≤◌, List, [], ◌∷◌, Option, Some, None, map, nat_eq, All, IfSome, arith}
use Rattle.std.proofs.lemmas.List.Elements.{All-from_recursion}
use Rattle.std.proofs.lemmas.List.Sums.{sum_by-cons}
use Rattle.std.specs.List.{AllByRecursion, sum}
use Rattle.cell_tree.specs.Nodes.{cell_nodes, source_nodes}
use Rattle.cell_tree.specs.declared.source.CellDecl.{CellDecl}
use Rattle.cell_tree.specs.declared.source.Source.{Source}
use Rattle.cell_types.specs.Code.{CellCode}
use Rattle.cell_types.specs.Names.{Scope, cell_index, extent_of, scope_of}
use Rattle.cell_types.specs.Resolved.{resolved_block, cell_code, declaration_of, cells_of, program_of}
use Rattle.cell_types.specs.Size.{block_size}
use Rattle.cell_types.specs.Written.{WrittenCell, WrittenSource, written_cell, written}
use Rattle.cell_types.proofs.NoFaults.{find_kept}
use Rattle.cell_types.proofs.WrittenTrees.{block_keeps}

-- A cell's statements are compiled to at most this many instructions, whatever its names mean.
abbrev IsSmall : ℕ → WrittenCell → Type 0
IsSmall most c = (scope : Scope) → block_size (resolved_block scope c.body) ≤ most

-- the cells of a tree whose nodes are at most this many
all_small : (most : ℕ) (cells : List CellDecl) → sum (map cell_nodes cells) ≤ most → AllByRecursion (IsSmall most) (map written_cell cells)
all_small most [] few = tt
all_small most (c ∷ cells) few =
    let both = sum_by-cons (λ n. n) (cell_nodes c) (map cell_nodes cells) in (
      λ scope. omega (arith, (block_keeps c.body).in_size scope, both, few),
      all_small most cells (omega (arith, both, few)),
    )

-- a cell, declared or empty
code_small : (most : ℕ) (s : WrittenSource) (o : Option WrittenCell) → IfSome o (IsSmall most) → block_size (cell_code s o).body ≤ most
code_small most s None h = omega arith
code_small most s (Some c) h = h (scope_of s c)

-- the cells with these indices
codes_small : (most : ℕ) (s : WrittenSource) → AllByRecursion (IsSmall most) s.cells → (indices : List ℕ)
    → AllByRecursion (λ (c : CellCode). block_size c.body ≤ most) (map (λ cell. cell_code s (declaration_of s cell)) indices)
codes_small most s h [] = tt
codes_small most s h (index ∷ indices) = (
  code_small most s (declaration_of s index)
      (find_kept (IsSmall most) (λ (c : WrittenCell). nat_eq (cell_index (extent_of s) c.place) index) s.cells h),
  codes_small most s h indices,
)

-- all cells of the program of a source
pub program_small : (source : Source) → All (λ (c : CellCode). block_size c.body ≤ source_nodes source) (program_of source).cells
program_small source =
    All-from_recursion (λ (c : CellCode). block_size c.body ≤ source_nodes source) (program_of source).cells
    (codes_small (source_nodes source) (written source) (all_small (source_nodes source) source.cells (omega arith)) (cells_of (written source)))
