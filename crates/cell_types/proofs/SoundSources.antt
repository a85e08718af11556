-- A printable source without faults gives a sound program.
use Rattle.std.proofs.Common.{◌≡◌, ◌≤◌, ◌++◌, List, [], ◌∷◌, length, map, All, subst, sym}
use Rattle.std.proofs.lemmas.List.Elements.{recursion_from_All}
use Rattle.std.specs.List.{AllByRecursion, flat_map}
use Rattle.sys_base.specs.Grid.{Extent, IsExtent, cell_count}
use Rattle.cell_tree.specs.Depth.{cell_stack, cell_loops}
use Rattle.cell_tree.specs.Printable.{given, place_numbers, link_numbers, message_numbers, cell_numbers, source_numbers, statement_numbers, IsPrintable}
use Rattle.cell_tree.specs.declared.source.CellDecl.{CellDecl}
use Rattle.cell_tree.specs.declared.source.Source.{Source}
use Rattle.cell_tree.specs.declared.source.VarDecl.{VarDecl}
use Rattle.cell_types.specs.Faults.{faults, faults_behind, array_faults, queues_faults, link_faults, message_faults, cell_faults}
use Rattle.cell_types.specs.Names.{extent_of}
use Rattle.cell_types.specs.Resolved.{program_of}
use Rattle.cell_types.specs.Sound.{IsSound}
use Rattle.cell_types.specs.Written.{WrittenSource, written_cell, written}
use Rattle.cell_types.specs.declared.error.StaticError.{StaticError}
use Rattle.cell_types.proofs.NoFaults.{none_front, none_back}
use Rattle.cell_types.proofs.SoundCells.{IsShallow, cells_kept, cells_length}
use Rattle.cell_types.proofs.Paths.{PathLaws}
use Rattle.cell_types.proofs.SoundGrid.{grid_kept, buffer_kept, queues_kept, queues_length}
use Rattle.cell_types.proofs.SoundMessages.{messages_kept, messages_few, names_differ}
use Rattle.cell_types.proofs.WrittenNumbers.{Small, small_front, small_back}
use Rattle.cell_types.proofs.WrittenTrees.{block_keeps}

-- a cell of the tree as plain data
shallow : (c : CellDecl) → cell_stack c ≤ 256 → cell_loops c ≤ 16 → Small (cell_numbers c) → IsShallow (written_cell c)
shallow c stack loops small =
    let keeps = block_keeps c.body in
    record {
      stack = λ scope. subst (λ n. n ≤ 256) (sym (keeps.in_stack scope)) stack;
      loops = λ scope. subst (λ n. n ≤ 16) (sym (keeps.in_loops scope)) loops;
      numbers = subst Small (sym keeps.in_numbers)
          (small_back (place_numbers c.place ++ flat_map (λ (v : VarDecl). given v.length) c.vars)
          (flat_map statement_numbers c.body) small);
    }

-- all cells of the tree
all_shallow : (cells : List CellDecl) → AllByRecursion (λ c. cell_stack c ≤ 256) cells → AllByRecursion (λ c. cell_loops c ≤ 16) cells
    → Small (flat_map cell_numbers cells) → AllByRecursion IsShallow (map written_cell cells)
all_shallow [] stack loops small = tt
all_shallow (c ∷ cells) stack loops small = (
  shallow c stack.0 loops.0 (small_front (cell_numbers c) (flat_map cell_numbers cells) small),
  all_shallow cells stack.1 loops.1 (small_back (cell_numbers c) (flat_map cell_numbers cells) small),
)

-- the numbers of a printable source's cells
cells_small : (source : Source) → IsPrintable source → Small (flat_map cell_numbers source.cells)
cells_small source printable =
    let all = recursion_from_All (λ n. n ≤ 9223372036854775807) (source_numbers source) printable.numbers in
    small_back (flat_map link_numbers source.links ++ flat_map message_numbers source.messages)
    (flat_map cell_numbers source.cells) all.1.1.1.1

-- a printable source without faults gives a program that keeps all that the type of programs keeps
pub sound : PathLaws → (source : Source) → IsPrintable source → faults source ≡ [] → All (λ cell. cell_stack cell ≤ 256) source.cells
    → All (λ cell. cell_loops cell ≤ 16) source.cells → All (λ message. length message.route ≤ 256) source.messages
    → IsSound (program_of source)
sound laws source printable h stack loops short =
    let s : WrittenSource = written source in
    let g : Extent = extent_of s in
    let links : List StaticError = faults_behind (link_faults g) [] s.links in
    let messages : List StaticError = faults_behind (message_faults g) [] s.messages in
    let cells : List StaticError = faults_behind (cell_faults s) [] s.cells in
    let before_cells = none_front (array_faults s ++ queues_faults s ++ links ++ messages) cells h in
    let before_messages = none_front (array_faults s ++ queues_faults s ++ links) messages before_cells in
    let before_links = none_front (array_faults s ++ queues_faults s) links before_messages in
    let no_messages = none_back (array_faults s ++ queues_faults s ++ links) messages before_cells in
    let grid : IsExtent g = grid_kept s (none_front (array_faults s) (queues_faults s) before_links) in
    record {
      grid = grid;
      links = queues_length s 0 (cell_count g);
      queues = queues_kept s (none_back (array_faults s) (queues_faults s) before_links)
          (none_back (array_faults s ++ queues_faults s) links before_messages);
      few = messages_few g s.messages no_messages;
      names = names_differ g s.messages no_messages;
      messages = messages_kept laws g grid s.messages no_messages short;
      all = cells_length s;
      cells = cells_kept s (none_back (array_faults s ++ queues_faults s ++ links ++ messages) cells h)
          (all_shallow source.cells (recursion_from_All (λ c. cell_stack c ≤ 256) source.cells stack)
          (recursion_from_All (λ c. cell_loops c ≤ 16) source.cells loops) (cells_small source printable));
      buffer = buffer_kept s (none_back (array_faults s) (queues_faults s) before_links);
    }
