-- The resolved program of a source. Where a name has no meaning of the kind that is wanted, 0 stands for what it
-- means.
use Rattle.std.specs.Prelude.{ℕ, List, [], ◌∷◌, nat_eq, length, map, find, flat_map, is_some, Option, Some, None, Ok, Err, if◌then◌else◌}
use Rattle.std.specs.List.{range_with_len}
use Rattle.std.specs.Option.{option_map_or}
use Rattle.sys_base.specs.Grid.{Extent, cell_count, neighbour_of, link_id}
use Rattle.sys_base.specs.declared.kinds.Dir.{Dir}
use Rattle.sys_base.specs.declared.kinds.Dir.TheVariants as D
use Rattle.cell_tree.specs.declared.source.LinkDecl.{LinkDecl}
use Rattle.cell_tree.specs.declared.source.MessageDecl.{MessageDecl}
use Rattle.cell_tree.specs.declared.source.Source.{Source}
use Rattle.cell_types.specs.Code.{Expression, Number, Variable, Counter, Element, Negated, Applied, Action, Set, SetAt, Write, Read, Take, Emit, For, If, Block, End, Then, CellCode, ProgramCode}
use Rattle.cell_types.specs.Depth.{block_stack, block_loops}
use Rattle.cell_types.specs.Faults.{declared_link}
use Rattle.cell_types.specs.Names.{Scope, Meaning, MessageAt, VariableAt, ArrayAt, CounterAt, meaning, cell_index, total_words, extent_of, scope_of, inside_loop}
use Rattle.cell_types.specs.Route.{Walked, route_between}
use Rattle.cell_types.specs.Written as W
use Rattle.cell_types.specs.Written.{WrittenExpression, WrittenAction, WrittenBlock, WrittenCell, WrittenSource, written}
use Rattle.cell_types.specs.declared.program.Message.{Message}

-- the message that is meant, by its index
abbrev pub message_meant : Option Meaning → ℕ
message_meant (Some (MessageAt index)) = index
message_meant _ = 0

-- the variable that is meant, by its offset
abbrev pub word_meant : Option Meaning → ℕ
word_meant (Some (VariableAt offset)) = offset
word_meant _ = 0

-- the array that is meant, by its offset and its length
abbrev pub array_meant : Option Meaning → ℕ × ℕ
array_meant (Some (ArrayAt base len)) = (base, len)
array_meant _ = (0, 0)

-- the value that is meant, a variable or a counter
abbrev pub value_meant : Option Meaning → Expression
value_meant (Some (VariableAt offset)) = Variable offset
value_meant (Some (CounterAt depth)) = Counter depth
value_meant _ = Number 0

-- an expression whose names are resolved
abbrev pub resolved_expression : Scope → WrittenExpression → Expression
resolved_expression scope (W.Number number) = Number number
resolved_expression scope (W.Named name) = value_meant (meaning scope name)
resolved_expression scope (W.Element name index) =
    let array = array_meant (meaning scope name) in
    Element array.0 array.1 (resolved_expression scope index)
resolved_expression scope (W.Negated operand) = Negated (resolved_expression scope operand)
resolved_expression scope (W.Applied op left right) =
    Applied op (resolved_expression scope left) (resolved_expression scope right)

abbrev mutual
  -- an action whose names are resolved; a loop counts with the counter of its depth
  pub resolved_action : Scope → WrittenAction → Action
  resolved_action scope (W.Set name value) = Set (word_meant (meaning scope name)) (resolved_expression scope value)
  resolved_action scope (W.SetAt name index value) =
      let array = array_meant (meaning scope name) in
      SetAt array.0 array.1 (resolved_expression scope index) (resolved_expression scope value)
  resolved_action scope (W.Write message value) =
      Write (message_meant (meaning scope message)) (resolved_expression scope value)
  resolved_action scope (W.Read message name) =
      Read (message_meant (meaning scope message)) (word_meant (meaning scope name))
  resolved_action scope (W.Take name) = Take (word_meant (meaning scope name))
  resolved_action scope (W.Emit value) = Emit (resolved_expression scope value)
  resolved_action scope (W.For counter turns body) =
      For (length scope.counters) turns (resolved_block (inside_loop counter scope) body)
  resolved_action scope (W.If test first second) =
      If (resolved_expression scope test) (resolved_block scope first) (resolved_block scope second)

  -- statements whose names are resolved
  pub resolved_block : Scope → WrittenBlock → Block
  resolved_block scope W.End = End
  resolved_block scope (W.Then line action rest) = Then line (resolved_action scope action) (resolved_block scope rest)

-- a cell with these words and statements
abbrev pub cell_with : ℕ → Block → CellCode
cell_with words body = record { words = words; counters = block_loops body; stack = block_stack body; body = body }

-- the program of a cell by its declaration, if it has one
abbrev pub cell_code : WrittenSource → Option WrittenCell → CellCode
cell_code source None = cell_with 0 End
cell_code source (Some cell) = cell_with (total_words cell.vars) (resolved_block (scope_of source cell) cell.body)

-- the declaration of a cell, by its index
abbrev pub declaration_of : WrittenSource → ℕ → Option WrittenCell
declaration_of source cell =
    find (λ (c : WrittenCell). nat_eq (cell_index (extent_of source) c.place) cell) source.cells

-- the links of a walk
abbrev pub links_of : Walked → List ℕ
links_of (Ok links) = links
links_of (Err fault) = []

-- a message with its ends and its route
abbrev pub resolved_message : Extent → MessageDecl → Message
resolved_message g message =
    let from = cell_index g message.from in
    let to = cell_index g message.to in
    record {
      name = message.name;
      from = from;
      to = to;
      route = links_of (route_between g from to message.route);
      label = message.label;
    }

-- the queues of the link that leaves a cell in a direction: those of its own line, or those of the `queues` line; none
-- where there is no link
abbrev pub queues_of : WrittenSource → ℕ → Dir → ℕ
queues_of source cell dir =
    if is_some (neighbour_of (extent_of source) cell dir)
    then option_map_or (λ (l : LinkDecl). l.queues)
    (find (λ l. nat_eq (declared_link (extent_of source) l) (link_id cell dir)) source.links) source.queues
    else 0

-- the queues of the four links of a cell, in the order of their ids
abbrev pub cell_queues : WrittenSource → ℕ → List ℕ
cell_queues source cell = map (queues_of source cell) (D.N ∷ D.E ∷ D.S ∷ D.W ∷ [])

-- the cells of a source's grid, by their indices
abbrev pub cells_of : WrittenSource → List ℕ
cells_of source = range_with_len 0 (cell_count (extent_of source))

-- the resolved program of a source as plain data
abbrev pub resolved_program : WrittenSource → ProgramCode
resolved_program source =
    record {
      grid = extent_of source;
      queues = flat_map (cell_queues source) (cells_of source);
      messages = map (resolved_message (extent_of source)) source.messages;
      cells = map (λ cell. cell_code source (declaration_of source cell)) (cells_of source);
      buffer = source.buffer;
    }

-- the resolved program of a source
abbrev pub program_of : Source → ProgramCode
program_of source = resolved_program (written source)
