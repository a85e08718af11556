-- Words that only proofs need: sources and programs as plain data with 0 in each line.
use Rattle.std.specs.Prelude.{map}
use Rattle.cell_tree.specs.declared.source.LinkDecl.{LinkDecl}
use Rattle.cell_tree.specs.declared.source.MessageDecl.{MessageDecl}
use Rattle.cell_tree.specs.declared.source.VarDecl.{VarDecl}
use Rattle.cell_types.specs.Code as C
use Rattle.cell_types.specs.Code.{Action, Block}
use Rattle.cell_types.specs.Written.{WrittenAction, Set, SetAt, Write, Read, Take, Emit, For, If, WrittenBlock, End, Then, WrittenCell, WrittenSource}

abbrev mutual
  -- an action with 0 in each line
  pub bare_action : WrittenAction → WrittenAction
  bare_action (Set name value) = Set name value
  bare_action (SetAt name index value) = SetAt name index value
  bare_action (Write message value) = Write message value
  bare_action (Read message name) = Read message name
  bare_action (Take name) = Take name
  bare_action (Emit value) = Emit value
  bare_action (For counter turns body) = For counter turns (bare_block body)
  bare_action (If test first second) = If test (bare_block first) (bare_block second)

  -- statements with 0 in each line
  pub bare_block : WrittenBlock → WrittenBlock
  bare_block End = End
  bare_block (Then line action rest) = Then 0 (bare_action action) (bare_block rest)

-- declarations on line 0
abbrev pub bare_link : LinkDecl → LinkDecl
bare_link link = record link { line = 0 }

abbrev pub bare_message : MessageDecl → MessageDecl
bare_message message = record message { line = 0 }

abbrev pub bare_variable : VarDecl → VarDecl
bare_variable variable = record variable { line = 0 }

-- a cell with 0 in each line
abbrev pub bare_cell : WrittenCell → WrittenCell
bare_cell cell =
    record { place = cell.place; vars = map bare_variable cell.vars; body = bare_block cell.body; line = 0 }

-- a source with 0 in each line
abbrev pub bare_source : WrittenSource → WrittenSource
bare_source source =
    record source {
      array_line = 0;
      queues_line = 0;
      buffer_line = 0;
      links = map bare_link source.links;
      messages = map bare_message source.messages;
      cells = map bare_cell source.cells;
    }

abbrev mutual
  -- a resolved action with 0 in each line
  pub bare_act : Action → Action
  bare_act (C.Set word value) = C.Set word value
  bare_act (C.SetAt base len index value) = C.SetAt base len index value
  bare_act (C.Write message value) = C.Write message value
  bare_act (C.Read message word) = C.Read message word
  bare_act (C.Take word) = C.Take word
  bare_act (C.Emit value) = C.Emit value
  bare_act (C.For counter turns body) = C.For counter turns (bare_code body)
  bare_act (C.If test first second) = C.If test (bare_code first) (bare_code second)

  -- resolved statements with 0 in each line
  pub bare_code : Block → Block
  bare_code C.End = C.End
  bare_code (C.Then line action rest) = C.Then 0 (bare_act action) (bare_code rest)
