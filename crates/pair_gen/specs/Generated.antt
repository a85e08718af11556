-- The source of generated pairs: 16 cells on a square, 24 messages between them, and in each cell its part of each pair.
use Rattle.std.specs.Prelude.{ℕ, ◌+◌, ◌*◌, ◌/◌, ◌%◌, List, [], ◌∷◌, ◌++◌, None, codes, length, map, flat_map, sum_by, nat_eq, if◌then◌else◌}
use Rattle.std.specs.Fmt.{decimal}
use Rattle.sys_base.specs.Groups.{below}
use Rattle.sys_base.specs.declared.kinds.Op.TheVariants as O
use Rattle.cell_tree.specs.declared.expression.Expr.{Expr}
use Rattle.cell_tree.specs.declared.expression.Expr.TheVariants as E
use Rattle.cell_tree.specs.declared.source.CellDecl.{CellDecl}
use Rattle.cell_tree.specs.declared.source.MessageDecl.{MessageDecl}
use Rattle.cell_tree.specs.declared.source.Place.{Place}
use Rattle.cell_tree.specs.declared.source.Source.{Source}
use Rattle.cell_tree.specs.declared.statement.Act.{Act}
use Rattle.cell_tree.specs.declared.statement.Act.TheVariants as A
use Rattle.cell_tree.specs.declared.statement.Stmt.{Stmt}
use Rattle.pair_gen.specs.Pairs.{messages_drawn}

-- the name of a message
abbrev pub message_name : ℕ → List ℕ
message_name message = codes "m" ++ decimal message

-- the name of the variable of each cell
abbrev pub variable_name : List ℕ
variable_name = codes "x"

-- the cell that sends a message
abbrev pub sender : ℕ → ℕ
sender message = 5 * message % 16

-- the cell that receives a message
abbrev pub receiver : ℕ → ℕ
receiver message = (5 * message + 1 + message * message % 15) % 16

-- the place of a cell of the square
abbrev pub place_of : ℕ → Place
place_of cell = record { row = cell / 4; col = cell % 4 }

-- the declaration of a message; the first two lines of the text are the `array` and the `queues` line
abbrev pub message_decl : ℕ → MessageDecl
message_decl message =
    record {
      name = message_name message;
      from = place_of (sender message);
      to = place_of (receiver message);
      route = [];
      label = None;
      line = 3 + message;
    }

-- the value of the variable
abbrev pub variable : Expr
variable = E.Named variable_name

-- `x = c;` in cell c
abbrev pub set_act : ℕ → Act
set_act cell = A.Set variable_name (E.Number cell)

-- `write m x + 1;`
abbrev pub write_act : ℕ → Act
write_act message = A.Write (message_name message) (E.Binary O.Add variable (E.Number 1))

-- `read m x;`
abbrev pub read_act : ℕ → Act
read_act message = A.Read (message_name message) variable_name

-- `emit x;`
abbrev pub emit_act : Act
emit_act = A.Emit variable

-- what a cell does in the pair of a message: it writes what it sends, and reads what it receives
abbrev pub pair_acts : (cell message : ℕ) → List Act
pair_acts cell message =
    (if nat_eq (sender message) cell then write_act message ∷ [] else [])
    ++ (if nat_eq (receiver message) cell then read_act message ∷ [] else [])

-- what a cell does, where these are the messages of the pairs
unfoldable pub cell_acts : List ℕ → ℕ → List Act
cell_acts messages cell = set_act cell ∷ flat_map (pair_acts cell) messages ++ emit_act ∷ []

-- some actions on lines one after another, from this one on
abbrev pub on_lines : ℕ → List Act → List Stmt
on_lines line [] = []
on_lines line (act ∷ acts) = record { line = line; act = act } ∷ on_lines (line + 1) acts

-- how many lines a cell has: the line of its place, that of its variable, one for each statement, and that of its end
abbrev pub cell_lines : List ℕ → ℕ → ℕ
cell_lines messages cell = 3 + length (cell_acts messages cell)

-- the first line of a cell: it comes after two lines, those of the messages, and those of the cells before it
abbrev pub first_line : List ℕ → ℕ → ℕ
first_line messages cell = 27 + sum_by (cell_lines messages) (below cell)

-- the declaration of a cell
abbrev pub cell_decl : List ℕ → ℕ → CellDecl
cell_decl messages cell =
    record {
      place = place_of cell;
      vars = record { name = variable_name; length = None; line = first_line messages cell + 1 } ∷ [];
      body = on_lines (first_line messages cell + 2) (cell_acts messages cell);
      line = first_line messages cell;
    }

-- the source of the pairs of these messages
unfoldable pub source_of : List ℕ → Source
source_of messages =
    record {
      rows = 4;
      cols = 4;
      array_line = 1;
      queues = 24;
      queues_line = 2;
      buffer = 0;
      buffer_line = 0;
      links = [];
      messages = map message_decl (below 24);
      cells = map (cell_decl messages) (below 16);
    }

-- the source of this many pairs whose messages are drawn by the generator of a seed
abbrev pub generated : (seed pairs : ℕ) → Source
generated seed pairs = source_of (messages_drawn seed pairs)
