-- The canonical text of a source.
use Rattle.std.specs.Prelude.{ℕ, ◌==◌, List, [], ◌++◌, codes, Option, Some, None, if◌then◌else◌}
use Rattle.std.specs.List.{flat_map}
use Rattle.std.specs.Fmt.{decimal}
use Rattle.sys_base.specs.Key.{key_text}
use Rattle.sys_base.specs.declared.key.Key.TheVariants as K
use Rattle.sys_base.specs.declared.kinds.Dir.{Dir}
use Rattle.sys_base.specs.declared.kinds.Dir.TheVariants.{N, E, S, W}
use Rattle.cell_lexer.specs.Forms.{mark_text}
use Rattle.cell_lexer.specs.declared.token.Mark.TheVariants as M
use Rattle.cell_tree.specs.Pieces.{Piece, joined, after, none, space, bracketed, line}
use Rattle.cell_tree.specs.Statement.{statement_pieces}
use Rattle.cell_tree.specs.declared.source.CellDecl.{CellDecl}
use Rattle.cell_tree.specs.declared.source.LinkDecl.{LinkDecl}
use Rattle.cell_tree.specs.declared.source.MessageDecl.{MessageDecl}
use Rattle.cell_tree.specs.declared.source.Place.{Place}
use Rattle.cell_tree.specs.declared.source.Source.{Source}
use Rattle.cell_tree.specs.declared.source.VarDecl.{VarDecl}

-- how a direction is spelt
abbrev pub dir_text : Dir → List ℕ
dir_text N = codes "N"
dir_text E = codes "E"
dir_text S = codes "S"
dir_text W = codes "W"

-- the pieces of a place: its row, a dot and its column
abbrev pub place_pieces : Place → List Piece
place_pieces place = after space (decimal place.row) ++ after none (mark_text M.Dot) ++ after none (decimal place.col)

-- the pieces of the `array` line, with which the text begins
abbrev pub array_pieces : Source → List Piece
array_pieces source =
    after none (key_text K.Array) ++ after space (decimal source.rows) ++ after space (codes "x")
    ++ after space (decimal source.cols) ++ after none (mark_text M.Semicolon)

-- the pieces of a line that gives one number
abbrev pub setting_pieces : List ℕ → ℕ → List Piece
setting_pieces key number = after (line 0) key ++ after space (decimal number) ++ after none (mark_text M.Semicolon)

-- the pieces of the `buffer` line, which stands exactly where the buffer is not 0
abbrev pub buffer_pieces : ℕ → List Piece
buffer_pieces buffer = if buffer == 0 then [] else setting_pieces (key_text K.Buffer) buffer

-- the pieces of the lines that are no list: the `array`, the `queues` and the `buffer` line
abbrev pub settings_pieces : Source → List Piece
settings_pieces source =
    array_pieces source ++ setting_pieces (key_text K.Queues) source.queues ++ buffer_pieces source.buffer

-- the pieces of a `link` line
abbrev pub link_pieces : LinkDecl → List Piece
link_pieces link =
    after (line 0) (key_text K.Link) ++ place_pieces link.place ++ after space (dir_text link.dir)
    ++ after space (key_text K.Queues) ++ after space (decimal link.queues) ++ after none (mark_text M.Semicolon)

-- the pieces of a route, where one is given
abbrev pub route_pieces : List Dir → List Piece
route_pieces [] = []
route_pieces dirs = after space (key_text K.Route) ++ flat_map (λ dir. after space (dir_text dir)) dirs

-- the pieces of a label, where one is given
abbrev pub label_pieces : Option ℕ → List Piece
label_pieces None = []
label_pieces (Some label) = after space (key_text K.Label) ++ after space (decimal label)

-- the pieces of a message's sender and receiver
abbrev pub ends_pieces : MessageDecl → List Piece
ends_pieces message =
    after space (key_text K.From) ++ place_pieces message.from ++ after space (key_text K.To) ++ place_pieces message.to

-- the pieces of a `message` line
abbrev pub message_pieces : MessageDecl → List Piece
message_pieces message =
    after (line 0) (key_text K.Message) ++ after space message.name ++ ends_pieces message
    ++ route_pieces message.route ++ label_pieces message.label ++ after none (mark_text M.Semicolon)

-- the pieces of an array's length, where there is one
abbrev pub length_pieces : Option ℕ → List Piece
length_pieces None = []
length_pieces (Some length) = bracketed (after none (decimal length))

-- the pieces of a `var` line, which is inside a cell
abbrev pub var_pieces : VarDecl → List Piece
var_pieces variable =
    after (line 1) (key_text K.Var) ++ after space variable.name ++ length_pieces variable.length
    ++ after none (mark_text M.Semicolon)

-- the pieces of a cell's contents: its `var` lines and then its statements
abbrev pub contents_pieces : CellDecl → List Piece
contents_pieces cell = flat_map var_pieces cell.vars ++ flat_map (λ statement. statement_pieces statement 1) cell.body

-- the pieces of a cell
abbrev pub cell_pieces : CellDecl → List Piece
cell_pieces cell =
    after (line 0) (key_text K.Cell) ++ place_pieces cell.place ++ after space (mark_text M.OpenBrace)
    ++ contents_pieces cell
    ++ after (line 0) (mark_text M.CloseBrace)

-- the pieces of the canonical text
abbrev pub canonical_pieces : Source → List Piece
canonical_pieces source =
    settings_pieces source ++ flat_map link_pieces source.links ++ flat_map message_pieces source.messages
    ++ flat_map cell_pieces source.cells

-- the canonical text: the pieces, and the newline that ends the last line
abbrev pub canonical : Source → List ℕ
canonical source = joined (canonical_pieces source) ++ codes "\n"
