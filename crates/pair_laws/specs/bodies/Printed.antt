-- Words that only proofs need: the canonical text of the source of pairs, piece by piece.
use Rattle.std.specs.Prelude.{ℕ, List, [], ◌++◌, map, nat_eq, if◌then◌else◌}
use Rattle.std.specs.Fmt.{decimal}
use Rattle.std.specs.List.{flat_map}
use Rattle.sys_base.specs.Groups.{below}
use Rattle.sys_base.specs.Key.{key_text}
use Rattle.sys_base.specs.declared.key.Key.TheVariants as K
use Rattle.sys_base.specs.declared.kinds.Op.TheVariants as O
use Rattle.cell_lexer.specs.Forms.{mark_text}
use Rattle.cell_lexer.specs.declared.token.Mark.TheVariants as M
use Rattle.cell_tree.specs.Canonical.{array_pieces, setting_pieces, place_pieces, message_pieces}
use Rattle.cell_tree.specs.Operator.{op_text}
use Rattle.cell_tree.specs.Pieces.{Piece, after, none, space, line}
use Rattle.pair_gen.specs.Generated.{message_name, variable_name, sender, receiver, place_of, message_decl, source_of}

-- `x = c;`
abbrev pub set_pieces : ℕ → List Piece
set_pieces cell =
    after (line 1) variable_name ++ after space (mark_text M.Assign) ++ after space (decimal cell)
    ++ after none (mark_text M.Semicolon)

-- `write m x + 1;`
abbrev pub write_pieces : ℕ → List Piece
write_pieces message =
    after (line 1) (key_text K.Write) ++ after space (message_name message)
    ++ (after space variable_name ++ after space (op_text O.Add) ++ after space (decimal 1))
    ++ after none (mark_text M.Semicolon)

-- `read m x;`
abbrev pub read_pieces : ℕ → List Piece
read_pieces message =
    after (line 1) (key_text K.Read) ++ after space (message_name message) ++ after space variable_name
    ++ after none (mark_text M.Semicolon)

-- `emit x;`
abbrev pub emit_pieces : List Piece
emit_pieces = after (line 1) (key_text K.Emit) ++ after space variable_name ++ after none (mark_text M.Semicolon)

-- the lines of a cell in the pair of a message
abbrev pub pair_pieces : ℕ → ℕ → List Piece
pair_pieces cell message =
    (if nat_eq (sender message) cell then write_pieces message else [])
    ++ (if nat_eq (receiver message) cell then read_pieces message else [])

-- the first three lines of a cell
abbrev pub head_pieces : ℕ → List Piece
head_pieces cell =
    after (line 0) (key_text K.Cell) ++ place_pieces (place_of cell) ++ after space (mark_text M.OpenBrace)
    ++ (after (line 1) (key_text K.Var) ++ after space variable_name ++ after none (mark_text M.Semicolon))
    ++ set_pieces cell

-- the last two lines of a cell
abbrev pub last_pieces : List Piece
last_pieces = emit_pieces ++ after (line 0) (mark_text M.CloseBrace)

-- all lines of a cell
abbrev pub paired_pieces : List ℕ → ℕ → List Piece
paired_pieces messages cell = head_pieces cell ++ (flat_map (pair_pieces cell) messages ++ last_pieces)

-- the lines before the cells
abbrev pub first_pieces : List Piece
first_pieces =
    (array_pieces (source_of []) ++ setting_pieces (key_text K.Queues) 24)
    ++ flat_map message_pieces (map message_decl (below 24))

-- the pieces of the whole text
abbrev pub all_pieces : List ℕ → List Piece
all_pieces messages = first_pieces ++ flat_map (paired_pieces messages) (below 16)
