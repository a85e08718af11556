-- The canonical text of a source as words, each with the white space before it.
use Rattle.std.specs.Prelude.{ℕ, ◌+◌, ◌==◌, List, [], ◌∷◌, ◌++◌, codes, Option, Some, None, if◌then◌else◌}
use Rattle.std.specs.List.{flat_map}
use Rattle.std.specs.Fmt.{decimal}
use Rattle.sys_base.specs.Key.{key_text}
use Rattle.sys_base.specs.declared.key.Key.{Key}
use Rattle.sys_base.specs.declared.key.Key.TheVariants as K
use Rattle.sys_base.specs.declared.kinds.Dir.{Dir}
use Rattle.cell_lexer.specs.Forms.{mark_text}
use Rattle.cell_lexer.specs.declared.token.Mark.TheVariants as M
use Rattle.cell_tree.specs.Canonical.{dir_text}
use Rattle.cell_tree.specs.Operator.{op_mark, op_level, left_of, right_of, fits}
use Rattle.cell_tree.specs.Pieces.{Piece, none, space, line}
use Rattle.cell_tree.specs.declared.expression.Expr.{Expr}
use Rattle.cell_tree.specs.declared.expression.Expr.TheFolds.{fold-Expr}
use Rattle.cell_tree.specs.declared.expression.Expr.TheOpen.{Expr-F}
use Rattle.cell_tree.specs.declared.level.Level.{Level}
use Rattle.cell_tree.specs.declared.level.Level.TheVariants.{Unary, Atom}
use Rattle.cell_tree.specs.declared.source.CellDecl.{CellDecl}
use Rattle.cell_tree.specs.declared.source.LinkDecl.{LinkDecl}
use Rattle.cell_tree.specs.declared.source.MessageDecl.{MessageDecl}
use Rattle.cell_tree.specs.declared.source.Place.{Place}
use Rattle.cell_tree.specs.declared.source.Source.{Source}
use Rattle.cell_tree.specs.declared.source.VarDecl.{VarDecl}
use Rattle.cell_tree.specs.declared.statement.Act.TheFolds.{fold-Stmt}
use Rattle.cell_tree.specs.declared.statement.Act.TheOpen.{Act-F, Stmt-F}
use Rattle.cell_tree.specs.declared.statement.Stmt.{Stmt}
use Rattle.cell_parser.specs.Lexeme.{Word, Named, Numeral, Keyword, Marked}

-- a word and the white space before it
pub data Told : Type 0 where
  Tell : List ℕ → Word → Told

-- how a word is spelt
abbrev pub spelling : Word → List ℕ
spelling (Named name) = name
spelling (Numeral n) = decimal n
spelling (Keyword key) = key_text key
spelling (Marked mark) = mark_text mark

-- the word alone
abbrev pub told_word : Told → Word
told_word (Tell gap word) = word

-- the piece of a text that a word is
abbrev pub told_piece : Told → Piece
told_piece (Tell gap word) = record { gap = gap; word = spelling word }

-- one word after this white space
abbrev pub tell : List ℕ → Word → List Told
tell gap word = Tell gap word ∷ []

-- some words in brackets
abbrev pub in_brackets : List Told → List Told
in_brackets inner = tell none (Marked M.OpenBracket) ++ inner ++ tell none (Marked M.CloseBracket)

-- an expression's level, and its words after given white space
pub record Voiced : Type 0 where
  pub level : Level
  pub words : List ℕ → List Told

-- the words of an operand, in parentheses unless it fits the loosest level that stands there without
abbrev pub at_most : Level → Voiced → List ℕ → List Told
at_most loosest e gap =
    if fits e.level loosest then e.words gap
    else (tell gap (Marked M.OpenParen) ++ e.words none ++ tell none (Marked M.CloseParen))

-- the level of one node
abbrev pub level_told : Expr-F Voiced → Level
level_told (Expr-F.Number n) = Atom
level_told (Expr-F.Named name) = Atom
level_told (Expr-F.At name index) = Atom
level_told (Expr-F.Negate e) = Unary
level_told (Expr-F.Binary op left right) = op_level op

-- the words of one node, whose operands are already voiced
abbrev pub words_told : Expr-F Voiced → List ℕ → List Told
words_told (Expr-F.Number n) gap = tell gap (Numeral n)
words_told (Expr-F.Named name) gap = tell gap (Named name)
words_told (Expr-F.At name index) gap = tell gap (Named name) ++ in_brackets (index.words none)
words_told (Expr-F.Negate e) gap = tell gap (Marked M.Minus) ++ at_most (right_of Unary) e none
words_told (Expr-F.Binary op left right) gap =
    at_most (left_of (op_level op)) left gap ++ tell space (Marked (op_mark op))
    ++ at_most (right_of (op_level op)) right space

-- one node, whose operands are already voiced
abbrev pub voice_step : Expr-F Voiced → Voiced
voice_step e = record { level = level_told e; words = words_told e }

-- how an expression is voiced
abbrev pub voiced : Expr → Voiced
voiced = fold-Expr Voiced voice_step

-- the words of a whole expression after this white space
abbrev pub tell_expression : List ℕ → Expr → List Told
tell_expression gap e = (voiced e).words gap

-- the words of a statement inside this many open blocks
abbrev pub Uttered : Type 0
Uttered = ℕ → List Told

-- the words of a block that is inside this many others
abbrev pub tell_block : List Uttered → ℕ → List Told
tell_block body depth =
    tell space (Marked M.OpenBrace) ++ flat_map (λ uttered. uttered (depth + 1)) body
    ++ tell (line depth) (Marked M.CloseBrace)

-- the words of a `for` line before its brace
abbrev pub tell_for : List ℕ → ℕ → ℕ → List Told
tell_for counter turns depth = tell (line depth) (Keyword K.For) ++ tell space (Named counter)
    ++ tell space (Numeral turns)

-- the words of an `if` line before its brace
abbrev pub tell_if : Expr → ℕ → List Told
tell_if test depth = tell (line depth) (Keyword K.If) ++ tell_expression space test

-- the words of one statement, whose blocks' statements are already told
abbrev pub tell_act : Act-F Uttered Uttered → Uttered
tell_act (Act-F.Set name value) depth =
    tell (line depth) (Named name) ++ tell space (Marked M.Assign) ++ tell_expression space value
    ++ tell none (Marked M.Semicolon)
tell_act (Act-F.SetAt name index value) depth =
    tell (line depth) (Named name) ++ in_brackets (tell_expression none index) ++ tell space (Marked M.Assign)
    ++ tell_expression space value ++ tell none (Marked M.Semicolon)
tell_act (Act-F.Write message value) depth =
    tell (line depth) (Keyword K.Write) ++ tell space (Named message) ++ tell_expression space value
    ++ tell none (Marked M.Semicolon)
tell_act (Act-F.Read message name) depth =
    tell (line depth) (Keyword K.Read) ++ tell space (Named message) ++ tell space (Named name)
    ++ tell none (Marked M.Semicolon)
tell_act (Act-F.Take name) depth =
    tell (line depth) (Keyword K.Take) ++ tell space (Named name) ++ tell none (Marked M.Semicolon)
tell_act (Act-F.Emit value) depth =
    tell (line depth) (Keyword K.Emit) ++ tell_expression space value ++ tell none (Marked M.Semicolon)
tell_act (Act-F.For counter turns body) depth =
    tell_for counter turns depth ++ tell_block body depth
tell_act (Act-F.If test first second) depth =
    tell_if test depth ++ tell_block first depth ++ tell space (Keyword K.Else) ++ tell_block second depth

-- a statement is told as what it does
abbrev pub tell_step : Stmt-F Uttered Uttered → Uttered
tell_step statement = statement.act

-- the words of a statement inside this many open blocks
abbrev pub tell_statement : Stmt → Uttered
tell_statement = fold-Stmt Uttered Uttered tell_act tell_step

-- the words of a place
abbrev pub tell_place : Place → List Told
tell_place place = tell space (Numeral place.row) ++ tell none (Marked M.Dot) ++ tell none (Numeral place.col)

-- the words of the `array` line
abbrev pub tell_array : Source → List Told
tell_array source =
    tell none (Keyword K.Array) ++ tell space (Numeral source.rows) ++ tell space (Named (codes "x"))
    ++ tell space (Numeral source.cols) ++ tell none (Marked M.Semicolon)

-- the words of a line that gives one number
abbrev pub tell_setting : Key → ℕ → List Told
tell_setting key number = tell (line 0) (Keyword key) ++ tell space (Numeral number) ++ tell none (Marked M.Semicolon)

-- the words of the `buffer` line, which stands exactly where the buffer is not 0
abbrev pub tell_buffer : ℕ → List Told
tell_buffer buffer = if buffer == 0 then [] else tell_setting K.Buffer buffer

-- the words of the lines that are no list
abbrev pub tell_settings : Source → List Told
tell_settings source = tell_array source ++ tell_setting K.Queues source.queues ++ tell_buffer source.buffer

-- the word of a direction
abbrev pub tell_dir : Dir → List Told
tell_dir dir = tell space (Named (dir_text dir))

-- the words of a `link` line
abbrev pub tell_link : LinkDecl → List Told
tell_link link =
    tell (line 0) (Keyword K.Link) ++ tell_place link.place ++ tell_dir link.dir
    ++ tell space (Keyword K.Queues) ++ tell space (Numeral link.queues) ++ tell none (Marked M.Semicolon)

-- the words of a route, where one is given
abbrev pub tell_route : List Dir → List Told
tell_route [] = []
tell_route dirs = tell space (Keyword K.Route) ++ flat_map tell_dir dirs

-- the words of a label, where one is given
abbrev pub tell_label : Option ℕ → List Told
tell_label None = []
tell_label (Some label) = tell space (Keyword K.Label) ++ tell space (Numeral label)

-- the words of a message's sender and receiver
abbrev pub tell_ends : MessageDecl → List Told
tell_ends message =
    tell space (Keyword K.From) ++ tell_place message.from ++ tell space (Keyword K.To) ++ tell_place message.to

-- the words of a `message` line
abbrev pub tell_message : MessageDecl → List Told
tell_message message =
    tell (line 0) (Keyword K.Message) ++ tell space (Named message.name) ++ tell_ends message
    ++ tell_route message.route ++ tell_label message.label ++ tell none (Marked M.Semicolon)

-- the words of an array's length, where there is one
abbrev pub tell_length : Option ℕ → List Told
tell_length None = []
tell_length (Some length) = in_brackets (tell none (Numeral length))

-- the words of a `var` line
abbrev pub tell_var : VarDecl → List Told
tell_var variable =
    tell (line 1) (Keyword K.Var) ++ tell space (Named variable.name) ++ tell_length variable.length
    ++ tell none (Marked M.Semicolon)

-- the words of a cell's contents
abbrev pub tell_contents : CellDecl → List Told
tell_contents cell = flat_map tell_var cell.vars ++ flat_map (λ statement. tell_statement statement 1) cell.body

-- the words of a cell
abbrev pub tell_cell : CellDecl → List Told
tell_cell cell =
    tell (line 0) (Keyword K.Cell) ++ tell_place cell.place ++ tell space (Marked M.OpenBrace) ++ tell_contents cell
    ++ tell (line 0) (Marked M.CloseBrace)

-- the words of the canonical text, each with the white space before it
abbrev pub told : Source → List Told
told source =
    tell_settings source ++ flat_map tell_link source.links ++ flat_map tell_message source.messages
    ++ flat_map tell_cell source.cells
