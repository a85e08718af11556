-- The canonical text of statements.
use Rattle.std.specs.Prelude.{ℕ, ◌+◌, List, ◌++◌}
use Rattle.std.specs.List.{flat_map}
use Rattle.std.specs.Fmt.{decimal}
use Rattle.sys_base.specs.Key.{key_text}
use Rattle.sys_base.specs.declared.key.Key.TheVariants as K
use Rattle.cell_lexer.specs.Forms.{mark_text}
use Rattle.cell_lexer.specs.declared.token.Mark.TheVariants as M
use Rattle.cell_tree.specs.Expression.{expression_pieces}
use Rattle.cell_tree.specs.Pieces.{Piece, after, none, space, bracketed, line}
use Rattle.cell_tree.specs.declared.expression.Expr.{Expr}
use Rattle.cell_tree.specs.declared.statement.Act.TheFolds.{fold-Stmt}
use Rattle.cell_tree.specs.declared.statement.Act.TheOpen.{Act-F, Stmt-F}
use Rattle.cell_tree.specs.declared.statement.Stmt.{Stmt}

-- the pieces of a statement inside this many open blocks
abbrev pub Printed : Type 0
Printed = ℕ → List Piece

-- the pieces of a block that is inside this many others: its brace, its statements one level deeper, and its end on a
-- line of its own
abbrev pub block : List Printed → ℕ → List Piece
block body depth =
    after space (mark_text M.OpenBrace) ++ flat_map (λ printed. printed (depth + 1)) body
    ++ after (line depth) (mark_text M.CloseBrace)

-- the pieces of a `for` line before its brace
abbrev pub for_pieces : List ℕ → ℕ → ℕ → List Piece
for_pieces counter turns depth = after (line depth) (key_text K.For) ++ after space counter
    ++ after space (decimal turns)

-- the pieces of an `if` line before its brace
abbrev pub if_pieces : Expr → ℕ → List Piece
if_pieces test depth = after (line depth) (key_text K.If) ++ expression_pieces space test

-- the pieces of one statement, whose blocks' statements are already printed
abbrev pub act_step : Act-F Printed Printed → Printed
act_step (Act-F.Set name value) depth =
    after (line depth) name ++ after space (mark_text M.Assign) ++ expression_pieces space value
    ++ after none (mark_text M.Semicolon)
act_step (Act-F.SetAt name index value) depth =
    after (line depth) name ++ bracketed (expression_pieces none index) ++ after space (mark_text M.Assign)
    ++ expression_pieces space value ++ after none (mark_text M.Semicolon)
act_step (Act-F.Write message value) depth =
    after (line depth) (key_text K.Write) ++ after space message ++ expression_pieces space value
    ++ after none (mark_text M.Semicolon)
act_step (Act-F.Read message name) depth =
    after (line depth) (key_text K.Read) ++ after space message ++ after space name
    ++ after none (mark_text M.Semicolon)
act_step (Act-F.Take name) depth =
    after (line depth) (key_text K.Take) ++ after space name ++ after none (mark_text M.Semicolon)
act_step (Act-F.Emit value) depth =
    after (line depth) (key_text K.Emit) ++ expression_pieces space value ++ after none (mark_text M.Semicolon)
act_step (Act-F.For counter turns body) depth =
    for_pieces counter turns depth ++ block body depth
act_step (Act-F.If test first second) depth =
    if_pieces test depth ++ block first depth ++ after space (key_text K.Else) ++ block second depth

-- a statement is printed as what it does: its line is no part of the text
abbrev pub statement_step : Stmt-F Printed Printed → Printed
statement_step statement = statement.act

-- the pieces of a statement inside this many open blocks
abbrev pub statement_pieces : Stmt → Printed
statement_pieces = fold-Stmt Printed Printed act_step statement_step
