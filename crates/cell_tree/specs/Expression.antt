-- The canonical text of expressions.
use Rattle.std.specs.Prelude.{ℕ, List, ◌++◌, if◌then◌else◌}
use Rattle.std.specs.Fmt.{decimal}
use Rattle.cell_lexer.specs.Forms.{mark_text}
use Rattle.cell_lexer.specs.declared.token.Mark.TheVariants as M
use Rattle.cell_tree.specs.Operator.{op_text, op_level, left_of, right_of, fits}
use Rattle.cell_tree.specs.Pieces.{Piece, after, none, space, bracketed}
use Rattle.cell_tree.specs.declared.expression.Expr.{Expr}
use Rattle.cell_tree.specs.declared.expression.Expr.TheFolds.{fold-Expr}
use Rattle.cell_tree.specs.declared.expression.Expr.TheOpen.{Expr-F}
use Rattle.cell_tree.specs.declared.level.Level.{Level}
use Rattle.cell_tree.specs.declared.level.Level.TheVariants.{Unary, Atom}

-- an expression's level, and its pieces after given white space
pub record Spelt : Type 0 where
  pub level : Level
  pub pieces : List ℕ → List Piece

-- the pieces of an operand, in parentheses unless it fits the loosest level that stands there without
abbrev pub at_level : Level → Spelt → List ℕ → List Piece
at_level loosest e gap =
    if fits e.level loosest then e.pieces gap
    else (after gap (mark_text M.OpenParen) ++ e.pieces none ++ after none (mark_text M.CloseParen))

-- the level of one node
abbrev pub level_step : Expr-F Spelt → Level
level_step (Expr-F.Number n) = Atom
level_step (Expr-F.Named name) = Atom
level_step (Expr-F.At name index) = Atom
level_step (Expr-F.Negate e) = Unary
level_step (Expr-F.Binary op left right) = op_level op

-- the pieces of one node, whose operands are already spelt
abbrev pub pieces_step : Expr-F Spelt → List ℕ → List Piece
pieces_step (Expr-F.Number n) gap = after gap (decimal n)
pieces_step (Expr-F.Named name) gap = after gap name
pieces_step (Expr-F.At name index) gap =
    after gap name ++ bracketed (index.pieces none)
pieces_step (Expr-F.Negate e) gap = after gap (mark_text M.Minus) ++ at_level (right_of Unary) e none
pieces_step (Expr-F.Binary op left right) gap =
    at_level (left_of (op_level op)) left gap ++ after space (op_text op)
    ++ at_level (right_of (op_level op)) right space

-- one node, whose operands are already spelt
abbrev pub spell_step : Expr-F Spelt → Spelt
spell_step e = record { level = level_step e; pieces = pieces_step e }

-- how an expression is spelt
abbrev pub spelt : Expr → Spelt
spelt = fold-Expr Spelt spell_step

-- the pieces of a whole expression after this white space
abbrev pub expression_pieces : List ℕ → Expr → List Piece
expression_pieces gap e = (spelt e).pieces gap
