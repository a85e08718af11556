-- Sources as plain data, with names as they are written: what the definitions of static faults are about.
use Rattle.std.specs.Prelude.{ℕ, List, [], ◌∷◌, map}
use Rattle.sys_base.specs.declared.kinds.Op.{Op}
use Rattle.cell_tree.specs.declared.expression.Expr.{Expr}
use Rattle.cell_tree.specs.declared.expression.Expr.TheFolds.{fold-Expr}
use Rattle.cell_tree.specs.declared.expression.Expr.TheOpen.{Expr-F}
use Rattle.cell_tree.specs.declared.source.CellDecl.{CellDecl}
use Rattle.cell_tree.specs.declared.source.LinkDecl.{LinkDecl}
use Rattle.cell_tree.specs.declared.source.MessageDecl.{MessageDecl}
use Rattle.cell_tree.specs.declared.source.Place.{Place}
use Rattle.cell_tree.specs.declared.source.Source.{Source}
use Rattle.cell_tree.specs.declared.source.VarDecl.{VarDecl}
use Rattle.cell_tree.specs.declared.statement.Act.TheFolds.{fold-Stmt}
use Rattle.cell_tree.specs.declared.statement.Act.TheOpen.{Act-F, Stmt-F}
use Rattle.cell_tree.specs.declared.statement.Stmt.{Stmt}

-- an expression
pub data WrittenExpression : Type 0 where
  Number : (number : ℕ) → WrittenExpression
  Named : (name : List ℕ) → WrittenExpression
  Element : (name : List ℕ) → (index : WrittenExpression) → WrittenExpression
  Negated : (operand : WrittenExpression) → WrittenExpression
  Applied : (op : Op) → (left right : WrittenExpression) → WrittenExpression

mutual
  -- what a statement does
  pub data WrittenAction : Type 0 where
    Set : (name : List ℕ) → (value : WrittenExpression) → WrittenAction
    SetAt : (name : List ℕ) → (index value : WrittenExpression) → WrittenAction
    Write : (message : List ℕ) → (value : WrittenExpression) → WrittenAction
    Read : (message name : List ℕ) → WrittenAction
    Take : (name : List ℕ) → WrittenAction
    Emit : (value : WrittenExpression) → WrittenAction
    For : (counter : List ℕ) → (turns : ℕ) → (body : WrittenBlock) → WrittenAction
    If : (test : WrittenExpression) → (first second : WrittenBlock) → WrittenAction

  -- statements one after another, each with its line
  pub data WrittenBlock : Type 0 where
    End : WrittenBlock
    Then : (line : ℕ) → (action : WrittenAction) → (rest : WrittenBlock) → WrittenBlock

-- a cell
pub record WrittenCell : Type 0 where
  pub place : Place
  pub vars : List VarDecl
  pub body : WrittenBlock
  pub line : ℕ

-- a whole source
pub record WrittenSource : Type 0 where
  pub rows : ℕ
  pub cols : ℕ
  pub array_line : ℕ
  pub queues : ℕ
  pub queues_line : ℕ
  pub buffer : ℕ
  pub buffer_line : ℕ
  pub links : List LinkDecl
  pub messages : List MessageDecl
  pub cells : List WrittenCell

-- one node of an expression, whose operands are plain data already
abbrev pub expression_step : Expr-F WrittenExpression → WrittenExpression
expression_step (Expr-F.Number n) = Number n
expression_step (Expr-F.Named name) = Named name
expression_step (Expr-F.At name index) = Element name index
expression_step (Expr-F.Negate operand) = Negated operand
expression_step (Expr-F.Binary op left right) = Applied op left right

-- an expression of the tree as plain data
abbrev pub written_expression : Expr → WrittenExpression
written_expression = fold-Expr WrittenExpression expression_step

-- a line and what the statement on it does
pub record WrittenStatement : Type 0 where
  pub line : ℕ
  pub act : WrittenAction

-- statements one after another
abbrev pub in_block : List WrittenStatement → WrittenBlock
in_block [] = End
in_block (s ∷ ss) = Then s.line s.act (in_block ss)

-- what one statement does, whose blocks' statements are plain data already
abbrev pub act_step : Act-F WrittenAction WrittenStatement → WrittenAction
act_step (Act-F.Set name value) = Set name (written_expression value)
act_step (Act-F.SetAt name index value) = SetAt name (written_expression index) (written_expression value)
act_step (Act-F.Write message value) = Write message (written_expression value)
act_step (Act-F.Read message name) = Read message name
act_step (Act-F.Take name) = Take name
act_step (Act-F.Emit value) = Emit (written_expression value)
act_step (Act-F.For counter turns body) = For counter turns (in_block body)
act_step (Act-F.If test first second) = If (written_expression test) (in_block first) (in_block second)

-- one statement
abbrev pub statement_step : Stmt-F WrittenAction WrittenStatement → WrittenStatement
statement_step s = record { line = s.line; act = s.act }

-- a statement of the tree as plain data
abbrev pub written_statement : Stmt → WrittenStatement
written_statement = fold-Stmt WrittenAction WrittenStatement act_step statement_step

-- statements of the tree as plain data
abbrev pub written_block : List Stmt → WrittenBlock
written_block statements = in_block (map written_statement statements)

-- a cell of the tree as plain data
abbrev pub written_cell : CellDecl → WrittenCell
written_cell cell = record { place = cell.place; vars = cell.vars; body = written_block cell.body; line = cell.line }

-- a source as plain data
abbrev pub written : Source → WrittenSource
written source =
    record {
      rows = source.rows;
      cols = source.cols;
      array_line = source.array_line;
      queues = source.queues;
      queues_line = source.queues_line;
      buffer = source.buffer;
      buffer_line = source.buffer_line;
      links = source.links;
      messages = source.messages;
      cells = map written_cell source.cells;
    }
