-- The binary operators and the levels of expressions.
use Rattle.std.specs.Prelude.{ℕ, Bool, List, nat_le}
use Rattle.sys_base.specs.declared.kinds.Op.{Op}
use Rattle.sys_base.specs.declared.kinds.Op.TheVariants as O
use Rattle.cell_lexer.specs.Forms.{mark_text}
use Rattle.cell_lexer.specs.declared.token.Mark.{Mark}
use Rattle.cell_lexer.specs.declared.token.Mark.TheVariants as M
use Rattle.cell_tree.specs.declared.level.Level.{Level}
use Rattle.cell_tree.specs.declared.level.Level.TheVariants.{Comparison, Sum, Product, Unary, Atom}

-- the mark of an operator
abbrev pub op_mark : Op → Mark
op_mark O.Add = M.Plus
op_mark O.Sub = M.Minus
op_mark O.Mul = M.Star
op_mark O.Div = M.Slash
op_mark O.Rem = M.Percent
op_mark O.Less = M.Less
op_mark O.AtMost = M.AtMost
op_mark O.Same = M.Same
op_mark O.Differ = M.Differ

-- how an operator is spelt
abbrev pub op_text : Op → List ℕ
op_text op = mark_text (op_mark op)

-- the level of what an operator makes
abbrev pub op_level : Op → Level
op_level O.Add = Sum
op_level O.Sub = Sum
op_level O.Mul = Product
op_level O.Div = Product
op_level O.Rem = Product
op_level O.Less = Comparison
op_level O.AtMost = Comparison
op_level O.Same = Comparison
op_level O.Differ = Comparison

-- how tightly a level binds
abbrev pub rank : Level → ℕ
rank Comparison = 0
rank Sum = 1
rank Product = 2
rank Unary = 3
rank Atom = 4

-- the loosest level that the left operand has without parentheses, for each level of operators (the last two have none)
abbrev pub left_of : Level → Level
left_of Comparison = Sum
left_of Sum = Sum
left_of Product = Product
left_of Unary = Atom
left_of Atom = Atom

-- the loosest level that the right or only operand has without parentheses, for each level of operators (the last has
-- none)
abbrev pub right_of : Level → Level
right_of Comparison = Sum
right_of Sum = Product
right_of Product = Unary
right_of Unary = Atom
right_of Atom = Atom

-- An expression of this level stands without parentheses where the other level is the loosest one.
abbrev pub fits : Level → Level → Bool
fits level loosest = nat_le (rank loosest) (rank level)
