-- The depths of stacks and of loops at small trees.
use Rattle.std.proofs.Common.{◌≡◌, [], ◌∷◌, refl}
use Rattle.std.specs.Prelude.{codes}
use Rattle.sys_base.specs.declared.kinds.Op.TheVariants as O
use Rattle.cell_tree.specs.Depth.{stack_depth, statement_stack, statement_loops, cell_stack, cell_loops}
use Rattle.cell_tree.specs.declared.expression.Expr.{Expr}
use Rattle.cell_tree.specs.declared.expression.Expr.TheVariants as E
use Rattle.cell_tree.specs.declared.source.CellDecl.{CellDecl}
use Rattle.cell_tree.specs.declared.statement.Act.{Act}
use Rattle.cell_tree.specs.declared.statement.Act.TheVariants as A
use Rattle.cell_tree.specs.declared.statement.Stmt.{Stmt}
use Rattle.cell_tree.proofs.DepthSteps.{depth_rules}

-- the statement on some line
abbrev on : Act → Stmt
on act = record { line = 1; act = act }

abbrev x : Expr
x = E.Named (codes "x")

-- `x - x - x` needs room for two values, since the left operand is done first
left_first : stack_depth (E.Binary O.Sub (E.Binary O.Sub x x) x) ≡ 2
left_first = simp depth_rules

-- `x - (x - x)` needs room for three
right_waits : stack_depth (E.Binary O.Sub x (E.Binary O.Sub x x)) ≡ 3
right_waits = simp depth_rules

-- `a[-(x + 1)]` needs no more than `x + 1`
index_alone : stack_depth (E.At (codes "a") (E.Negate (E.Binary O.Add x (E.Number 1)))) ≡ 2
index_alone = simp depth_rules

-- `a[x + 1] = x;` keeps the index while the value is evaluated
index_waits : statement_stack (on (A.SetAt (codes "a") x (E.Binary O.Add x (E.Number 1)))) ≡ 3
index_waits = simp depth_rules

-- `take x;` evaluates nothing
no_value : statement_stack (on (A.Take (codes "x"))) ≡ 0
no_value = simp depth_rules

-- `for i 2 { for j 3 { emit x + 1; } }`
abbrev inside : Stmt
inside =
    on (A.For (codes "i") 2 (on (A.For (codes "j") 3 (on (A.Emit (E.Binary O.Add x (E.Number 1))) ∷ [])) ∷ []))

loops_inside : statement_loops inside ≡ 2
loops_inside = simp depth_rules

-- loops one after the other are not inside one another
loops_beside : statement_loops (on (A.If x (on (A.For (codes "i") 2 []) ∷ on (A.For (codes "j") 2 []) ∷ []) [])) ≡ 1
loops_beside = simp depth_rules

-- a cell whose test needs more than its statements, and whose second arm has the loops
abbrev cell : CellDecl
cell = record {
  place = record { row = 0; col = 0 };
  vars = [];
  body = on (A.Take (codes "x"))
      ∷ on (A.If (E.Binary O.Less x (E.Binary O.Mul x x)) (on (A.Emit x) ∷ []) (on (A.For (codes "k") 4 (inside ∷ [])) ∷ []))
      ∷ [];
  line = 1;
}

stack_of_cell : cell_stack cell ≡ 3
stack_of_cell = simp depth_rules

loops_of_cell : cell_loops cell ≡ 3
loops_of_cell = simp depth_rules

-- a cell with no statements
empty_stack : cell_stack (record cell { body = [] }) ≡ 0
empty_stack = refl

empty_loops : cell_loops (record cell { body = [] }) ≡ 0
empty_loops = refl
