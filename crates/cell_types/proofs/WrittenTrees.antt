-- Trees as plain data: their numbers, their stack, their loops and their size stay the same.
use Rattle.std.proofs.Common.{◌≡◌, ℕ, ◌+◌, ◌++◌, Option, Some, None, List, [], ◌∷◌, map, max, refl, sym, ap, ap₂, ◌∙◌, subst, arith}
use Rattle.std.proofs.lemmas.List.Sums.{sum_by-cons}
use Rattle.std.specs.List.{AllByRecursion, concat, flat_map, sum}
use Rattle.cell_tree.specs.Depth.{greatest, depth_step, stack_depth, act_stack, statement_stack, act_loops, statement_loops}
use Rattle.cell_tree.specs.Nodes.{nodes_step, expression_nodes, act_nodes, statement_nodes}
use Rattle.cell_tree.specs.Printable.{numbers_step, numbers_of, act_numbers, statement_numbers}
use Rattle.cell_tree.specs.declared.expression.Expr.{Expr, map-Expr, roll-Expr}
use Rattle.cell_tree.specs.declared.expression.Expr.TheFolds.{fold-roll-Expr, ind-Expr}
use Rattle.cell_tree.specs.declared.expression.Expr.TheOpen.{Expr-F}
use Rattle.cell_tree.specs.declared.statement.Act.{Act}
use Rattle.cell_tree.specs.declared.statement.Act.TheFolds.{fold-Act, fold-roll-Stmt, fold-roll-Act, ind-Stmt, map-Act, map-Stmt}
use Rattle.cell_tree.specs.declared.statement.Act.TheOpen.{Act-F, Stmt-F}
use Rattle.cell_tree.specs.declared.statement.Act.TheViews.{roll-Stmt, roll-Act}
use Rattle.cell_tree.specs.declared.statement.Stmt.{Stmt}
use Rattle.cell_types.specs.Cost.{expression_cost}
use Rattle.cell_types.specs.Depth.{expression_stack, action_stack, block_stack, action_loops, block_loops}
use Rattle.cell_types.specs.Names.{Scope, Meaning, MessageAt, VariableAt, ArrayAt, CounterAt, meaning, inside_loop}
use Rattle.cell_types.specs.Resolved.{value_meant, resolved_expression, resolved_action, resolved_block}
use Rattle.cell_types.specs.Size.{action_size, block_size}
use Rattle.cell_types.specs.Written.{WrittenExpression, WrittenAction, WrittenStatement, WrittenBlock, expression_step, written_expression, act_step, statement_step, written_statement, written_block}
use Rattle.cell_types.proofs.WrittenNumbers.{expression_numbers, action_numbers, block_numbers}

-- What is written has these numbers, and such a stack and size whatever its names mean.
pub record Keeps (w : WrittenExpression) (stack size : ℕ) (numbers : List ℕ) : Type 0 where
  pub in_stack : (scope : Scope) → expression_stack (resolved_expression scope w) ≡ stack
  pub in_size : (scope : Scope) → expression_cost (resolved_expression scope w) ≡ size
  pub in_numbers : expression_numbers w ≡ numbers

-- An expression keeps its numbers, its stack and its size.
abbrev KeepsExpression : Expr → Type 0
KeepsExpression e = Keeps (written_expression e) (stack_depth e) (expression_nodes e) (numbers_of e)

-- what holds of one layer holds of the expression
close : (x : Expr-F Expr)
    → Keeps (expression_step (map-Expr Expr WrittenExpression written_expression x)) (depth_step (map-Expr Expr ℕ stack_depth x))
    (nodes_step (map-Expr Expr ℕ expression_nodes x)) (numbers_step (map-Expr Expr (List ℕ) numbers_of x))
    → KeepsExpression (roll-Expr x)
close x h =
    let w = fold-roll-Expr WrittenExpression expression_step x in
    record {
      in_stack = λ scope. ap (λ v. expression_stack (resolved_expression scope v)) w ∙ h.in_stack scope ∙ sym (fold-roll-Expr ℕ depth_step x);
      in_size = λ scope. ap (λ v. expression_cost (resolved_expression scope v)) w ∙ h.in_size scope ∙ sym (fold-roll-Expr ℕ nodes_step x);
      in_numbers = ap expression_numbers w ∙ h.in_numbers ∙ sym (fold-roll-Expr (List ℕ) numbers_step x);
    }

-- a value needs one word, whatever it is
value_stack : (o : Option Meaning) → expression_stack (value_meant o) ≡ 1
value_stack None = refl
value_stack (Some (MessageAt index)) = refl
value_stack (Some (VariableAt offset)) = refl
value_stack (Some (ArrayAt base len)) = refl
value_stack (Some (CounterAt depth)) = refl

-- and it is one node
value_size : (o : Option Meaning) → expression_cost (value_meant o) ≡ 1
value_size None = refl
value_size (Some (MessageAt index)) = refl
value_size (Some (VariableAt offset)) = refl
value_size (Some (ArrayAt base len)) = refl
value_size (Some (CounterAt depth)) = refl

-- each form of expression, over the facts of its operands
layer : (y : Expr-F ((e : Expr) × KeepsExpression e))
    → KeepsExpression (roll-Expr (map-Expr ((e : Expr) × KeepsExpression e) Expr (λ e. e.0) y))
layer (Expr-F.Number n) =
    close (Expr-F.Number n) (record { in_stack = λ scope. refl; in_size = λ scope. refl; in_numbers = refl })
layer (Expr-F.Named n) =
    close (Expr-F.Named n) (record {
      in_stack = λ scope. value_stack (meaning scope n);
      in_size = λ scope. value_size (meaning scope n);
      in_numbers = refl;
    })
layer (Expr-F.At n e) =
    close (Expr-F.At n e.0) (record {
      in_stack = e.1.in_stack;
      in_size = λ scope. omega (arith, e.1.in_size scope);
      in_numbers = e.1.in_numbers;
    })
layer (Expr-F.Negate e) =
    close (Expr-F.Negate e.0) (record {
      in_stack = e.1.in_stack;
      in_size = λ scope. omega (arith, e.1.in_size scope);
      in_numbers = e.1.in_numbers;
    })
layer (Expr-F.Binary op e f) =
    close (Expr-F.Binary op e.0 f.0) (record {
      in_stack = λ scope. ap₂ (λ m n. max m (1 + n)) (e.1.in_stack scope) (f.1.in_stack scope);
      in_size = λ scope. omega (arith, e.1.in_size scope, f.1.in_size scope);
      in_numbers = ap₂ (λ k l. k ++ l) e.1.in_numbers f.1.in_numbers;
    })

-- an expression keeps its numbers, the depth of its stack and its size
expression_keeps : (e : Expr) → KeepsExpression e
expression_keeps = ind-Expr KeepsExpression (λ x y is. subst (λ (z : Expr-F Expr). KeepsExpression (roll-Expr z)) is (layer y))

-- what a statement of the tree does, as plain data, and its depths and numbers
abbrev written_act : Act → WrittenAction
written_act = fold-Act WrittenAction WrittenStatement act_step statement_step

-- the depth of the stack that it needs
abbrev stack_in : Act → ℕ
stack_in = fold-Act ℕ ℕ act_stack (λ statement. statement.act)

-- how many loops stand inside one another in it
abbrev loops_in : Act → ℕ
loops_in = fold-Act ℕ ℕ act_loops (λ statement. statement.act)

-- its size
abbrev size_in : Act → ℕ
size_in = fold-Act ℕ ℕ act_nodes (λ statement. statement.act)

-- the numbers in it
abbrev numbers_in : Act → List ℕ
numbers_in = fold-Act (List ℕ) (List ℕ) act_numbers (λ statement. statement.act)

-- What is done has these numbers, and such a stack, size and so many loops inside one another whatever its names mean.
record ActKeeps (w : WrittenAction) (stack loops size : ℕ) (numbers : List ℕ) : Type 0 where
  in_stack : (scope : Scope) → action_stack (resolved_action scope w) ≡ stack
  in_loops : (scope : Scope) → action_loops (resolved_action scope w) ≡ loops
  in_size : (scope : Scope) → action_size (resolved_action scope w) ≡ size
  in_numbers : action_numbers w ≡ numbers

-- The same for some statements.
pub record BlockKeeps (w : WrittenBlock) (stack loops size : ℕ) (numbers : List ℕ) : Type 0 where
  pub in_stack : (scope : Scope) → block_stack (resolved_block scope w) ≡ stack
  pub in_loops : (scope : Scope) → block_loops (resolved_block scope w) ≡ loops
  pub in_size : (scope : Scope) → block_size (resolved_block scope w) ≡ size
  pub in_numbers : block_numbers w ≡ numbers

-- What a statement does keeps its numbers, its stack, its loops and its size.
abbrev KeepsAct : Act → Type 0
KeepsAct a = ActKeeps (written_act a) (stack_in a) (loops_in a) (size_in a) (numbers_in a)

-- So does a statement.
abbrev KeepsStatement : Stmt → Type 0
KeepsStatement s =
    ActKeeps (written_statement s).act (statement_stack s) (statement_loops s) (statement_nodes s) (statement_numbers s)

-- what is done, and that it keeps them
abbrev ActFact : Type 0
ActFact = (a : Act) × KeepsAct a

-- a statement that keeps them
abbrev StatementFact : Type 0
StatementFact = (s : Stmt) × KeepsStatement s

-- the statements without the facts
abbrev kept : List StatementFact → List Stmt
kept items = map (λ (e : StatementFact). e.0) items

-- Statements one after another keep them.
abbrev KeepsBlock : List Stmt → Type 0
KeepsBlock b =
    BlockKeeps (written_block b) (greatest (map statement_stack b)) (greatest (map statement_loops b))
    (sum (map statement_nodes b)) (concat (map statement_numbers b))

-- statements that keep these, one after another
body_keeps : (b : List Stmt) → AllByRecursion KeepsStatement b → KeepsBlock b
body_keeps [] h =
    record { in_stack = λ scope. refl; in_loops = λ scope. refl; in_size = λ scope. refl; in_numbers = refl }
body_keeps (s ∷ b) h =
    let rest : KeepsBlock b = body_keeps b h.1 in
    let here : KeepsStatement s = h.0 in
    record {
      in_stack = λ scope. ap₂ (λ m n. max m n) (here.in_stack scope) (rest.in_stack scope);
      in_loops = λ scope. ap₂ (λ m n. max m n) (here.in_loops scope) (rest.in_loops scope);
      in_size = λ scope. ap₂ (λ m n. m + n) (here.in_size scope) (rest.in_size scope)
          ∙ sym (sum_by-cons (λ n. n) (statement_nodes s) (map statement_nodes b));
      in_numbers = ap₂ (λ k l. k ++ l) here.in_numbers rest.in_numbers;
    }

-- the facts without the statements
facts : (items : List StatementFact) → AllByRecursion KeepsStatement (kept items)
facts [] = tt
facts (e ∷ items) = (e.1, facts items)

-- what holds of one layer holds of what a statement does
close_act : (x : Act-F Act Stmt)
    → ActKeeps (act_step (map-Act Act Stmt WrittenAction WrittenStatement written_act written_statement x))
    (act_stack (map-Act Act Stmt ℕ ℕ stack_in statement_stack x)) (act_loops (map-Act Act Stmt ℕ ℕ loops_in statement_loops x))
    (act_nodes (map-Act Act Stmt ℕ ℕ size_in statement_nodes x))
    (act_numbers (map-Act Act Stmt (List ℕ) (List ℕ) numbers_in statement_numbers x))
    → KeepsAct (roll-Act x)
close_act x h =
    let w = fold-roll-Act WrittenAction WrittenStatement act_step statement_step x in
    record {
      in_stack = λ scope. ap (λ v. action_stack (resolved_action scope v)) w ∙ h.in_stack scope
          ∙ sym (fold-roll-Act ℕ ℕ act_stack (λ statement. statement.act) x);
      in_loops = λ scope. ap (λ v. action_loops (resolved_action scope v)) w ∙ h.in_loops scope
          ∙ sym (fold-roll-Act ℕ ℕ act_loops (λ statement. statement.act) x);
      in_size = λ scope. ap (λ v. action_size (resolved_action scope v)) w ∙ h.in_size scope
          ∙ sym (fold-roll-Act ℕ ℕ act_nodes (λ statement. statement.act) x);
      in_numbers = ap action_numbers w ∙ h.in_numbers
          ∙ sym (fold-roll-Act (List ℕ) (List ℕ) act_numbers (λ statement. statement.act) x);
    }

-- what is done with the value of an expression, and counts as one more than it
one_value : (w : WrittenAction) (e : Expr) → ((scope : Scope) → action_stack (resolved_action scope w) ≡ expression_stack (resolved_expression scope (written_expression e)))
    → ((scope : Scope) → action_loops (resolved_action scope w) ≡ 0)
    → ((scope : Scope) → action_size (resolved_action scope w) ≡ expression_cost (resolved_expression scope (written_expression e)) + 1)
    → action_numbers w ≡ expression_numbers (written_expression e)
    → ActKeeps w (stack_depth e) 0 (1 + expression_nodes e) (numbers_of e)
one_value w e stack loops size numbers =
    let k : KeepsExpression e = expression_keeps e in
    record {
      in_stack = λ scope. stack scope ∙ k.in_stack scope;
      in_loops = loops;
      in_size = λ scope. omega (arith, size scope, k.in_size scope);
      in_numbers = numbers ∙ k.in_numbers;
    }

-- each form of what a statement does, over the facts of what stands in it
act_layer : (y : Act-F ActFact StatementFact)
    → KeepsAct (roll-Act (map-Act ActFact StatementFact Act Stmt (λ e. e.0) (λ e. e.0) y))
act_layer (Act-F.Set n e) =
    close_act (Act-F.Set n e) (one_value _ e (λ scope. refl) (λ scope. refl) (λ scope. refl) refl)
act_layer (Act-F.SetAt n e f) =
    let i : KeepsExpression e = expression_keeps e in
    let v : KeepsExpression f = expression_keeps f in
    close_act (Act-F.SetAt n e f)
    (record {
      in_stack = λ scope. ap₂ (λ m n. max m (1 + n)) (i.in_stack scope) (v.in_stack scope);
      in_loops = λ scope. refl;
      in_size = λ scope. omega (arith, i.in_size scope, v.in_size scope);
      in_numbers = ap₂ (λ k l. k ++ l) i.in_numbers v.in_numbers;
    })
act_layer (Act-F.Write m e) =
    close_act (Act-F.Write m e) (one_value _ e (λ scope. refl) (λ scope. refl) (λ scope. refl) refl)
act_layer (Act-F.Read m n) = close_act (Act-F.Read m n)
    (record { in_stack = λ scope. refl; in_loops = λ scope. refl; in_size = λ scope. refl; in_numbers = refl })
act_layer (Act-F.Take n) = close_act (Act-F.Take n)
    (record { in_stack = λ scope. refl; in_loops = λ scope. refl; in_size = λ scope. refl; in_numbers = refl })
act_layer (Act-F.Emit e) =
    close_act (Act-F.Emit e) (one_value _ e (λ scope. refl) (λ scope. refl) (λ scope. refl) refl)
act_layer (Act-F.For c n b) =
    let body : KeepsBlock (kept b) = body_keeps (kept b) (facts b) in
    close_act (Act-F.For c n (kept b))
    (record {
      in_stack = λ scope. body.in_stack (inside_loop c scope);
      in_loops = λ scope. ap (λ n. 1 + n) (body.in_loops (inside_loop c scope));
      in_size = λ scope. ap (λ n. 2 + n) (body.in_size (inside_loop c scope));
      in_numbers = ap (λ l. n ∷ l) body.in_numbers;
    })
act_layer (Act-F.If e b c) =
    let test : KeepsExpression e = expression_keeps e in
    let first : KeepsBlock (kept b) = body_keeps (kept b) (facts b) in
    let second : KeepsBlock (kept c) = body_keeps (kept c) (facts c) in
    close_act (Act-F.If e (kept b) (kept c))
    (record {
      in_stack = λ scope. ap₂ (λ m n. max m n) (test.in_stack scope)
          (ap₂ (λ m n. max m n) (first.in_stack scope) (second.in_stack scope));
      in_loops = λ scope. ap₂ (λ m n. max m n) (first.in_loops scope) (second.in_loops scope);
      in_size = λ scope. omega (arith, test.in_size scope, first.in_size scope, second.in_size scope);
      in_numbers = ap₂ (λ k l. k ++ l) (ap₂ (λ k l. k ++ l) test.in_numbers first.in_numbers) second.in_numbers;
    })

-- a statement, over the fact of what it does
statement_layer : (y : Stmt-F ActFact StatementFact)
    → KeepsStatement (roll-Stmt (map-Stmt ActFact StatementFact Act Stmt (λ e. e.0) (λ e. e.0) y))
statement_layer y =
    let x : Stmt-F Act Stmt = map-Stmt ActFact StatementFact Act Stmt (λ e. e.0) (λ e. e.0) y in
    let w = ap (λ (v : WrittenStatement). v.act) (fold-roll-Stmt WrittenAction WrittenStatement act_step statement_step x) in
    let h : KeepsAct x.act = y.act.1 in
    record {
      in_stack = λ scope. ap (λ v. action_stack (resolved_action scope v)) w ∙ h.in_stack scope
          ∙ sym (fold-roll-Stmt ℕ ℕ act_stack (λ statement. statement.act) x);
      in_loops = λ scope. ap (λ v. action_loops (resolved_action scope v)) w ∙ h.in_loops scope
          ∙ sym (fold-roll-Stmt ℕ ℕ act_loops (λ statement. statement.act) x);
      in_size = λ scope. ap (λ v. action_size (resolved_action scope v)) w ∙ h.in_size scope
          ∙ sym (fold-roll-Stmt ℕ ℕ act_nodes (λ statement. statement.act) x);
      in_numbers = ap action_numbers w ∙ h.in_numbers
          ∙ sym (fold-roll-Stmt (List ℕ) (List ℕ) act_numbers (λ statement. statement.act) x);
    }

-- each statement keeps its numbers, its stack, its loops and its size
statement_keeps : (s : Stmt) → KeepsStatement s
statement_keeps = ind-Stmt KeepsAct KeepsStatement
    (λ x y is. subst (λ (z : Act-F Act Stmt). KeepsAct (roll-Act z)) is (act_layer y))
    (λ x y is. subst (λ (z : Stmt-F Act Stmt). KeepsStatement (roll-Stmt z)) is (statement_layer y))

-- and so do all of a list
all_keep : (b : List Stmt) → AllByRecursion KeepsStatement b
all_keep [] = tt
all_keep (s ∷ b) = (statement_keeps s, all_keep b)

-- the two ways of joining numbers
joined : (b : List Stmt) → concat (map statement_numbers b) ≡ flat_map statement_numbers b
joined [] = refl
joined (s ∷ b) = ap (λ l. statement_numbers s ++ l) (joined b)

-- the statements of a cell keep their numbers, the depth of their stack and of their loops, and their size
pub block_keeps : (b : List Stmt)
    → BlockKeeps (written_block b) (greatest (map statement_stack b)) (greatest (map statement_loops b))
    (sum (map statement_nodes b)) (flat_map statement_numbers b)
block_keeps b =
    let all : KeepsBlock b = body_keeps b (all_keep b) in
    record { in_stack = all.in_stack; in_loops = all.in_loops; in_size = all.in_size; in_numbers = all.in_numbers ∙ joined b }
