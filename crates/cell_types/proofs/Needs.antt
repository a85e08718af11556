-- What statements need, one behind another: the deepest stack, the most loops inside one another, and their cost.
use Rattle.std.proofs.Common.{◌≡◌, ◌≤◌, ◌+◌, max, List, [], ◌∷◌, ◌++◌, sym, ap, ◌∙◌, arith}
use Rattle.cell_tree.specs.declared.statement.Stmt.{Stmt}
use Rattle.cell_types.specs.Code as C
use Rattle.cell_types.specs.Code.{Block}
use Rattle.cell_types.specs.Cost.{action_cost, block_cost}
use Rattle.cell_types.specs.Depth.{action_loops, action_stack, block_loops, block_stack}
use Rattle.cell_types.specs.Names.{Scope}
use Rattle.cell_types.specs.Resolved.{resolved_block}
use Rattle.cell_types.specs.bodies.Scopes.{block_from}
use Rattle.cell_types.specs.Typed.{action_of, block_of}
use Rattle.cell_types.specs.Written.{written_block}
use Rattle.cell_types.specs.declared.statement.TypedStmt.{TypedStmt}
use Rattle.cell_types.proofs.StatementSteps.{BlockSoFar}
use Rattle.cell_types.proofs.TypedSteps.{from_end, from_more}

-- what statements in front of others need together
pub stack_from : (xs : List TypedStmt) (rest : Block) → block_stack (block_from xs rest) ≡ max (block_stack (block_of xs)) (block_stack rest)
stack_from [] rest = omega arith
stack_from (x ∷ xs) rest = omega (arith, stack_from xs rest)

pub loops_from : (xs : List TypedStmt) (rest : Block) → block_loops (block_from xs rest) ≡ max (block_loops (block_of xs)) (block_loops rest)
loops_from [] rest = omega arith
loops_from (x ∷ xs) rest = omega (arith, loops_from xs rest)

pub cost_from : (xs : List TypedStmt) (rest : Block) → block_cost (block_from xs rest) ≡ block_cost (block_of xs) + block_cost rest
cost_from [] rest = omega arith
cost_from (x ∷ xs) rest = omega (arith, cost_from xs rest)

module _ (xs : List TypedStmt) (x : TypedStmt) where
  joined : block_of (xs ++ x ∷ []) ≡ block_from xs (C.Then x.line (action_of x.act) C.End)
  joined = sym (from_end (xs ++ x ∷ [])) ∙ from_more xs x C.End

  -- what they need with one more statement
  pub stack_more : block_stack (block_of (xs ++ x ∷ [])) ≡ max (block_stack (block_of xs)) (action_stack (action_of x.act))
  stack_more = omega (arith, ap block_stack joined, stack_from xs (C.Then x.line (action_of x.act) C.End))

  pub loops_more : block_loops (block_of (xs ++ x ∷ [])) ≡ max (block_loops (block_of xs)) (action_loops (action_of x.act))
  loops_more = omega (arith, ap block_loops joined, loops_from xs (C.Then x.line (action_of x.act) C.End))

  pub cost_more : block_cost (block_of (xs ++ x ∷ [])) ≡ block_cost (block_of xs) + action_cost (action_of x.act)
  cost_more = omega (arith, ap block_cost joined, cost_from xs (C.Then x.line (action_of x.act) C.End))

  -- the statement that was typed last needs no more than the whole body
  module _ (s : Scope) (body left : List Stmt) (now : Scope) (so : BlockSoFar s body left now (xs ++ x ∷ [])) where
    pub stack_within : action_stack (action_of x.act) ≤ block_stack (resolved_block s (written_block body))
    stack_within = omega (arith, stack_more, stack_from (xs ++ x ∷ []) (resolved_block s (written_block left)), ap block_stack so.code)

    pub loops_within : action_loops (action_of x.act) ≤ block_loops (resolved_block s (written_block body))
    loops_within = omega (arith, loops_more, loops_from (xs ++ x ∷ []) (resolved_block s (written_block left)), ap block_loops so.code)
