-- The statements of a block one after another, and what stands inside loops and choices.
use Rattle.std.proofs.Common.{◌≡◌, ◌≤◌, ℕ, ◌+◌, Vec, Global, List, [], ◌∷◌, ◌++◌, length, nat_lt, is_some, refl, sym, ap, subst, ◌∙◌, arith}
use Rattle.sys_base.specs.declared.kinds.Limit.TheVariants as L
use Rattle.cell_tree.specs.declared.expression.Expr.{Expr}
use Rattle.cell_tree.specs.declared.statement.Stmt.{Stmt}
use Rattle.cell_types.specs.Code as C
use Rattle.cell_types.specs.Depth.{action_loops, block_loops}
use Rattle.cell_types.specs.Faults.{IsFirst}
use Rattle.cell_types.specs.Names.{Scope, meaning, inside_loop}
use Rattle.cell_types.specs.Resolved.{resolved_expression, resolved_action, resolved_block}
use Rattle.cell_types.specs.bodies.Scopes.{written_action, block_from}
use Rattle.cell_types.specs.Statics.{when, expression_faults, action_faults, block_faults}
use Rattle.cell_types.specs.Typed.{expression_of, action_of, block_of}
use Rattle.cell_types.specs.Written as T
use Rattle.cell_types.specs.Written.{written_block, written_expression}
use Rattle.cell_types.specs.declared.error.StaticError.{StaticError}
use Rattle.cell_types.specs.declared.error.StaticError.TheVariants as E
use Rattle.cell_types.specs.declared.error.What.TheVariants as W
use Rattle.cell_types.specs.declared.expression.TypedExpr.{TypedExpr}
use Rattle.cell_types.specs.declared.statement.TypedAct.{TypedAct}
use Rattle.cell_types.specs.declared.statement.TypedAct.TheVariants.{For, If}
use Rattle.cell_types.specs.declared.statement.TypedStmt.{TypedStmt}
use Rattle.cell_types.proofs.FirstFaults.{first_left, none_joined}
use Rattle.cell_types.proofs.TypedSteps.{action_of_for, action_of_if, from_end, from_more}
use Rattle.cell_types.proofs.WrittenSteps.{block_written}

-- The statements before those that are left have no faults, what is typed is theirs, and the scope is as it was.
pub record BlockSoFar (s : Scope) (body left : List Stmt) (now : Scope) (typed : List TypedStmt) : Type 0 where
  pub scope : now ≡ s
  pub faults : block_faults s (written_block body) ≡ block_faults s (written_block left)
  pub code : block_from typed (resolved_block s (written_block left)) ≡ resolved_block s (written_block body)
  pub room : length s.counters + block_loops (resolved_block s (written_block left)) ≤ 16

module _ (s : Scope) (body : List Stmt) where
  pub block_none : (left : List Stmt) → left ≡ body
      → length s.counters + block_loops (resolved_block s (written_block body)) ≤ 16 → BlockSoFar s body left s []
  block_none left all room = record {
    scope = refl;
    faults = ap (λ ss. block_faults s (written_block ss)) (sym all);
    code = ap (λ ss. resolved_block s (written_block ss)) all;
    room = omega (arith, room, ap (λ ss. block_loops (resolved_block s (written_block ss))) all);
  }

  module _ (left : List Stmt) (now : Scope) (typed : List TypedStmt) (so : BlockSoFar s body left now typed) where
    pub block_all : left ≡ [] → (block_faults s (written_block body) ≡ []) × (block_of typed ≡ resolved_block s (written_block body))
    block_all none = (
      so.faults ∙ ap (λ ss. block_faults s (written_block ss)) none,
      sym (from_end typed) ∙ ap (block_from typed) (sym (ap (λ ss. resolved_block s (written_block ss)) none)) ∙ so.code,
    )

    module _ (statement : Stmt) (rest : List Stmt) (next : left ≡ statement ∷ rest) where
      rest_written : written_block left ≡ T.Then statement.line (written_action statement.act) (written_block rest)
      rest_written = ap written_block next ∙ block_written statement rest

      -- there is room for the loops of the next statement
      pub block_room : length now.counters + action_loops (resolved_action now (written_action statement.act)) ≤ 16
      block_room =
          let loops = ap (λ w. block_loops (resolved_block s w)) rest_written in
          let same = ap (λ (z : Scope). length z.counters + action_loops (resolved_action z (written_action statement.act))) so.scope in
          omega (arith, loops, same, so.room)

      -- the first fault of the next statement is the first of all
      pub block_stop : (e : StaticError) → IsFirst (action_faults now statement.line (written_action statement.act)) e
          → IsFirst (block_faults s (written_block body)) e
      block_stop e first =
          subst (λ fs. IsFirst fs e) (sym (so.faults ∙ ap (block_faults s) rest_written))
          (first_left _ (block_faults s (written_block rest)) e
          (subst (λ z. IsFirst (action_faults z statement.line (written_action statement.act)) e) so.scope first))

      -- one more statement is typed
      pub block_more : (after : Scope) (act : TypedAct) → after ≡ now
          → action_faults now statement.line (written_action statement.act) ≡ []
          → action_of act ≡ resolved_action now (written_action statement.act)
          → BlockSoFar s body rest after (typed ++ record { line = statement.line; act = act } ∷ [])
      block_more after act same none made =
          let behind = resolved_block s (written_block rest) in
          let loops = ap (λ w. block_loops (resolved_block s w)) rest_written in
          record {
            scope = same ∙ so.scope;
            faults = so.faults ∙ ap (block_faults s) rest_written
                ∙ ap (λ fs. fs ++ block_faults s (written_block rest))
                (ap (λ z. action_faults z statement.line (written_action statement.act)) (sym so.scope) ∙ none);
            code = from_more typed (record { line = statement.line; act = act }) behind
                ∙ ap (λ a. block_from typed (C.Then statement.line a behind))
                (made ∙ ap (λ z. resolved_action z (written_action statement.act)) so.scope)
                ∙ ap (λ w. block_from typed (resolved_block s w)) (sym rest_written) ∙ so.code;
            room = omega (arith, loops, so.room);
          }

-- what a loop without faults is, where its body was read inside it
pub for_made : (s inside : Scope) (line : ℕ) (counter : List ℕ) (turns depth : ℕ) (body : List Stmt) (typed : Vec TypedStmt Global)
    → when (is_some (meaning s counter)) (E.Twice (W.Named counter) line) ++ when (nat_lt 65535 turns) (E.Limit L.Turns line) ≡ []
    → depth ≡ length s.counters → inside ≡ inside_loop counter s
    → block_faults inside (written_block body) ≡ [] → block_of typed.items ≡ resolved_block inside (written_block body)
    → (action_faults s line (T.For counter turns (written_block body)) ≡ [])
    × (action_of (For depth turns typed) ≡ resolved_action s (T.For counter turns (written_block body)))
for_made s inside line counter turns depth body typed entered at_depth within none made = (
  none_joined (when (is_some (meaning s counter)) (E.Twice (W.Named counter) line) ++ when (nat_lt 65535 turns) (E.Limit L.Turns line))
      (block_faults (inside_loop counter s) (written_block body)) entered
      (ap (λ z. block_faults z (written_block body)) (sym within) ∙ none),
  action_of_for depth turns typed ∙ ap (λ d. C.For d turns (block_of typed.items)) at_depth
      ∙ ap (C.For (length s.counters) turns) (made ∙ ap (λ z. resolved_block z (written_block body)) within),
)

-- what a choice without faults is
pub if_made : (s between : Scope) (line : ℕ) (test : Expr) (e : TypedExpr) (first second : List Stmt)
    (x y : Vec TypedStmt Global) → between ≡ s
    → (expression_faults s line (written_expression test) ≡ []) × (expression_of e ≡ resolved_expression s (written_expression test))
    → (block_faults s (written_block first) ≡ []) × (block_of x.items ≡ resolved_block s (written_block first))
    → (block_faults between (written_block second) ≡ []) × (block_of y.items ≡ resolved_block between (written_block second))
    → (action_faults s line (T.If (written_expression test) (written_block first) (written_block second)) ≡ [])
    × (action_of (If e x y) ≡ resolved_action s (T.If (written_expression test) (written_block first) (written_block second)))
if_made s between line test e first second x y same tested yes_made no_made = (
  none_joined (expression_faults s line (written_expression test) ++ block_faults s (written_block first)) (block_faults s (written_block second))
      (none_joined (expression_faults s line (written_expression test)) (block_faults s (written_block first)) tested.0 yes_made.0)
      (ap (λ z. block_faults z (written_block second)) (sym same) ∙ no_made.0),
  action_of_if e x y ∙ ap (λ t. C.If t (block_of x.items) (block_of y.items)) tested.1
      ∙ ap (λ b. C.If (resolved_expression s (written_expression test)) b (block_of y.items)) yes_made.1
      ∙ ap (C.If (resolved_expression s (written_expression test)) (resolved_block s (written_block first)))
      (no_made.1 ∙ ap (λ z. resolved_block z (written_block second)) same),
)
