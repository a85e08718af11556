-- The source of pairs is the stated plain data, but for lines.
use Rattle.std.proofs.Common.{◌≡◌, ℕ, ◌+◌, ◌++◌, Bool, true, false, List, [], ◌∷◌, map, refl, sym, subst, ap, ap₂, ◌∙◌, append_assoc}
use Rattle.std.specs.Prelude.{nat_eq, if◌then◌else◌}
use Rattle.std.specs.List.{flat_map}
use Rattle.std.proofs.lemmas.List.{map-append}
use Rattle.sys_base.specs.Groups.{below}
use Rattle.sys_base.specs.declared.kinds.Op.TheVariants as O
use Rattle.cell_tree.specs.declared.expression.Expr.TheFolds.{fold-roll-Expr}
use Rattle.cell_tree.specs.declared.expression.Expr.TheOpen.{Expr-F}
use Rattle.cell_tree.specs.declared.expression.Expr.TheVariants as X
use Rattle.cell_tree.specs.declared.expression.Expr.TheVariants.{rolls-Number, rolls-Named, rolls-Binary}
use Rattle.cell_tree.specs.declared.statement.Act.{Act}
use Rattle.cell_tree.specs.declared.statement.Act.TheFolds.{fold-roll-Stmt, fold-roll-Act}
use Rattle.cell_tree.specs.declared.statement.Act.TheOpen.{Act-F}
use Rattle.cell_tree.specs.declared.statement.Act.TheVariants.{rolls-Set, rolls-Write, rolls-Read, rolls-Emit}
use Rattle.cell_types.specs.Written as W
use Rattle.cell_types.specs.Written.{WrittenExpression, WrittenAction, WrittenStatement, WrittenBlock, WrittenCell, WrittenSource, expression_step, act_step, statement_step, written_expression, written_statement, written_block, written_cell, written}
use Rattle.pair_gen.specs.Generated.{message_name, variable_name, variable, sender, receiver, set_act, write_act, read_act, emit_act, pair_acts, cell_acts, on_lines, cell_decl, first_line, source_of}
use Rattle.pair_laws.specs.bodies.Bare.{bare_action, bare_block, bare_cell, bare_source}
use Rattle.pair_laws.specs.bodies.Paired.{set_of, write_of, read_of, emit_of, actions_of, block_of, paired_cell, paired}
use Rattle.pair_laws.proofs.Written.{written_act}

-- ---- expressions and actions

named : (name : List ℕ) → written_expression (X.Named name) ≡ W.Named name
named name = ap written_expression (sym (rolls-Named name)) ∙ fold-roll-Expr WrittenExpression expression_step (Expr-F.Named name)

number : (n : ℕ) → written_expression (X.Number n) ≡ W.Number n
number n = ap written_expression (sym (rolls-Number n)) ∙ fold-roll-Expr WrittenExpression expression_step (Expr-F.Number n)

one_more : written_expression (X.Binary O.Add variable (X.Number 1)) ≡ W.Applied O.Add (W.Named variable_name) (W.Number 1)
one_more =
    ap written_expression (sym (rolls-Binary O.Add variable (X.Number 1)))
    ∙ fold-roll-Expr WrittenExpression expression_step (Expr-F.Binary O.Add variable (X.Number 1))
    ∙ ap₂ (W.Applied O.Add) (named variable_name) (number 1)

sets : (cell : ℕ) → written_act (set_act cell) ≡ set_of cell
sets cell =
    ap written_act (sym (rolls-Set variable_name (X.Number cell)))
    ∙ fold-roll-Act WrittenAction WrittenStatement act_step statement_step (Act-F.Set variable_name (X.Number cell))
    ∙ ap (W.Set variable_name) (number cell)

writes : (message : ℕ) → written_act (write_act message) ≡ write_of message
writes message =
    ap written_act (sym (rolls-Write (message_name message) (X.Binary O.Add variable (X.Number 1))))
    ∙ fold-roll-Act WrittenAction WrittenStatement act_step statement_step (Act-F.Write (message_name message) (X.Binary O.Add variable (X.Number 1)))
    ∙ ap (W.Write (message_name message)) one_more

reads : (message : ℕ) → written_act (read_act message) ≡ read_of message
reads message =
    ap written_act (sym (rolls-Read (message_name message) variable_name))
    ∙ fold-roll-Act WrittenAction WrittenStatement act_step statement_step (Act-F.Read (message_name message) variable_name)

emits : written_act emit_act ≡ emit_of
emits =
    ap written_act (sym (rolls-Emit variable))
    ∙ fold-roll-Act WrittenAction WrittenStatement act_step statement_step (Act-F.Emit variable)
    ∙ ap W.Emit (named variable_name)

-- ---- the statements of a cell

one_if : (b : Bool) (act : Act) (action : WrittenAction) → written_act act ≡ action
    → map written_act (if b then act ∷ [] else []) ≡ (if b then action ∷ [] else [])
one_if true act action h = ap (λ (a : WrittenAction). a ∷ []) h
one_if false act action h = refl

pair_written : (cell message : ℕ) → map written_act (pair_acts cell message) ≡ actions_of cell message
pair_written cell message =
    map-append written_act (if nat_eq (sender message) cell then write_act message ∷ [] else [])
    (if nat_eq (receiver message) cell then read_act message ∷ [] else [])
    ∙ ap₂ (λ (xs ys : List WrittenAction). xs ++ ys)
    (one_if (nat_eq (sender message) cell) (write_act message) (write_of message) (writes message))
    (one_if (nat_eq (receiver message) cell) (read_act message) (read_of message) (reads message))

pairs_written : (cell : ℕ) (messages : List ℕ) → map written_act (flat_map (pair_acts cell) messages) ≡ flat_map (actions_of cell) messages
pairs_written cell [] = refl
pairs_written cell (m ∷ ms) =
    map-append written_act (pair_acts cell m) (flat_map (pair_acts cell) ms)
    ∙ ap₂ (λ (xs ys : List WrittenAction). xs ++ ys) (pair_written cell m) (pairs_written cell ms)

acts_written : (cell : ℕ) (messages : List ℕ)
    → map written_act (cell_acts messages cell) ≡ set_of cell ∷ flat_map (actions_of cell) messages ++ emit_of ∷ []
unfolding cell_acts
acts_written cell messages =
    ap₂ (λ (a : WrittenAction) (rest : List WrittenAction). a ∷ rest) (sets cell)
    (map-append written_act (flat_map (pair_acts cell) messages) (emit_act ∷ [])
    ∙ ap₂ (λ (xs ys : List WrittenAction). xs ++ ys) (pairs_written cell messages) (ap (λ (a : WrittenAction). a ∷ []) emits))

-- an action that is no loop and no choice has no line in it, and statements on lines are so many actions
lines_bare : (line : ℕ) (acts : List Act) → bare_block (written_block (on_lines line acts)) ≡ bare_block (block_of (map written_act acts))
lines_bare line [] = refl
lines_bare line (act ∷ acts) =
    ap₂ (λ (s : WrittenStatement) (rest : WrittenBlock). W.Then 0 (bare_action s.act) rest)
    (fold-roll-Stmt WrittenAction WrittenStatement act_step statement_step (record { line = line; act = act })) (lines_bare (line + 1) acts)

-- the stated statements have no lines
more_bare : (cell : ℕ) (b c : Bool) (message : ℕ) (rest : List WrittenAction) → bare_block (block_of rest) ≡ block_of rest
    → bare_block (block_of (((if b then write_of message ∷ [] else []) ++ (if c then read_of message ∷ [] else [])) ++ rest))
    ≡ block_of (((if b then write_of message ∷ [] else []) ++ (if c then read_of message ∷ [] else [])) ++ rest)
more_bare cell true true message rest h = ap (λ r. W.Then 0 (write_of message) (W.Then 0 (read_of message) r)) h
more_bare cell true false message rest h = ap (λ r. W.Then 0 (write_of message) r) h
more_bare cell false true message rest h = ap (λ r. W.Then 0 (read_of message) r) h
more_bare cell false false message rest h = h

rest_bare : (cell : ℕ) (messages : List ℕ)
    → bare_block (block_of (flat_map (actions_of cell) messages ++ emit_of ∷ [])) ≡ block_of (flat_map (actions_of cell) messages ++ emit_of ∷ [])
rest_bare cell [] = refl
rest_bare cell (m ∷ ms) =
    let B : List WrittenAction → Type 0 = λ xs. bare_block (block_of xs) ≡ block_of xs in
    subst B (sym (append_assoc (actions_of cell m) (flat_map (actions_of cell) ms) (emit_of ∷ [])))
    (more_bare cell (nat_eq (sender m) cell) (nat_eq (receiver m) cell) m (flat_map (actions_of cell) ms ++ emit_of ∷ []) (rest_bare cell ms))

cell_is : (messages : List ℕ) (cell : ℕ) → bare_cell (written_cell (cell_decl messages cell)) ≡ paired_cell messages cell
cell_is messages cell =
    let With : WrittenBlock → WrittenCell = λ body. record (paired_cell messages cell) { body = body } in
    ap With (
    lines_bare (first_line messages cell + 2) (cell_acts messages cell)
    ∙ ap (λ xs. bare_block (block_of xs)) (acts_written cell messages)
    ∙ ap (W.Then 0 (set_of cell)) (rest_bare cell messages)
    )

cells_are : (messages cells : List ℕ) → map bare_cell (map written_cell (map (cell_decl messages) cells)) ≡ map (paired_cell messages) cells
cells_are messages [] = refl
cells_are messages (c ∷ cs) = ap₂ (λ (d : WrittenCell) (ds : List WrittenCell). d ∷ ds) (cell_is messages c) (cells_are messages cs)

-- the source of pairs, but for its lines
pub paired_is : (messages : List ℕ) → bare_source (written (source_of messages)) ≡ paired messages
unfolding source_of
paired_is messages = ap (λ cells. record (paired messages) { cells = cells }) (cells_are messages (below 16))
