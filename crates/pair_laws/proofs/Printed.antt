-- The pieces of the canonical text of the source of pairs.
use Rattle.std.proofs.Common.{◌≡◌, ℕ, ◌+◌, ◌++◌, Bool, true, false, List, [], ◌∷◌, map, refl, sym, ap, ap₂, ◌∙◌, append_assoc, append-nil}
use Rattle.std.specs.Prelude.{nat_eq, if◌then◌else◌}
use Rattle.std.specs.List.{flat_map}
use Rattle.std.proofs.lemmas.List.Concat.{flat_map-append}
use Rattle.sys_base.specs.Groups.{below}
use Rattle.sys_base.specs.declared.kinds.Op.TheVariants as O
use Rattle.sys_base.specs.Key.{key_text}
use Rattle.sys_base.specs.declared.key.Key.TheVariants as K
use Rattle.cell_lexer.specs.Forms.{mark_text}
use Rattle.cell_lexer.specs.declared.token.Mark.TheVariants as M
use Rattle.cell_tree.specs.Canonical.{place_pieces, var_pieces, cell_pieces, canonical_pieces}
use Rattle.cell_tree.specs.Expression.{Spelt, spell_step, spelt}
use Rattle.cell_tree.specs.Pieces.{Piece, after, none, space, line}
use Rattle.cell_tree.specs.Statement.{Printed, act_step, statement_step, statement_pieces}
use Rattle.cell_tree.specs.declared.expression.Expr.TheFolds.{fold-roll-Expr}
use Rattle.cell_tree.specs.declared.expression.Expr.TheOpen.{Expr-F}
use Rattle.cell_tree.specs.declared.expression.Expr.TheVariants as X
use Rattle.cell_tree.specs.declared.expression.Expr.TheVariants.{rolls-Number, rolls-Named, rolls-Binary}
use Rattle.cell_tree.specs.declared.statement.Act.{Act}
use Rattle.cell_tree.specs.declared.statement.Act.TheFolds.{fold-Act, fold-roll-Stmt, fold-roll-Act}
use Rattle.cell_tree.specs.declared.statement.Act.TheOpen.{Act-F}
use Rattle.cell_tree.specs.declared.statement.Act.TheVariants.{rolls-Set, rolls-Write, rolls-Read, rolls-Emit}
use Rattle.pair_gen.specs.Generated.{message_name, variable_name, variable, sender, receiver, set_act, write_act, read_act, emit_act, pair_acts, cell_acts, on_lines, cell_decl, first_line, place_of, source_of}
use Rattle.pair_laws.specs.bodies.Printed.{set_pieces, write_pieces, read_pieces, emit_pieces, pair_pieces, head_pieces, paired_pieces, first_pieces, all_pieces}

-- the pieces of what a statement does
abbrev act_pieces : Act → Printed
act_pieces = fold-Act Printed Printed act_step statement_step

-- ---- expressions and actions

named : (name : List ℕ) → spelt (X.Named name) ≡ spell_step (Expr-F.Named name)
named name = ap spelt (sym (rolls-Named name)) ∙ fold-roll-Expr Spelt spell_step (Expr-F.Named name)

number : (n : ℕ) → spelt (X.Number n) ≡ spell_step (Expr-F.Number n)
number n = ap spelt (sym (rolls-Number n)) ∙ fold-roll-Expr Spelt spell_step (Expr-F.Number n)

one_more : spelt (X.Binary O.Add variable (X.Number 1)) ≡ spell_step (Expr-F.Binary O.Add (spell_step (Expr-F.Named variable_name)) (spell_step (Expr-F.Number 1)))
one_more =
    ap spelt (sym (rolls-Binary O.Add variable (X.Number 1)))
    ∙ fold-roll-Expr Spelt spell_step (Expr-F.Binary O.Add variable (X.Number 1))
    ∙ ap₂ (λ (a b : Spelt). spell_step (Expr-F.Binary O.Add a b)) (named variable_name) (number 1)

sets : (cell : ℕ) → act_pieces (set_act cell) 1 ≡ set_pieces cell
sets cell =
    let Around : Spelt → List Piece = λ e.
    after (line 1) variable_name ++ after space (mark_text M.Assign) ++ e.pieces space ++ after none (mark_text M.Semicolon) in
    ap (λ a. act_pieces a 1) (sym (rolls-Set variable_name (X.Number cell)))
    ∙ ap (λ (f : Printed). f 1) (fold-roll-Act Printed Printed act_step statement_step (Act-F.Set variable_name (X.Number cell)))
    ∙ ap Around (number cell)

writes : (m : ℕ) → act_pieces (write_act m) 1 ≡ write_pieces m
writes m =
    let Around : Spelt → List Piece = λ e.
    after (line 1) (key_text K.Write) ++ after space (message_name m) ++ e.pieces space ++ after none (mark_text M.Semicolon) in
    ap (λ a. act_pieces a 1) (sym (rolls-Write (message_name m) (X.Binary O.Add variable (X.Number 1))))
    ∙ ap (λ (f : Printed). f 1)
    (fold-roll-Act Printed Printed act_step statement_step (Act-F.Write (message_name m) (X.Binary O.Add variable (X.Number 1))))
    ∙ ap Around one_more

reads : (m : ℕ) → act_pieces (read_act m) 1 ≡ read_pieces m
reads m =
    ap (λ a. act_pieces a 1) (sym (rolls-Read (message_name m) variable_name))
    ∙ ap (λ (f : Printed). f 1) (fold-roll-Act Printed Printed act_step statement_step (Act-F.Read (message_name m) variable_name))

emits : act_pieces emit_act 1 ≡ emit_pieces
emits =
    let Around : Spelt → List Piece = λ e. after (line 1) (key_text K.Emit) ++ e.pieces space ++ after none (mark_text M.Semicolon) in
    ap (λ a. act_pieces a 1) (sym (rolls-Emit variable))
    ∙ ap (λ (f : Printed). f 1) (fold-roll-Act Printed Printed act_step statement_step (Act-F.Emit variable))
    ∙ ap Around (named variable_name)

-- ---- the lines of a cell

-- statements on lines are printed as what they do
lines_printed : (line : ℕ) (acts : List Act) → flat_map (λ s. statement_pieces s 1) (on_lines line acts) ≡ flat_map (λ a. act_pieces a 1) acts
lines_printed line [] = refl
lines_printed line (act ∷ acts) =
    ap₂ (λ (xs ys : List Piece). xs ++ ys)
    (ap (λ (f : Printed). f 1) (fold-roll-Stmt Printed Printed act_step statement_step (record { line = line; act = act })))
    (lines_printed (line + 1) acts)

one_if : (b : Bool) (act : Act) (ps : List Piece) → act_pieces act 1 ≡ ps
    → flat_map (λ a. act_pieces a 1) (if b then act ∷ [] else []) ≡ (if b then ps else [])
one_if true act ps h = append-nil (act_pieces act 1) ∙ h
one_if false act ps h = refl

pair_printed : (cell m : ℕ) → flat_map (λ a. act_pieces a 1) (pair_acts cell m) ≡ pair_pieces cell m
pair_printed cell m =
    flat_map-append (λ a. act_pieces a 1) (if nat_eq (sender m) cell then write_act m ∷ [] else [])
    (if nat_eq (receiver m) cell then read_act m ∷ [] else [])
    ∙ ap₂ (λ (xs ys : List Piece). xs ++ ys)
    (one_if (nat_eq (sender m) cell) (write_act m) (write_pieces m) (writes m))
    (one_if (nat_eq (receiver m) cell) (read_act m) (read_pieces m) (reads m))

pairs_printed : (cell : ℕ) (ms : List ℕ) → flat_map (λ a. act_pieces a 1) (flat_map (pair_acts cell) ms) ≡ flat_map (pair_pieces cell) ms
pairs_printed cell [] = refl
pairs_printed cell (m ∷ ms) =
    flat_map-append (λ a. act_pieces a 1) (pair_acts cell m) (flat_map (pair_acts cell) ms)
    ∙ ap₂ (λ (xs ys : List Piece). xs ++ ys) (pair_printed cell m) (pairs_printed cell ms)

acts_printed : (ms : List ℕ) (cell : ℕ) → flat_map (λ a. act_pieces a 1) (cell_acts ms cell)
    ≡ set_pieces cell ++ (flat_map (pair_pieces cell) ms ++ emit_pieces)
unfolding cell_acts
acts_printed ms cell =
    ap₂ (λ (xs ys : List Piece). xs ++ ys) (sets cell)
    (flat_map-append (λ a. act_pieces a 1) (flat_map (pair_acts cell) ms) (emit_act ∷ [])
    ∙ ap₂ (λ (xs ys : List Piece). xs ++ ys) (pairs_printed cell ms) (append-nil (act_pieces emit_act 1) ∙ emits))

-- the lines of a cell
cell_printed : (ms : List ℕ) (cell : ℕ) → cell_pieces (cell_decl ms cell) ≡ paired_pieces ms cell
cell_printed ms cell =
    let close : List Piece = after (line 0) (mark_text M.CloseBrace) in
    let Around : List Piece → List Piece = λ body.
    after (line 0) (key_text K.Cell) ++ place_pieces (place_of cell) ++ after space (mark_text M.OpenBrace)
    ++ (flat_map var_pieces (cell_decl ms cell).vars ++ body) ++ close in
    ap Around (lines_printed (first_line ms cell + 2) (cell_acts ms cell) ∙ acts_printed ms cell)
    ∙ ap (λ xs. head_pieces cell ++ xs) (append_assoc (flat_map (pair_pieces cell) ms) emit_pieces close)

cells_printed : (ms cells : List ℕ) → flat_map cell_pieces (map (cell_decl ms) cells) ≡ flat_map (paired_pieces ms) cells
cells_printed ms [] = refl
cells_printed ms (c ∷ cs) = ap₂ (λ (xs ys : List Piece). xs ++ ys) (cell_printed ms c) (cells_printed ms cs)

-- the pieces of the whole text
pub all_printed : (ms : List ℕ) → canonical_pieces (source_of ms) ≡ all_pieces ms
unfolding source_of
all_printed ms = ap (λ xs. first_pieces ++ xs) (cells_printed ms (below 16))
