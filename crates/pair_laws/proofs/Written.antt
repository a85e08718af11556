-- A source without lines is written as plain data with 0 in each line.
use Rattle.std.proofs.Common.{◌≡◌, List, [], ◌∷◌, map, refl, sym, subst, ap, ap₂, ◌∙◌}
use Rattle.cell_tree.specs.declared.source.CellDecl.{CellDecl}
use Rattle.cell_tree.specs.declared.source.Source.{Source}
use Rattle.cell_tree.specs.declared.statement.Act.{Act}
use Rattle.cell_tree.specs.declared.statement.Act.TheFolds.{fold-Act, fold-roll-Stmt, fold-roll-Act, ind-Stmt, map-Act, map-Stmt}
use Rattle.cell_tree.specs.declared.statement.Act.TheOpen.{Act-F, Stmt-F}
use Rattle.cell_tree.specs.declared.statement.Act.TheVariants.{rolls-Set, rolls-SetAt, rolls-Write, rolls-Read, rolls-Take, rolls-Emit, rolls-For, rolls-If}
use Rattle.cell_tree.specs.declared.statement.Act.TheViews.{roll-Stmt, roll-Act}
use Rattle.cell_tree.specs.declared.statement.Stmt.{Stmt}
use Rattle.cell_parser.specs.Printed.{unlined_act, unlined_step, unlined_statement, unlined_cell, unlined}
use Rattle.cell_types.specs.Written as W
use Rattle.cell_types.specs.Written.{WrittenAction, WrittenStatement, WrittenBlock, WrittenCell, act_step, statement_step, in_block, written_statement, written_block, written_cell, written}
use Rattle.pair_laws.specs.bodies.Bare.{bare_action, bare_block, bare_cell, bare_source}

-- what a statement does, without the lines in it
abbrev unlined_of : Act → Act
unlined_of = fold-Act Act Stmt unlined_act unlined_step

-- what a statement does, as plain data
abbrev pub written_act : Act → WrittenAction
written_act = fold-Act WrittenAction WrittenStatement act_step statement_step

-- a statement with 0 in each line
abbrev bare_statement : WrittenStatement → WrittenStatement
bare_statement s = record { line = 0; act = bare_action s.act }

abbrev SameAct : Act → Type 0
SameAct a = written_act (unlined_of a) ≡ bare_action (written_act a)

abbrev SameStmt : Stmt → Type 0
SameStmt s = written_statement (unlined_statement s) ≡ bare_statement (written_statement s)

abbrev ActFact : Type 0
ActFact = (a : Act) × SameAct a

abbrev StmtFact : Type 0
StmtFact = (s : Stmt) × SameStmt s

abbrev kept : List StmtFact → List Stmt
kept items = map (λ (e : StmtFact). e.0) items

-- what one layer does, without lines
close : (x y : Act-F Act Stmt) → unlined_act (map-Act Act Stmt Act Stmt unlined_of unlined_statement x) ≡ roll-Act y
    → act_step (map-Act Act Stmt WrittenAction WrittenStatement written_act written_statement y)
    ≡ bare_action (act_step (map-Act Act Stmt WrittenAction WrittenStatement written_act written_statement x))
    → SameAct (roll-Act x)
close x y e h =
    ap written_act (fold-roll-Act Act Stmt unlined_act unlined_step x ∙ e)
    ∙ fold-roll-Act WrittenAction WrittenStatement act_step statement_step y ∙ h
    ∙ ap bare_action (sym (fold-roll-Act WrittenAction WrittenStatement act_step statement_step x))

-- statements one after another
then_same : (a b : WrittenStatement) (c d : WrittenBlock) → a ≡ bare_statement b → c ≡ bare_block d
    → W.Then a.line a.act c ≡ W.Then 0 (bare_action b.act) (bare_block d)
then_same a b c d e f = ap₂ (λ (s : WrittenStatement) (r : WrittenBlock). W.Then s.line s.act r) e f

body_same : (items : List StmtFact)
    → in_block (map written_statement (map unlined_statement (kept items))) ≡ bare_block (in_block (map written_statement (kept items)))
body_same [] = refl
body_same (e ∷ items) =
    then_same (written_statement (unlined_statement e.0)) (written_statement e.0)
    (in_block (map written_statement (map unlined_statement (kept items)))) (in_block (map written_statement (kept items))) e.1 (body_same items)

act_layer : (y : Act-F ActFact StmtFact) → SameAct (roll-Act (map-Act ActFact StmtFact Act Stmt (λ e. e.0) (λ e. e.0) y))
act_layer (Act-F.Set n e) = close (Act-F.Set n e) (Act-F.Set n e) (sym (rolls-Set n e)) refl
act_layer (Act-F.SetAt n e f) = close (Act-F.SetAt n e f) (Act-F.SetAt n e f) (sym (rolls-SetAt n e f)) refl
act_layer (Act-F.Write m e) = close (Act-F.Write m e) (Act-F.Write m e) (sym (rolls-Write m e)) refl
act_layer (Act-F.Read m n) = close (Act-F.Read m n) (Act-F.Read m n) (sym (rolls-Read m n)) refl
act_layer (Act-F.Take n) = close (Act-F.Take n) (Act-F.Take n) (sym (rolls-Take n)) refl
act_layer (Act-F.Emit e) = close (Act-F.Emit e) (Act-F.Emit e) (sym (rolls-Emit e)) refl
act_layer (Act-F.For c n b) =
    let Loop : WrittenBlock → WrittenAction = λ body. W.For c n body in
    close (Act-F.For c n (kept b)) (Act-F.For c n (map unlined_statement (kept b)))
    (sym (rolls-For c n (map unlined_statement (kept b)))) (ap Loop (body_same b))
act_layer (Act-F.If e b c) =
    let Arms : WrittenBlock → WrittenBlock → WrittenAction = λ first second. W.If (W.written_expression e) first second in
    close (Act-F.If e (kept b) (kept c)) (Act-F.If e (map unlined_statement (kept b)) (map unlined_statement (kept c)))
    (sym (rolls-If e (map unlined_statement (kept b)) (map unlined_statement (kept c)))) (ap₂ Arms (body_same b) (body_same c))

stmt_layer : (y : Stmt-F ActFact StmtFact) → SameStmt (roll-Stmt (map-Stmt ActFact StmtFact Act Stmt (λ e. e.0) (λ e. e.0) y))
stmt_layer y =
    let x : Stmt-F Act Stmt = map-Stmt ActFact StmtFact Act Stmt (λ e. e.0) (λ e. e.0) y in
    let z : Stmt-F Act Stmt = record { line = 0; act = unlined_of x.act } in
    let On : WrittenAction → WrittenStatement = λ act. record { line = 0; act = act } in
    ap written_statement (fold-roll-Stmt Act Stmt unlined_act unlined_step x)
    ∙ fold-roll-Stmt WrittenAction WrittenStatement act_step statement_step z ∙ ap On y.act.1
    ∙ ap bare_statement (sym (fold-roll-Stmt WrittenAction WrittenStatement act_step statement_step x))

statement_same : (s : Stmt) → SameStmt s
statement_same = ind-Stmt SameAct SameStmt
    (λ x y is. subst (λ (z : Act-F Act Stmt). SameAct (roll-Act z)) is (act_layer y))
    (λ x y is. subst (λ (z : Stmt-F Act Stmt). SameStmt (roll-Stmt z)) is (stmt_layer y))

block_same : (ss : List Stmt) → written_block (map unlined_statement ss) ≡ bare_block (written_block ss)
block_same [] = refl
block_same (s ∷ ss) =
    then_same (written_statement (unlined_statement s)) (written_statement s) (written_block (map unlined_statement ss)) (written_block ss)
    (statement_same s) (block_same ss)

cells_same : (cs : List CellDecl) → map written_cell (map unlined_cell cs) ≡ map bare_cell (map written_cell cs)
cells_same [] = refl
cells_same (c ∷ cs) =
    let With : WrittenBlock → WrittenCell = λ body. record (bare_cell (written_cell c)) { body = body } in
    ap₂ (λ (d : WrittenCell) (ds : List WrittenCell). d ∷ ds) (ap With (block_same c.body)) (cells_same cs)

-- a source without lines
pub unlined_written : (s : Source) → written (unlined s) ≡ bare_source (written s)
unlined_written s = ap (λ cells. record (bare_source (written s)) { cells = cells }) (cells_same s.cells)

-- sources that are the same but for their lines are the same plain data without lines
pub same_bare : (s t : Source) → unlined s ≡ unlined t → bare_source (written s) ≡ bare_source (written t)
same_bare s t e = sym (unlined_written s) ∙ ap written e ∙ unlined_written t
