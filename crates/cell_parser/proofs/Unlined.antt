-- Lines are no part of the canonical text.
use Rattle.std.proofs.Common.{◌≡◌, ◌++◌, List, [], ◌∷◌, map, refl, sym, subst, ap, ◌∙◌}
use Rattle.std.specs.List.{flat_map}
use Rattle.std.specs.Prelude.{codes}
use Rattle.sys_base.specs.Key.{key_text}
use Rattle.sys_base.specs.declared.key.Key.TheVariants as K
use Rattle.cell_tree.specs.Canonical.{settings_pieces, place_pieces, link_pieces, message_pieces, var_pieces, cell_pieces, canonical}
use Rattle.cell_tree.specs.Pieces.{Piece, joined, after, space, line}
use Rattle.cell_tree.specs.Statement.{Printed, act_step, statement_step, statement_pieces}
use Rattle.cell_tree.specs.declared.source.CellDecl.{CellDecl}
use Rattle.cell_tree.specs.declared.source.LinkDecl.{LinkDecl}
use Rattle.cell_tree.specs.declared.source.MessageDecl.{MessageDecl}
use Rattle.cell_tree.specs.declared.source.Source.{Source}
use Rattle.cell_tree.specs.declared.source.VarDecl.{VarDecl}
use Rattle.cell_tree.specs.declared.statement.Act.{Act}
use Rattle.cell_tree.specs.declared.statement.Act.TheFolds.{fold-roll-Stmt, fold-roll-Act, ind-Stmt, map-Act, map-Stmt}
use Rattle.cell_tree.specs.declared.statement.Act.TheOpen.{Act-F, Stmt-F}
use Rattle.cell_tree.specs.declared.statement.Act.TheVariants.{rolls-Set, rolls-SetAt, rolls-Write, rolls-Read, rolls-Take, rolls-Emit, rolls-For, rolls-If}
use Rattle.cell_tree.specs.declared.statement.Act.TheViews.{roll-Stmt, roll-Act}
use Rattle.cell_tree.specs.declared.statement.Stmt.{Stmt}
use Rattle.cell_parser.specs.Printed.{unlined_act, unlined_step, unlined_statement, unlined_cell, unlined}
use Rattle.cell_parser.proofs.SaidStatements.{unlined_of}
use Rattle.cell_parser.proofs.ToldPieces.{pieces_of}

abbrev SameAct : Act → Type 0
SameAct a = pieces_of (unlined_of a) ≡ pieces_of a

abbrev SameStmt : Stmt → Type 0
SameStmt s = statement_pieces (unlined_statement s) ≡ statement_pieces s

abbrev ActFact : Type 0
ActFact = (a : Act) × SameAct a

abbrev StmtFact : Type 0
StmtFact = (s : Stmt) × SameStmt s

abbrev kept : List StmtFact → List Stmt
kept items = map (λ (e : StmtFact). e.0) items

-- what a statement with its blocks' statements unlined is, as its layer
close : (x y : Act-F Act Stmt) → unlined_act (map-Act Act Stmt Act Stmt unlined_of unlined_statement x) ≡ roll-Act y
    → act_step (map-Act Act Stmt Printed Printed pieces_of statement_pieces y)
    ≡ act_step (map-Act Act Stmt Printed Printed pieces_of statement_pieces x)
    → SameAct (roll-Act x)
close x y e h =
    ap pieces_of (fold-roll-Act Act Stmt unlined_act unlined_step x ∙ e) ∙ fold-roll-Act Printed Printed act_step statement_step y ∙ h
    ∙ sym (fold-roll-Act Printed Printed act_step statement_step x)

body_same : (items : List StmtFact) → map statement_pieces (map unlined_statement (kept items)) ≡ map statement_pieces (kept items)
body_same [] = refl
body_same (e ∷ items) =
    ap (λ p. p ∷ map statement_pieces (map unlined_statement (kept items))) e.1
    ∙ ap (λ ps. statement_pieces e.0 ∷ ps) (body_same items)

act_layer : (y : Act-F ActFact StmtFact) → SameAct (roll-Act (map-Act ActFact StmtFact Act Stmt (λ e. e.0) (λ e. e.0) y))
act_layer (Act-F.Set n e) = close (Act-F.Set n e) (Act-F.Set n e) (sym (rolls-Set n e)) refl
act_layer (Act-F.SetAt n e f) = close (Act-F.SetAt n e f) (Act-F.SetAt n e f) (sym (rolls-SetAt n e f)) refl
act_layer (Act-F.Write m e) = close (Act-F.Write m e) (Act-F.Write m e) (sym (rolls-Write m e)) refl
act_layer (Act-F.Read m n) = close (Act-F.Read m n) (Act-F.Read m n) (sym (rolls-Read m n)) refl
act_layer (Act-F.Take n) = close (Act-F.Take n) (Act-F.Take n) (sym (rolls-Take n)) refl
act_layer (Act-F.Emit e) = close (Act-F.Emit e) (Act-F.Emit e) (sym (rolls-Emit e)) refl
act_layer (Act-F.For c n b) =
    let Loop : List Printed → Printed = λ ps. act_step (Act-F.For c n ps) in
    close (Act-F.For c n (kept b)) (Act-F.For c n (map unlined_statement (kept b))) (sym (rolls-For c n (map unlined_statement (kept b))))
    (ap Loop (body_same b))
act_layer (Act-F.If e b c) =
    let First : List Printed → Printed = λ ps. act_step (Act-F.If e ps (map statement_pieces (map unlined_statement (kept c)))) in
    let Second : List Printed → Printed = λ ps. act_step (Act-F.If e (map statement_pieces (kept b)) ps) in
    close (Act-F.If e (kept b) (kept c)) (Act-F.If e (map unlined_statement (kept b)) (map unlined_statement (kept c)))
    (sym (rolls-If e (map unlined_statement (kept b)) (map unlined_statement (kept c)))) (ap First (body_same b) ∙ ap Second (body_same c))

stmt_layer : (y : Stmt-F ActFact StmtFact) → SameStmt (roll-Stmt (map-Stmt ActFact StmtFact Act Stmt (λ e. e.0) (λ e. e.0) y))
stmt_layer y =
    let x : Stmt-F Act Stmt = map-Stmt ActFact StmtFact Act Stmt (λ e. e.0) (λ e. e.0) y in
    let z : Stmt-F Act Stmt = record { line = 0; act = unlined_of x.act } in
    ap statement_pieces (fold-roll-Stmt Act Stmt unlined_act unlined_step x)
    ∙ fold-roll-Stmt Printed Printed act_step statement_step z ∙ y.act.1
    ∙ sym (fold-roll-Stmt Printed Printed act_step statement_step x)

statement_same : (s : Stmt) → SameStmt s
statement_same = ind-Stmt SameAct SameStmt
    (λ x y is. subst (λ (z : Act-F Act Stmt). SameAct (roll-Act z)) is (act_layer y))
    (λ x y is. subst (λ (z : Stmt-F Act Stmt). SameStmt (roll-Stmt z)) is (stmt_layer y))

all_same : {A : Type 0} (f : A → List Piece) (left : A → A) → ((a : A) → f (left a) ≡ f a) → (xs : List A)
    → flat_map f (map left xs) ≡ flat_map f xs
all_same f left h [] = refl
all_same f left h (x ∷ xs) = ap (λ ps. ps ++ flat_map f (map left xs)) (h x) ∙ ap (λ ps. f x ++ ps) (all_same f left h xs)

cell_same : (c : CellDecl) → cell_pieces (unlined_cell c) ≡ cell_pieces c
cell_same c =
    let left : VarDecl → VarDecl = λ v. record v { line = 0 } in
    let Around : List Piece → List Piece = λ contents.
    after (line 0) (key_text K.Cell) ++ place_pieces c.place ++ after space (codes "{") ++ contents ++ after (line 0) (codes "}") in
    let body : List Piece = flat_map (λ s. statement_pieces s 1) (map unlined_statement c.body) in
    ap (λ ps. Around (ps ++ body)) (all_same var_pieces left (λ v. refl) c.vars)
    ∙ ap (λ ps. Around (flat_map var_pieces c.vars ++ ps))
    (all_same (λ s. statement_pieces s 1) unlined_statement (λ s. ap (λ (p : Printed). p 1) (statement_same s)) c.body)

-- sources that are the same but for their lines have the same canonical text
pub unlined_canonical : (s : Source) → canonical (unlined s) ≡ canonical s
unlined_canonical s =
    let A : List Piece = settings_pieces s in
    let B : List Piece = flat_map link_pieces s.links in
    let C : List Piece = flat_map message_pieces s.messages in
    let D : List Piece = flat_map cell_pieces (map unlined_cell s.cells) in
    ap (λ ps. joined (A ++ ps ++ flat_map message_pieces (map (λ (m : MessageDecl). record m { line = 0 }) s.messages) ++ D) ++ codes "\n")
    (all_same link_pieces (λ (l : LinkDecl). record l { line = 0 }) (λ l. refl) s.links)
    ∙ ap (λ ps. joined (A ++ B ++ ps ++ D) ++ codes "\n")
    (all_same message_pieces (λ (m : MessageDecl). record m { line = 0 }) (λ m. refl) s.messages)
    ∙ ap (λ ps. joined (A ++ B ++ C ++ ps) ++ codes "\n") (all_same cell_pieces unlined_cell cell_same s.cells)

pub same_text : (s t : Source) → unlined s ≡ unlined t → canonical s ≡ canonical t
same_text s t e = sym (unlined_canonical s) ∙ ap canonical e ∙ unlined_canonical t
