-- The runs and braces of a statement's canonical text fit only where its stack is not deep and few loops stand inside one another.
use Rattle.std.proofs.Common.{ℕ, ◌+◌, ◌++◌, List, [], ◌∷◌, map, max, refl, sym, subst, arith, append_assoc}
use Rattle.std.specs.Fmt.{decimal}
use Rattle.std.specs.List.{flat_map}
use Rattle.std.specs.Prelude.{codes}
use Rattle.sys_base.specs.Key.{key_text}
use Rattle.sys_base.specs.declared.key.Key.TheVariants as K
use Rattle.cell_tree.specs.Depth.{greatest, stack_depth, act_stack, statement_stack, act_loops, statement_loops}
use Rattle.cell_tree.specs.Pieces.{Piece, after, none, space, line}
use Rattle.cell_tree.specs.Printable.{names_of, act_names, statement_names}
use Rattle.cell_tree.specs.Statement.{Printed, block, for_pieces, if_pieces, act_step, statement_step, statement_pieces}
use Rattle.cell_tree.specs.declared.expression.Expr.{Expr}
use Rattle.cell_tree.specs.declared.statement.Act.{Act}
use Rattle.cell_tree.specs.declared.statement.Act.TheFolds.{fold-Act, fold-roll-Stmt, fold-roll-Act, ind-Stmt, map-Act, map-Stmt}
use Rattle.cell_tree.specs.declared.statement.Act.TheOpen.{Act-F, Stmt-F}
use Rattle.cell_tree.specs.declared.statement.Act.TheViews.{roll-Stmt, roll-Act}
use Rattle.cell_tree.specs.declared.statement.Stmt.{Stmt}
use Rattle.cell_tree.proofs.Bounded.{Bounded, bounded_none, bounded_join, bounded_less, bounded_line, bounded_block}
use Rattle.cell_tree.proofs.DepthSteps.{stack_in, loops_in}
use Rattle.cell_tree.proofs.PlainWords.{IsPlain, Stretch, stretch_one, stretch_join, stretch_less, name_plain, decimal_plain}
use Rattle.cell_tree.proofs.ShallowExpressions.{Names, names_front, names_back, in_brackets, expression_stretch}

-- the pieces of what a statement does, and its names
abbrev pieces_of : Act → Printed
pieces_of = fold-Act Printed Printed act_step statement_step

abbrev names_in : Act → List (List ℕ)
names_in = fold-Act (List (List ℕ)) (List (List ℕ)) act_names (λ statement. statement.act)

-- Inside any number of blocks the pieces are bounded, where the names are those of the language.
abbrev Bounds : ℕ → ℕ → List (List ℕ) → Printed → Type 0
Bounds stack loops names printed = Names names → (depth : ℕ) → Bounded stack loops (printed depth)

abbrev ActBounds : Act → Type 0
ActBounds a = Bounds (stack_in a) (loops_in a) (names_in a) (pieces_of a)

abbrev pub StmtBounds : Stmt → Type 0
StmtBounds s = Bounds (statement_stack s) (statement_loops s) (statement_names s) (statement_pieces s)

abbrev ActFact : Type 0
ActFact = (a : Act) × ActBounds a

abbrev StmtFact : Type 0
StmtFact = (s : Stmt) × StmtBounds s

abbrev kept : List StmtFact → List Stmt
kept items = map (λ (e : StmtFact). e.0) items

abbrev body_names : List Stmt → List (List ℕ)
body_names b = flat_map (λ (names : List (List ℕ)). names) (map statement_names b)

abbrev body_pieces : List Stmt → ℕ → List Piece
body_pieces b depth = flat_map (λ (printed : Printed). printed depth) (map statement_pieces b)

abbrev body_stack : List Stmt → ℕ
body_stack b = greatest (map statement_stack b)

abbrev body_loops : List Stmt → ℕ
body_loops b = greatest (map statement_loops b)

-- the statements of a block, one after another
body_bounded : (items : List StmtFact) (depth : ℕ) → Names (body_names (kept items))
    → Bounded (body_stack (kept items)) (body_loops (kept items)) (body_pieces (kept items) depth)
body_bounded [] depth ns = bounded_none
body_bounded (e ∷ items) depth ns =
    bounded_join (e.1 (names_front (statement_names e.0) (body_names (kept items)) ns) depth)
    (body_bounded items depth (names_back (statement_names e.0) (body_names (kept items)) ns))

-- what holds of one layer holds of what a statement does
close_act : (x : Act-F Act Stmt)
    → Bounds (act_stack (map-Act Act Stmt ℕ ℕ stack_in statement_stack x)) (act_loops (map-Act Act Stmt ℕ ℕ loops_in statement_loops x))
    (act_names (map-Act Act Stmt (List (List ℕ)) (List (List ℕ)) names_in statement_names x))
    (act_step (map-Act Act Stmt Printed Printed pieces_of statement_pieces x))
    → ActBounds (roll-Act x)
close_act x h =
    let stack : ℕ = act_stack (map-Act Act Stmt ℕ ℕ stack_in statement_stack x) in
    let loops : ℕ = act_loops (map-Act Act Stmt ℕ ℕ loops_in statement_loops x) in
    let names : List (List ℕ) = act_names (map-Act Act Stmt (List (List ℕ)) (List (List ℕ)) names_in statement_names x) in
    let a : Act = roll-Act x in
    subst (λ (n : ℕ). Bounds n (loops_in a) (names_in a) (pieces_of a)) (sym (fold-roll-Act ℕ ℕ act_stack (λ statement. statement.act) x))
    (subst (λ (n : ℕ). Bounds stack n (names_in a) (pieces_of a)) (sym (fold-roll-Act ℕ ℕ act_loops (λ statement. statement.act) x))
    (subst (λ (l : List (List ℕ)). Bounds stack loops l (pieces_of a))
    (sym (fold-roll-Act (List (List ℕ)) (List (List ℕ)) act_names (λ statement. statement.act) x))
    (subst (λ (p : Printed). Bounds stack loops names p) (sym (fold-roll-Act Printed Printed act_step statement_step x)) h)))

-- a keyword, or a mark that is no brace and no semicolon
word : (gap text : List ℕ) → IsPlain text → Stretch 1 (after gap text)
word gap text p = stretch_one {gap = gap} {word = text} p

-- a statement on one line: this many words at least before its semicolon
set_bounded : (n : List ℕ) (e : Expr) → Bounds (stack_depth e) 0 (n ∷ names_of e) (act_step (Act-F.Set n e))
set_bounded n e ns depth =
    bounded_line (stretch_less {n = 2 + stack_depth e} (omega arith)
    (stretch_join (stretch_join (word (line depth) n (name_plain n ns.0)) (word space (codes "=") (record { ends = refl })))
    (expression_stretch e ns.1 space)))

set_at_bounded : (n : List ℕ) (e f : Expr)
    → Bounds (max (stack_depth e) (1 + stack_depth f)) 0 (n ∷ names_of e ++ names_of f) (act_step (Act-F.SetAt n e f))
set_at_bounded n e f ns depth =
    let index = in_brackets (expression_stretch e (names_front (names_of e) (names_of f) ns.1) none) in
    let value = expression_stretch f (names_back (names_of e) (names_of f) ns.1) space in
    bounded_line (stretch_less {m = max (stack_depth e) (1 + stack_depth f)} {n = 1 + stack_depth e + 1 + stack_depth f} (omega arith)
    (stretch_join (stretch_join (stretch_join (word (line depth) n (name_plain n ns.0)) index)
    (word space (codes "=") (record { ends = refl }))) value))

write_bounded : (m : List ℕ) (e : Expr) → Bounds (stack_depth e) 0 (m ∷ names_of e) (act_step (Act-F.Write m e))
write_bounded m e ns depth =
    bounded_line (stretch_less {n = 2 + stack_depth e} (omega arith)
    (stretch_join (stretch_join (word (line depth) (key_text K.Write) (record { ends = refl })) (word space m (name_plain m ns.0)))
    (expression_stretch e ns.1 space)))

read_bounded : (m n : List ℕ) → Bounds 0 0 (m ∷ n ∷ []) (act_step (Act-F.Read m n))
read_bounded m n ns depth =
    bounded_line (stretch_less {n = 3} (omega arith)
    (stretch_join (stretch_join (word (line depth) (key_text K.Read) (record { ends = refl })) (word space m (name_plain m ns.0)))
    (word space n (name_plain n ns.1.0))))

take_bounded : (n : List ℕ) → Bounds 0 0 (n ∷ []) (act_step (Act-F.Take n))
take_bounded n ns depth =
    bounded_line (stretch_less {n = 2} (omega arith)
    (stretch_join (word (line depth) (key_text K.Take) (record { ends = refl })) (word space n (name_plain n ns.0))))

emit_bounded : (e : Expr) → Bounds (stack_depth e) 0 (names_of e) (act_step (Act-F.Emit e))
emit_bounded e ns depth =
    bounded_line (stretch_less {n = 1 + stack_depth e} (omega arith)
    (stretch_join (word (line depth) (key_text K.Emit) (record { ends = refl })) (expression_stretch e ns space)))

-- the words of a `for` line and its block
loop_bounded : (c : List ℕ) (n : ℕ) (b : List StmtFact)
    → Bounds (body_stack (kept b)) (1 + body_loops (kept b)) (c ∷ body_names (kept b)) (act_step (Act-F.For c n (map statement_pieces (kept b))))
loop_bounded c n b ns depth =
    let head : Stretch 0 (for_pieces c n depth) = stretch_less {n = 3} (omega arith)
    (stretch_join (stretch_join (word (line depth) (key_text K.For) (record { ends = refl })) (word space c (name_plain c ns.0)))
    (word space (decimal n) (decimal_plain n))) in
    bounded_less (omega arith) (omega arith) (bounded_block space (line depth) head (body_bounded b (depth + 1) ns.1))

-- the words of an `if` line and its two blocks
choice_bounded : (e : Expr) (b c : List StmtFact)
    → Bounds (max (stack_depth e) (max (body_stack (kept b)) (body_stack (kept c)))) (max (body_loops (kept b)) (body_loops (kept c)))
    (names_of e ++ body_names (kept b) ++ body_names (kept c))
    (act_step (Act-F.If e (map statement_pieces (kept b)) (map statement_pieces (kept c))))
choice_bounded e b c ns depth =
    let first_names : Names (names_of e ++ body_names (kept b)) = names_front (names_of e ++ body_names (kept b)) (body_names (kept c)) ns in
    let head : Stretch (stack_depth e) (if_pieces e depth) = stretch_less {n = 1 + stack_depth e} (omega arith)
    (stretch_join (word (line depth) (key_text K.If) (record { ends = refl }))
    (expression_stretch e (names_front (names_of e) (body_names (kept b)) first_names) space)) in
    let first = bounded_block space (line depth) head (body_bounded b (depth + 1) (names_back (names_of e) (body_names (kept b)) first_names)) in
    let otherwise : Stretch 0 (after space (key_text K.Else)) =
    stretch_less {n = 1} (omega arith) (word space (key_text K.Else) (record { ends = refl })) in
    let second = bounded_block space (line depth) otherwise
    (body_bounded c (depth + 1) (names_back (names_of e ++ body_names (kept b)) (body_names (kept c)) ns)) in
    let one : List Piece = block (map statement_pieces (kept b)) depth in
    let two : List Piece = block (map statement_pieces (kept c)) depth in
    bounded_less (omega arith) (omega arith)
    (subst (λ (ps : List Piece). Bounded (max (max (stack_depth e) (body_stack (kept b))) (max 0 (body_stack (kept c))))
    (max (1 + body_loops (kept b)) (1 + body_loops (kept c))) ps)
    (sym (append_assoc (if_pieces e depth ++ one) (after space (key_text K.Else)) two)) (bounded_join first second))

-- each form of what a statement does, over the facts of what stands in it
act_layer : (y : Act-F ActFact StmtFact) → ActBounds (roll-Act (map-Act ActFact StmtFact Act Stmt (λ e. e.0) (λ e. e.0) y))
act_layer (Act-F.Set n e) = close_act (Act-F.Set n e) (set_bounded n e)
act_layer (Act-F.SetAt n e f) = close_act (Act-F.SetAt n e f) (set_at_bounded n e f)
act_layer (Act-F.Write m e) = close_act (Act-F.Write m e) (write_bounded m e)
act_layer (Act-F.Read m n) = close_act (Act-F.Read m n) (read_bounded m n)
act_layer (Act-F.Take n) = close_act (Act-F.Take n) (take_bounded n)
act_layer (Act-F.Emit e) = close_act (Act-F.Emit e) (emit_bounded e)
act_layer (Act-F.For c n b) = close_act (Act-F.For c n (kept b)) (loop_bounded c n b)
act_layer (Act-F.If e b c) = close_act (Act-F.If e (kept b) (kept c)) (choice_bounded e b c)

-- a statement, over the fact of what it does
stmt_layer : (y : Stmt-F ActFact StmtFact) → StmtBounds (roll-Stmt (map-Stmt ActFact StmtFact Act Stmt (λ e. e.0) (λ e. e.0) y))
stmt_layer y =
    let x : Stmt-F Act Stmt = map-Stmt ActFact StmtFact Act Stmt (λ e. e.0) (λ e. e.0) y in
    let s : Stmt = roll-Stmt x in
    subst (λ (n : ℕ). Bounds n (statement_loops s) (statement_names s) (statement_pieces s))
    (sym (fold-roll-Stmt ℕ ℕ act_stack (λ statement. statement.act) x))
    (subst (λ (n : ℕ). Bounds (stack_in x.act) n (statement_names s) (statement_pieces s))
    (sym (fold-roll-Stmt ℕ ℕ act_loops (λ statement. statement.act) x))
    (subst (λ (l : List (List ℕ)). Bounds (stack_in x.act) (loops_in x.act) l (statement_pieces s))
    (sym (fold-roll-Stmt (List (List ℕ)) (List (List ℕ)) act_names (λ statement. statement.act) x))
    (subst (λ (p : Printed). Bounds (stack_in x.act) (loops_in x.act) (names_in x.act) p)
    (sym (fold-roll-Stmt Printed Printed act_step statement_step x)) y.act.1)))

-- the pieces of a statement are bounded by the depth of its stack and of its loops
pub statement_bounded : (s : Stmt) → StmtBounds s
statement_bounded = ind-Stmt ActBounds StmtBounds
    (λ x y is. subst (λ (z : Act-F Act Stmt). ActBounds (roll-Act z)) is (act_layer y))
    (λ x y is. subst (λ (z : Stmt-F Act Stmt). StmtBounds (roll-Stmt z)) is (stmt_layer y))
