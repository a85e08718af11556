-- The grammar of sources: for each production the words that it stands for, and what they read to.
--
-- Each relation says that the first list of words, up to the second list, which is the rest after them, reads to a
-- tree.
use Rattle.std.specs.Prelude.{ℕ, ◌≡◌, List, [], ◌∷◌, codes, Option, Some, None}
use Rattle.sys_base.specs.declared.key.Key.TheVariants as K
use Rattle.sys_base.specs.declared.kinds.Dir.{Dir}
use Rattle.sys_base.specs.declared.kinds.Op.{Op}
use Rattle.sys_base.specs.declared.kinds.Op.TheVariants as O
use Rattle.cell_lexer.specs.declared.token.Mark.TheVariants as M
use Rattle.cell_tree.specs.Canonical.{dir_text}
use Rattle.cell_tree.specs.declared.expression.Expr.{Expr}
use Rattle.cell_tree.specs.declared.expression.Expr.TheVariants as E
use Rattle.cell_tree.specs.declared.source.CellDecl.{CellDecl}
use Rattle.cell_tree.specs.declared.source.LinkDecl.{LinkDecl}
use Rattle.cell_tree.specs.declared.source.MessageDecl.{MessageDecl}
use Rattle.cell_tree.specs.declared.source.Place.{Place}
use Rattle.cell_tree.specs.declared.source.Source.{Source}
use Rattle.cell_tree.specs.declared.source.VarDecl.{VarDecl}
use Rattle.cell_tree.specs.declared.statement.Act.{Act}
use Rattle.cell_tree.specs.declared.statement.Act.TheVariants as A
use Rattle.cell_tree.specs.declared.statement.Act.TheViews.{roll-Stmt}
use Rattle.cell_tree.specs.declared.statement.Stmt.{Stmt}
use Rattle.cell_parser.specs.Lexeme.{Word, Named, Numeral, Keyword, Marked, Lexeme, At}

-- what a word does after an operand: the operator that it is, the bracket of an index, or none of these
pub data Class : Type 0 where
  Product : Op → Class
  Additive : Op → Class
  Comparison : Op → Class
  Bracket : Class
  Other : Class

-- the class of a word
abbrev pub class : Word → Class
class (Marked M.Star) = Product O.Mul
class (Marked M.Slash) = Product O.Div
class (Marked M.Percent) = Product O.Rem
class (Marked M.Plus) = Additive O.Add
class (Marked M.Minus) = Additive O.Sub
class (Marked M.Less) = Comparison O.Less
class (Marked M.AtMost) = Comparison O.AtMost
class (Marked M.Same) = Comparison O.Same
class (Marked M.Differ) = Comparison O.Differ
class (Marked M.OpenBracket) = Bracket
class _ = Other

-- the levels of expressions, from `expr` to `atom`
pub data Level : Type 0 where
  Whole : Level
  Sum : Level
  Term : Level
  Unary : Level
  Atom : Level

-- The words read to an expression of a level.
pub data ReadsExpr : Level → Expr → List Lexeme → List Lexeme → Type 0 where
  -- expr = sum
  sum : {e : Expr} {ts us : List Lexeme} → ReadsExpr Sum e ts us → ReadsExpr Whole e ts us
  -- expr = sum ("<" | "<=" | "==" | "!=") sum
  comparison : {l : ℕ} {w : Word} {op : Op} {e f : Expr} {ts us vs : List Lexeme} → ReadsExpr Sum e ts (At l w ∷ us)
      → class w ≡ Comparison op → ReadsExpr Sum f us vs → ReadsExpr Whole (E.Binary op e f) ts vs
  -- sum = term
  term : {e : Expr} {ts us : List Lexeme} → ReadsExpr Term e ts us → ReadsExpr Sum e ts us
  -- sum = sum ("+" | "-") term
  addition : {l : ℕ} {w : Word} {op : Op} {e f : Expr} {ts us vs : List Lexeme} → ReadsExpr Sum e ts (At l w ∷ us)
      → class w ≡ Additive op → ReadsExpr Term f us vs → ReadsExpr Sum (E.Binary op e f) ts vs
  -- term = unary
  unary : {e : Expr} {ts us : List Lexeme} → ReadsExpr Unary e ts us → ReadsExpr Term e ts us
  -- term = term ("*" | "/" | "%") unary
  product : {l : ℕ} {w : Word} {op : Op} {e f : Expr} {ts us vs : List Lexeme} → ReadsExpr Term e ts (At l w ∷ us)
      → class w ≡ Product op → ReadsExpr Unary f us vs → ReadsExpr Term (E.Binary op e f) ts vs
  -- unary = "-" atom
  minus : {l : ℕ} {e : Expr} {ts us : List Lexeme} → ReadsExpr Atom e ts us
      → ReadsExpr Unary (E.Negate e) (At l (Marked M.Minus) ∷ ts) us
  -- unary = atom
  atom : {e : Expr} {ts us : List Lexeme} → ReadsExpr Atom e ts us → ReadsExpr Unary e ts us
  -- atom = number
  number : {l n : ℕ} {us : List Lexeme} → ReadsExpr Atom (E.Number n) (At l (Numeral n) ∷ us) us
  -- atom = name
  named : {l : ℕ} {n : List ℕ} {us : List Lexeme} → ReadsExpr Atom (E.Named n) (At l (Named n) ∷ us) us
  -- atom = name "[" expr "]"
  element : {l k j : ℕ} {n : List ℕ} {e : Expr} {ts us : List Lexeme}
      → ReadsExpr Whole e ts (At j (Marked M.CloseBracket) ∷ us)
      → ReadsExpr Atom (E.At n e) (At l (Named n) ∷ At k (Marked M.OpenBracket) ∷ ts) us
  -- atom = "(" expr ")"
  parens : {l j : ℕ} {e : Expr} {ts us : List Lexeme} → ReadsExpr Whole e ts (At j (Marked M.CloseParen) ∷ us)
      → ReadsExpr Atom e (At l (Marked M.OpenParen) ∷ ts) us

-- a statement on a line
abbrev pub on_line : ℕ → Act → Stmt
on_line l act = roll-Stmt (record { line = l; act = act })

mutual
  -- The words read to a statement.
  pub data ReadsStmt : Stmt → List Lexeme → List Lexeme → Type 0 where
    -- name "=" expr ";"
    set : {l k j : ℕ} {n : List ℕ} {e : Expr} {ts us : List Lexeme}
        → ReadsExpr Whole e ts (At j (Marked M.Semicolon) ∷ us)
        → ReadsStmt (on_line l (A.Set n e)) (At l (Named n) ∷ At k (Marked M.Assign) ∷ ts) us
    -- name "[" expr "]" "=" expr ";"
    set_at : {l k j i h : ℕ} {n : List ℕ} {e f : Expr} {ts us vs : List Lexeme}
        → ReadsExpr Whole e ts (At j (Marked M.CloseBracket) ∷ At i (Marked M.Assign) ∷ us)
        → ReadsExpr Whole f us (At h (Marked M.Semicolon) ∷ vs)
        → ReadsStmt (on_line l (A.SetAt n e f)) (At l (Named n) ∷ At k (Marked M.OpenBracket) ∷ ts) vs
    -- "write" name expr ";"
    write : {l k j : ℕ} {m : List ℕ} {e : Expr} {ts us : List Lexeme}
        → ReadsExpr Whole e ts (At j (Marked M.Semicolon) ∷ us)
        → ReadsStmt (on_line l (A.Write m e)) (At l (Keyword K.Write) ∷ At k (Named m) ∷ ts) us
    -- "read" name name ";"
    read : {l k j i : ℕ} {m n : List ℕ} {us : List Lexeme}
        → ReadsStmt (on_line l (A.Read m n)) (At l (Keyword K.Read) ∷ At k (Named m) ∷ At j (Named n) ∷ At i (Marked M.Semicolon) ∷ us) us
    -- "take" name ";"
    take : {l k j : ℕ} {n : List ℕ} {us : List Lexeme}
        → ReadsStmt (on_line l (A.Take n)) (At l (Keyword K.Take) ∷ At k (Named n) ∷ At j (Marked M.Semicolon) ∷ us) us
    -- "emit" expr ";"
    emit : {l j : ℕ} {e : Expr} {ts us : List Lexeme} → ReadsExpr Whole e ts (At j (Marked M.Semicolon) ∷ us)
        → ReadsStmt (on_line l (A.Emit e)) (At l (Keyword K.Emit) ∷ ts) us
    -- "for" name number "{" statement* "}"
    loop : {l k j i h n : ℕ} {c : List ℕ} {b : List Stmt} {ts us : List Lexeme}
        → ReadsBody b ts (At h (Marked M.CloseBrace) ∷ us)
        → ReadsStmt (on_line l (A.For c n b)) (At l (Keyword K.For) ∷ At k (Named c) ∷ At j (Numeral n) ∷ At i (Marked M.OpenBrace) ∷ ts) us
    -- "if" expr "{" statement* "}" "else" "{" statement* "}"
    choice : {l k j i h g : ℕ} {e : Expr} {b c : List Stmt} {ts us vs ws : List Lexeme}
        → ReadsExpr Whole e ts (At k (Marked M.OpenBrace) ∷ us)
        → ReadsBody b us (At j (Marked M.CloseBrace) ∷ At i (Keyword K.Else) ∷ At h (Marked M.OpenBrace) ∷ vs)
        → ReadsBody c vs (At g (Marked M.CloseBrace) ∷ ws)
        → ReadsStmt (on_line l (A.If e b c)) (At l (Keyword K.If) ∷ ts) ws

  -- The words read to statements.
  pub data ReadsBody : List Stmt → List Lexeme → List Lexeme → Type 0 where
    -- no statement
    none : {us : List Lexeme} → ReadsBody [] us us
    -- a statement and statements
    more : {s : Stmt} {b : List Stmt} {ts us vs : List Lexeme} → ReadsStmt s ts us → ReadsBody b us vs
        → ReadsBody (s ∷ b) ts vs

-- The words read to a list, each of whose items words read to.
pub data Star {A : Type 0} (R : A → List Lexeme → List Lexeme → Type 0) : List A → List Lexeme → List Lexeme
    → Type 0 where
  -- no item
  done : {us : List Lexeme} → Star R [] us us
  -- an item and items
  next : {a : A} {rest : List A} {ts us vs : List Lexeme} → R a ts us → Star R rest us vs → Star R (a ∷ rest) ts vs

-- The words read to a place.
pub data ReadsPlace : Place → List Lexeme → List Lexeme → Type 0 where
  -- number "." number
  place : {l k j r c : ℕ} {us : List Lexeme}
      → ReadsPlace (record { row = r; col = c }) (At l (Numeral r) ∷ At k (Marked M.Dot) ∷ At j (Numeral c) ∷ us) us

-- The words read to a direction.
pub data ReadsDir : Dir → List Lexeme → List Lexeme → Type 0 where
  -- "N" | "E" | "S" | "W"
  dir : {l : ℕ} {n : List ℕ} {d : Dir} {us : List Lexeme} → n ≡ dir_text d → ReadsDir d (At l (Named n) ∷ us) us

-- The words read to the number and the line of a `buffer` line, where one is given, and otherwise to 0 and 0.
pub data ReadsBuffer : ℕ × ℕ → List Lexeme → List Lexeme → Type 0 where
  -- nothing
  no_buffer : {us : List Lexeme} → ReadsBuffer (0, 0) us us
  -- "buffer" number ";"
  buffer : {l k j n : ℕ} {us : List Lexeme}
      → ReadsBuffer (n, l) (At l (Keyword K.Buffer) ∷ At k (Numeral n) ∷ At j (Marked M.Semicolon) ∷ us) us

-- The words read to a `link` line.
pub data ReadsLink : LinkDecl → List Lexeme → List Lexeme → Type 0 where
  -- "link" place dir "queues" number ";"
  link : {l k j i q : ℕ} {p : Place} {d : Dir} {ts us vs : List Lexeme} → ReadsPlace p ts us
      → ReadsDir d us (At k (Keyword K.Queues) ∷ At j (Numeral q) ∷ At i (Marked M.Semicolon) ∷ vs)
      → ReadsLink (record { place = p; dir = d; queues = q; line = l }) (At l (Keyword K.Link) ∷ ts) vs

-- The words read to a route, where one is given.
pub data ReadsRoute : List Dir → List Lexeme → List Lexeme → Type 0 where
  -- nothing
  no_route : {us : List Lexeme} → ReadsRoute [] us us
  -- "route" dir+
  route : {l : ℕ} {d : Dir} {ds : List Dir} {ts us vs : List Lexeme} → ReadsDir d ts us → Star ReadsDir ds us vs
      → ReadsRoute (d ∷ ds) (At l (Keyword K.Route) ∷ ts) vs

-- The words read to a label, where one is given.
pub data ReadsLabel : Option ℕ → List Lexeme → List Lexeme → Type 0 where
  -- nothing
  no_label : {us : List Lexeme} → ReadsLabel None us us
  -- "label" number
  label : {l k n : ℕ} {us : List Lexeme} → ReadsLabel (Some n) (At l (Keyword K.Label) ∷ At k (Numeral n) ∷ us) us

-- The words read to a `message` line.
pub data ReadsMessage : MessageDecl → List Lexeme → List Lexeme → Type 0 where
  -- "message" name "from" place "to" place ("route" dir+)? ("label" number)? ";"
  message : {l k j i h : ℕ} {n : List ℕ} {p q : Place} {r : List Dir} {o : Option ℕ} {ts us vs ws xs : List Lexeme}
      → ReadsPlace p ts (At i (Keyword K.To) ∷ us) → ReadsPlace q us vs → ReadsRoute r vs ws
      → ReadsLabel o ws (At h (Marked M.Semicolon) ∷ xs)
      → ReadsMessage (record { name = n; from = p; to = q; route = r; label = o; line = l })
      (At l (Keyword K.Message) ∷ At k (Named n) ∷ At j (Keyword K.From) ∷ ts) xs

-- The words read to the length of an array, where one is given.
pub data ReadsLength : Option ℕ → List Lexeme → List Lexeme → Type 0 where
  -- nothing
  no_length : {us : List Lexeme} → ReadsLength None us us
  -- "[" number "]"
  length : {l k j n : ℕ} {us : List Lexeme}
      → ReadsLength (Some n) (At l (Marked M.OpenBracket) ∷ At k (Numeral n) ∷ At j (Marked M.CloseBracket) ∷ us) us

-- The words read to a `var` line.
pub data ReadsVar : VarDecl → List Lexeme → List Lexeme → Type 0 where
  -- "var" name ("[" number "]")? ";"
  variable : {l k j : ℕ} {n : List ℕ} {o : Option ℕ} {ts us : List Lexeme}
      → ReadsLength o ts (At j (Marked M.Semicolon) ∷ us)
      → ReadsVar (record { name = n; length = o; line = l }) (At l (Keyword K.Var) ∷ At k (Named n) ∷ ts) us

-- The words read to a cell.
pub data ReadsCell : CellDecl → List Lexeme → List Lexeme → Type 0 where
  -- "cell" place "{" vardecl* statement* "}"
  cell : {l k j : ℕ} {p : Place} {xs : List VarDecl} {b : List Stmt} {ts us vs ws : List Lexeme}
      → ReadsPlace p ts (At k (Marked M.OpenBrace) ∷ us) → Star ReadsVar xs us vs
      → ReadsBody b vs (At j (Marked M.CloseBrace) ∷ ws)
      → ReadsCell (record { place = p; vars = xs; body = b; line = l }) (At l (Keyword K.Cell) ∷ ts) ws

-- The words are those of a source, with nothing after them.
pub data Reads : List Lexeme → Source → Type 0 where
  -- "array" number "x" number ";" "queues" number ";" ("buffer" number ";")? linkdecl* message* celldecl*
  program : {l k j i h g f e r c q : ℕ} {x : List ℕ} {b : ℕ × ℕ} {links : List LinkDecl} {messages : List MessageDecl}
      {cells : List CellDecl} {ts us vs ws : List Lexeme} → x ≡ codes "x" → ReadsBuffer b ts us
      → Star ReadsLink links us vs → Star ReadsMessage messages vs ws → Star ReadsCell cells ws []
      → Reads
      (At l (Keyword K.Array) ∷ At k (Numeral r) ∷ At j (Named x) ∷ At i (Numeral c) ∷ At h (Marked M.Semicolon)
      ∷ At g (Keyword K.Queues) ∷ At f (Numeral q) ∷ At e (Marked M.Semicolon) ∷ ts)
      (record {
        rows = r;
        cols = c;
        array_line = l;
        queues = q;
        queues_line = g;
        buffer = b.0;
        buffer_line = b.1;
        links = links;
        messages = messages;
        cells = cells;
      })
