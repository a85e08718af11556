-- A machine that reads a source one word at a time, with the parts of the tree that it has so far.
use Rattle.std.specs.Prelude.{ℕ, suc, ◌==◌, Bool, true, false, List, [], ◌∷◌, ◌++◌, length, codes, Option, Some, None, Result, Ok, Err, if◌then◌else◌}
use Rattle.std.specs.Str.{bytes_eq}
use Rattle.sys_base.specs.Key.{key_text}
use Rattle.sys_base.specs.declared.key.Key.{Key}
use Rattle.sys_base.specs.declared.key.Key.TheVariants as K
use Rattle.sys_base.specs.declared.kinds.Dir.{Dir}
use Rattle.sys_base.specs.declared.kinds.Dir.TheVariants as D
use Rattle.sys_base.specs.declared.kinds.Op.{Op}
use Rattle.cell_lexer.specs.Forms.{mark_text}
use Rattle.cell_lexer.specs.declared.token.Mark.{Mark}
use Rattle.cell_lexer.specs.declared.token.Mark.TheVariants as M
use Rattle.cell_tree.specs.Canonical.{dir_text}
use Rattle.cell_tree.specs.declared.expression.Expr.{Expr}
use Rattle.cell_tree.specs.declared.expression.Expr.TheVariants as E
use Rattle.cell_tree.specs.declared.source.CellDecl.{CellDecl}
use Rattle.cell_tree.specs.declared.source.LinkDecl.{LinkDecl}
use Rattle.cell_tree.specs.declared.source.MessageDecl.{MessageDecl}
use Rattle.cell_tree.specs.declared.source.Place.{Place}
use Rattle.cell_tree.specs.declared.source.Source.{Source}
use Rattle.cell_tree.specs.declared.source.VarDecl.{VarDecl}
use Rattle.cell_tree.specs.declared.statement.Act.{Act}
use Rattle.cell_tree.specs.declared.statement.Act.TheVariants as A
use Rattle.cell_tree.specs.declared.statement.Stmt.{Stmt}
use Rattle.cell_parser.specs.Grammar.{Class, Product, Additive, Comparison, Bracket, class, on_line}
use Rattle.cell_parser.specs.Lexeme.{Word, Named, Numeral, Keyword, Marked, Lexeme, At}

-- whether two words are the same
abbrev pub same_word : Word → Word → Bool
same_word (Named a) (Named b) = bytes_eq a b
same_word (Numeral m) (Numeral n) = m == n
same_word (Keyword a) (Keyword b) = bytes_eq (key_text a) (key_text b)
same_word (Marked a) (Marked b) = bytes_eq (mark_text a) (mark_text b)
same_word _ _ = false

-- the direction that a name spells
abbrev pub dir_of : List ℕ → Option Dir
dir_of n =
    if bytes_eq n (dir_text D.N) then Some D.N
    else (if bytes_eq n (dir_text D.E) then Some D.E
    else (if bytes_eq n (dir_text D.S) then Some D.S
    else (if bytes_eq n (dir_text D.W) then Some D.W else None)))

-- what ends a whole expression
pub data Closer : Type 0 where
  ByParen : Closer
  ByBracket : Closer
  BySemicolon : Closer
  ByBrace : Closer

-- the mark that ends a whole expression
abbrev pub closing : Closer → Mark
closing ByParen = M.CloseParen
closing ByBracket = M.CloseBracket
closing BySemicolon = M.Semicolon
closing ByBrace = M.OpenBrace

-- the open blocks around statements, from the inside: what each will be, and the statements before it
pub data Around : Type 0 where
  -- the cell, with its variables
  InCell : Source → CellDecl → Around
  -- a loop: its line, its counter and its turns
  InLoop : ℕ → List ℕ → ℕ → List Stmt → Around → Around
  -- the first arm of a choice: its line and its test
  InYes : ℕ → Expr → List Stmt → Around → Around
  -- the second arm of a choice: its line, its test and its first arm
  InNo : ℕ → Expr → List Stmt → List Stmt → Around → Around

mutual
  -- what is done with the next operand
  pub data Open : Type 0 where
    -- it is negated
    Negates : Open → Open
    -- it is the right operand of this operator and this left one
    Operand : Op → Expr → Open → Open
    -- it may go on as a term
    Terms : Open → Open
    -- it may go on as a sum
    Sums : Open → Open
    -- it may go on as a comparison
    Compares : Open → Open
    -- it is a whole expression, and a mark after it leads to a state
    Then : Closer → (Expr → State) → Open

  -- what is wanted next
  pub data State : Type 0 where
    -- an operand, with a minus or without
    Want : Open → State
    -- an operand without a minus
    WantAtom : Open → State
    -- what goes on after a name that is an operand: an index or not
    Called : List ℕ → Open → State
    -- what goes on after an operand
    Have : Expr → Open → State
    -- the next statement or the end of the block, after these statements of it
    Body : List Stmt → Around → State
    -- the target of an assignment goes on after its name
    Target : ℕ → List ℕ → List Stmt → Around → State
    -- this word
    Expect : Word → State → State
    -- a name
    ExpectName : (List ℕ → State) → State
    -- a number
    ExpectNumber : (ℕ → State) → State
    -- this keyword, whose line is kept
    ExpectKey : Key → (ℕ → State) → State
    -- a direction
    ExpectDir : (Dir → State) → State
    -- a route or none, a label or none, and a semicolon
    Route : (List Dir → Option ℕ → State) → State
    -- further directions after these, a label or none, and a semicolon
    Dirs : List Dir → (List Dir → Option ℕ → State) → State
    -- a label or none, and a semicolon
    Label : (Option ℕ → State) → State
    -- a length or none, and a semicolon
    Length : (Option ℕ → State) → State
    -- a `buffer` line or none, and then the lists, after this part of a source with the buffer and its line
    Buffer : (ℕ → ℕ → Source) → State
    -- a `link`, `message` or `cell` line, after this part of a source
    Links : Source → State
    -- a `message` or `cell` line
    Messages : Source → State
    -- a `cell` line
    Cells : Source → State
    -- a `var` line or a statement, after this part of a cell
    Vars : Source → CellDecl → State

-- a whole expression is wanted
abbrev pub whole : Closer → (Expr → State) → State
whole c f = Want (Terms (Sums (Compares (Then c f))))

-- a mark is wanted
abbrev pub mark : Mark → State → State
mark m state = Expect (Marked m) state

-- a keyword is wanted
abbrev pub key : Key → State → State
key k state = Expect (Keyword k) state

-- a number and a semicolon are wanted
abbrev pub setting : (ℕ → State) → State
setting f = ExpectNumber (λ n. mark M.Semicolon (f n))

-- a place is wanted
abbrev pub place : (Place → State) → State
place f = ExpectNumber (λ r. mark M.Dot (ExpectNumber (λ c. f (record { row = r; col = c }))))

-- the statement is the next one of the block
abbrev pub stated : ℕ → Act → List Stmt → Around → State
stated l act b around = Body (b ++ on_line l act ∷ []) around

-- a whole expression is wanted, and a semicolon after it ends a statement
abbrev pub ended : ℕ → (Expr → Act) → List Stmt → Around → State
ended l act b around = whole BySemicolon (λ e. stated l (act e) b around)

-- what follows the bracket after the name in an assignment to an element
abbrev pub index : ℕ → List ℕ → List Stmt → Around → State
index l n b around = whole ByBracket (λ e. mark M.Assign (ended l (λ f. A.SetAt n e f) b around))

-- what follows `write`
abbrev pub write : ℕ → List Stmt → Around → State
write l b around = ExpectName (λ m. ended l (λ e. A.Write m e) b around)

-- what follows `read`
abbrev pub read : ℕ → List Stmt → Around → State
read l b around = ExpectName (λ m. ExpectName (λ n. mark M.Semicolon (stated l (A.Read m n) b around)))

-- what follows `take`
abbrev pub take : ℕ → List Stmt → Around → State
take l b around = ExpectName (λ n. mark M.Semicolon (stated l (A.Take n) b around))

-- what follows `emit`
abbrev pub emit : ℕ → List Stmt → Around → State
emit l b around = ended l (λ e. A.Emit e) b around

-- what follows `for`
abbrev pub loop : ℕ → List Stmt → Around → State
loop l b around = ExpectName (λ c. ExpectNumber (λ n. mark M.OpenBrace (Body [] (InLoop l c n b around))))

-- what follows `if`
abbrev pub choice : ℕ → List Stmt → Around → State
choice l b around = whole ByBrace (λ e. Body [] (InYes l e b around))

-- the source with one more `link` line
abbrev pub with_link : Source → LinkDecl → Source
with_link s x = record s { links = s.links ++ x ∷ [] }

-- the source with one more message
abbrev pub with_message : Source → MessageDecl → Source
with_message s x = record s { messages = s.messages ++ x ∷ [] }

-- the source with one more cell
abbrev pub with_cell : Source → CellDecl → Source
with_cell s x = record s { cells = s.cells ++ x ∷ [] }

-- the cell with one more variable
abbrev pub with_var : CellDecl → VarDecl → CellDecl
with_var c x = record c { vars = c.vars ++ x ∷ [] }

-- what follows the direction in a `link` line
abbrev pub link_queues : ℕ → Source → Place → Dir → State
link_queues l s p d =
    key K.Queues (ExpectNumber (λ q. mark M.Semicolon (Links (with_link s (record { place = p; dir = d; queues = q; line = l })))))

-- what follows `link`
abbrev pub link : ℕ → Source → State
link l s = place (λ p. ExpectDir (λ d. link_queues l s p d))

-- what follows a message, with its route and its label
abbrev pub messaged : ℕ → Source → List ℕ → Place → Place → List Dir → Option ℕ → State
messaged l s n p q r o = Messages (with_message s (record { name = n; from = p; to = q; route = r; label = o; line = l }))

-- what follows the name in a `message` line
abbrev pub message_ends : ℕ → Source → List ℕ → State
message_ends l s n = key K.From (place (λ p. key K.To (place (λ q. Route (λ r o. messaged l s n p q r o)))))

-- what follows `message`
abbrev pub message : ℕ → Source → State
message l s = ExpectName (λ n. message_ends l s n)

-- a cell on a line, before its variables
abbrev pub opened : ℕ → Place → CellDecl
opened l p = record { place = p; vars = []; body = []; line = l }

-- what follows `cell`
abbrev pub cell : ℕ → Source → State
cell l s = place (λ p. mark M.OpenBrace (Vars s (opened l p)))

-- what follows `var`
abbrev pub variable : ℕ → Source → CellDecl → State
variable l s c = ExpectName (λ n. Length (λ o. Vars s (with_var c (record { name = n; length = o; line = l }))))

-- what follows the closing brace of the innermost block with these statements
abbrev pub closed : List Stmt → Around → State
closed b (InCell s c) = Cells (with_cell s (record c { body = b }))
closed b (InLoop l c n before around) = stated l (A.For c n b) before around
closed b (InYes l e before around) = key K.Else (mark M.OpenBrace (Body [] (InNo l e b before around)))
closed b (InNo l e first before around) = stated l (A.If e first b) before around

-- what follows a word that an operand without a minus begins with
abbrev pub at_atom : Word → Open → Option State
at_atom (Numeral n) k = Some (Have (E.Number n) k)
at_atom (Named n) k = Some (Called n k)
at_atom (Marked M.OpenParen) k = Some (whole ByParen (λ e. Have e k))
at_atom _ k = None

-- what follows a word that an operand begins with
abbrev pub at_operand : Word → Open → Option State
at_operand (Marked M.Minus) k = Some (WantAtom (Negates k))
at_operand w k = at_atom w k

-- what follows a word of this class after a term, or something else where it does not go on with the term
abbrev pub at_terms : Class → Expr → Open → Option State → Option State
at_terms (Product op) e k other = Some (Want (Operand op e (Terms k)))
at_terms _ e k other = other

-- what follows a word of this class after a sum, or something else where it does not go on with the sum
abbrev pub at_sums : Class → Expr → Open → Option State → Option State
at_sums (Additive op) e k other = Some (Want (Terms (Operand op e (Sums k))))
at_sums _ e k other = other

-- what follows a word of this class after the left side of a comparison, or something else where it is not compared
abbrev pub at_compares : Class → Expr → Open → Option State → Option State
at_compares (Comparison op) e k other = Some (Want (Terms (Sums (Operand op e k))))
at_compares _ e k other = other

-- what follows a word of this class after a name that is an operand, or something else where it has no index
abbrev pub at_called : Class → List ℕ → Open → Option State → Option State
at_called Bracket n k other = Some (whole ByBracket (λ e. Have (E.At n e) k))
at_called _ n k other = other

-- what follows where a word stands as it must
abbrev pub if_same : Bool → State → Option State
if_same true state = Some state
if_same false state = None

-- what follows a word after an operand
abbrev pub at_open : Expr → Open → Word → Option State
at_open e (Negates k) w = at_open (E.Negate e) k w
at_open f (Operand op e k) w = at_open (E.Binary op e f) k w
at_open e (Terms k) w = at_terms (class w) e k (at_open e k w)
at_open e (Sums k) w = at_sums (class w) e k (at_open e k w)
at_open e (Compares k) w = at_compares (class w) e k (at_open e k w)
at_open e (Then c f) w = if_same (same_word (Marked (closing c)) w) (f e)

-- what follows a word after statements of a block
abbrev pub at_body : Word → ℕ → List Stmt → Around → Option State
at_body (Named n) l b around = Some (Target l n b around)
at_body (Keyword K.Write) l b around = Some (write l b around)
at_body (Keyword K.Read) l b around = Some (read l b around)
at_body (Keyword K.Take) l b around = Some (take l b around)
at_body (Keyword K.Emit) l b around = Some (emit l b around)
at_body (Keyword K.For) l b around = Some (loop l b around)
at_body (Keyword K.If) l b around = Some (choice l b around)
at_body (Marked M.CloseBrace) l b around = Some (closed b around)
at_body _ l b around = None

-- what follows a word after the name of a target on a line
abbrev pub at_target : Word → ℕ → List ℕ → List Stmt → Around → Option State
at_target (Marked M.Assign) l n b around = Some (ended l (λ e. A.Set n e) b around)
at_target (Marked M.OpenBracket) l n b around = Some (index l n b around)
at_target _ l n b around = None

-- what follows a word where a name is wanted
abbrev pub at_name : Word → (List ℕ → State) → Option State
at_name (Named n) f = Some (f n)
at_name _ f = None

-- what follows a word where a number is wanted
abbrev pub at_number : Word → (ℕ → State) → Option State
at_number (Numeral n) f = Some (f n)
at_number _ f = None

-- what follows a direction, where one has been found
abbrev pub at_dir : Option Dir → (Dir → State) → Option State
at_dir (Some d) f = Some (f d)
at_dir None f = None

-- what follows a word where a direction is wanted
abbrev pub at_dir_name : Word → (Dir → State) → Option State
at_dir_name (Named n) f = at_dir (dir_of n) f
at_dir_name _ f = None

-- what follows a word where a label may stand
abbrev pub at_label : Word → (Option ℕ → State) → Option State
at_label (Keyword K.Label) f = Some (ExpectNumber (λ n. mark M.Semicolon (f (Some n))))
at_label (Marked M.Semicolon) f = Some (f None)
at_label _ f = None

-- what follows a word where a further direction may stand
abbrev pub at_dirs : Word → List Dir → (List Dir → Option ℕ → State) → Option State
at_dirs (Named n) ds f = at_dir (dir_of n) (λ d. Dirs (ds ++ d ∷ []) f)
at_dirs w ds f = at_label w (f ds)

-- what follows a word where a route may stand
abbrev pub at_route : Word → (List Dir → Option ℕ → State) → Option State
at_route (Keyword K.Route) f = Some (ExpectDir (λ d. Dirs (d ∷ []) f))
at_route w f = at_label w (f [])

-- what follows a word where a length may stand
abbrev pub at_length : Word → (Option ℕ → State) → Option State
at_length (Marked M.OpenBracket) f = Some (ExpectNumber (λ n. mark M.CloseBracket (mark M.Semicolon (f (Some n)))))
at_length (Marked M.Semicolon) f = Some (f None)
at_length _ f = None

-- what follows a word where a cell may stand
abbrev pub at_cells : Word → ℕ → Source → Option State
at_cells (Keyword K.Cell) l s = Some (cell l s)
at_cells _ l s = None

-- what follows a word where a message may stand
abbrev pub at_messages : Word → ℕ → Source → Option State
at_messages (Keyword K.Message) l s = Some (message l s)
at_messages w l s = at_cells w l s

-- what follows a word where a `link` line may stand
abbrev pub at_links : Word → ℕ → Source → Option State
at_links (Keyword K.Link) l s = Some (link l s)
at_links w l s = at_messages w l s

-- what follows a word where a `buffer` line may stand
abbrev pub at_buffer : Word → ℕ → (ℕ → ℕ → Source) → Option State
at_buffer (Keyword K.Buffer) l f = Some (setting (λ n. Links (f n l)))
at_buffer w l f = at_links w l (f 0 0)

-- what follows a word where a `var` line may stand
abbrev pub at_vars : Word → ℕ → Source → CellDecl → Option State
at_vars (Keyword K.Var) l s c = Some (variable l s c)
at_vars w l s c = at_body w l [] (InCell s c)

-- the state after a word on a line, or none where the word can't stand
abbrev pub at : State → ℕ → Word → Option State
at (Want k) l w = at_operand w k
at (WantAtom k) l w = at_atom w k
at (Called n k) l w = at_called (class w) n k (at_open (E.Named n) k w)
at (Have e k) l w = at_open e k w
at (Body b around) l w = at_body w l b around
at (Target line n b around) l w = at_target w line n b around
at (Expect wanted state) l w = if_same (same_word wanted w) state
at (ExpectName f) l w = at_name w f
at (ExpectNumber f) l w = at_number w f
at (ExpectKey k f) l w = if_same (same_word (Keyword k) w) (f l)
at (ExpectDir f) l w = at_dir_name w f
at (Route f) l w = at_route w f
at (Dirs ds f) l w = at_dirs w ds f
at (Label f) l w = at_label w f
at (Length f) l w = at_length w f
at (Buffer f) l w = at_buffer w l f
at (Links s) l w = at_links w l s
at (Messages s) l w = at_messages w l s
at (Cells s) l w = at_cells w l s
at (Vars s c) l w = at_vars w l s c

-- the state after a lexeme, or none where it can't stand
abbrev pub step : State → Lexeme → Option State
step state (At l w) = at state l w

-- the source that has been read where the words end in a state, or that none has
abbrev pub finish : State → Result Source ℕ
finish (Buffer f) = Ok (f 0 0)
finish (Links s) = Ok s
finish (Messages s) = Ok s
finish (Cells s) = Ok s
finish _ = Err 0

-- what a run gives from the next state on, or that this many words are left where there is none
abbrev pub going : Option State → (State → Result Source ℕ) → ℕ → Result Source ℕ
going (Some state) go left = go state
going None go left = Err left

-- the source that words go on to be from a state, or how many words are left where one can't stand or the words end
-- too early
abbrev pub run : State → List Lexeme → Result Source ℕ
run state [] = finish state
run state (t ∷ ts) = going (step state t) (λ next. run next ts) (suc (length ts))

-- a whole source is wanted
abbrev pub start : State
start =
    ExpectKey K.Array (λ l. ExpectNumber (λ r. Expect (Named (codes "x")) (setting (λ c. ExpectKey K.Queues (λ k. setting (λ q. Buffer (λ n m. record {
      rows = r;
      cols = c;
      array_line = l;
      queues = q;
      queues_line = k;
      buffer = n;
      buffer_line = m;
      links = [];
      messages = [];
      cells = [];
    })))))))
