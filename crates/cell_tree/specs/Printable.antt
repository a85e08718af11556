-- The trees whose canonical text is a text of the language.
use Rattle.std.specs.Prelude.{ℕ, ◌+◌, ◌-◌, ◌≤◌, Bool, true, not, nat_lt, ◌&&◌, ◌||◌, IsTrue, List, [], ◌∷◌, ◌++◌, All, Option, Some, None, map, if◌then◌else◌}
use Rattle.std.specs.List.{concat, flat_map}
use Rattle.std.specs.Str.{bytes_eq}
use Rattle.sys_base.specs.Name.{IsName}
use Rattle.cell_lexer.specs.Forms.{mark_text}
use Rattle.cell_lexer.specs.declared.limits.TheConstants.{GREATEST_NUMBER, PIECE_TOKENS, OPEN_BRACES}
use Rattle.cell_lexer.specs.declared.token.Mark.TheVariants as M
use Rattle.cell_tree.specs.Canonical.{canonical_pieces}
use Rattle.cell_tree.specs.Pieces.{words_of}
use Rattle.cell_tree.specs.declared.expression.Expr.{Expr}
use Rattle.cell_tree.specs.declared.expression.Expr.TheFolds.{fold-Expr}
use Rattle.cell_tree.specs.declared.expression.Expr.TheOpen.{Expr-F}
use Rattle.cell_tree.specs.declared.source.CellDecl.{CellDecl}
use Rattle.cell_tree.specs.declared.source.LinkDecl.{LinkDecl}
use Rattle.cell_tree.specs.declared.source.MessageDecl.{MessageDecl}
use Rattle.cell_tree.specs.declared.source.Place.{Place}
use Rattle.cell_tree.specs.declared.source.Source.{Source}
use Rattle.cell_tree.specs.declared.statement.Act.TheFolds.{fold-Stmt}
use Rattle.cell_tree.specs.declared.statement.Act.TheOpen.{Act-F}
use Rattle.cell_tree.specs.declared.statement.Stmt.{Stmt}

-- the names in one node of an expression
abbrev pub names_step : Expr-F (List (List ℕ)) → List (List ℕ)
names_step (Expr-F.Number n) = []
names_step (Expr-F.Named name) = name ∷ []
names_step (Expr-F.At name index) = name ∷ index
names_step (Expr-F.Negate e) = e
names_step (Expr-F.Binary op left right) = left ++ right

-- the names in an expression
abbrev pub names_of : Expr → List (List ℕ)
names_of = fold-Expr (List (List ℕ)) names_step

-- the numbers in one node of an expression
abbrev pub numbers_step : Expr-F (List ℕ) → List ℕ
numbers_step (Expr-F.Number n) = n ∷ []
numbers_step (Expr-F.Named name) = []
numbers_step (Expr-F.At name index) = index
numbers_step (Expr-F.Negate e) = e
numbers_step (Expr-F.Binary op left right) = left ++ right

-- the numbers in an expression
abbrev pub numbers_of : Expr → List ℕ
numbers_of = fold-Expr (List ℕ) numbers_step

-- the names in one statement
abbrev pub act_names : Act-F (List (List ℕ)) (List (List ℕ)) → List (List ℕ)
act_names (Act-F.Set name value) = name ∷ names_of value
act_names (Act-F.SetAt name index value) = name ∷ names_of index ++ names_of value
act_names (Act-F.Write message value) = message ∷ names_of value
act_names (Act-F.Read message name) = message ∷ name ∷ []
act_names (Act-F.Take name) = name ∷ []
act_names (Act-F.Emit value) = names_of value
act_names (Act-F.For counter turns body) = counter ∷ flat_map (λ names. names) body
act_names (Act-F.If test first second) = names_of test ++ flat_map (λ names. names) first
    ++ flat_map (λ names. names) second

-- the names in a statement
abbrev pub statement_names : Stmt → List (List ℕ)
statement_names = fold-Stmt (List (List ℕ)) (List (List ℕ)) act_names (λ statement. statement.act)

-- the numbers in one statement
abbrev pub act_numbers : Act-F (List ℕ) (List ℕ) → List ℕ
act_numbers (Act-F.Set name value) = numbers_of value
act_numbers (Act-F.SetAt name index value) = numbers_of index ++ numbers_of value
act_numbers (Act-F.Write message value) = numbers_of value
act_numbers (Act-F.Read message name) = []
act_numbers (Act-F.Take name) = []
act_numbers (Act-F.Emit value) = numbers_of value
act_numbers (Act-F.For counter turns body) = turns ∷ concat body
act_numbers (Act-F.If test first second) = numbers_of test ++ concat first ++ concat second

-- the numbers in a statement
abbrev pub statement_numbers : Stmt → List ℕ
statement_numbers = fold-Stmt (List ℕ) (List ℕ) act_numbers (λ statement. statement.act)

-- the number, where there is one
abbrev pub given : Option ℕ → List ℕ
given None = []
given (Some n) = n ∷ []

-- the numbers of a place
abbrev pub place_numbers : Place → List ℕ
place_numbers place = place.row ∷ place.col ∷ []

-- the numbers of a `link` line
abbrev pub link_numbers : LinkDecl → List ℕ
link_numbers link = place_numbers link.place ++ link.queues ∷ []

-- the numbers of a `message` line
abbrev pub message_numbers : MessageDecl → List ℕ
message_numbers message = place_numbers message.from ++ place_numbers message.to ++ given message.label

-- the names in a cell
abbrev pub cell_names : CellDecl → List (List ℕ)
cell_names cell = map (λ variable. variable.name) cell.vars ++ flat_map statement_names cell.body

-- the numbers in a cell
abbrev pub cell_numbers : CellDecl → List ℕ
cell_numbers cell =
    place_numbers cell.place ++ flat_map (λ variable. given variable.length) cell.vars
    ++ flat_map statement_numbers cell.body

-- the names in a source
abbrev pub source_names : Source → List (List ℕ)
source_names source = map (λ message. message.name) source.messages ++ flat_map cell_names source.cells

-- the numbers in a source
abbrev pub source_numbers : Source → List ℕ
source_numbers source =
    source.rows ∷ source.cols ∷ source.queues ∷ source.buffer ∷ flat_map link_numbers source.links
    ++ flat_map message_numbers source.messages ++ flat_map cell_numbers source.cells

-- the word opens a block
abbrev pub is_opening : List ℕ → Bool
is_opening word = bytes_eq word (mark_text M.OpenBrace)

-- the word closes a block
abbrev pub is_closing : List ℕ → Bool
is_closing word = bytes_eq word (mark_text M.CloseBrace)

-- the word ends a run of words without `;`, `{` and `}`
abbrev pub ends_run : List ℕ → Bool
ends_run word = bytes_eq word (mark_text M.Semicolon) || is_opening word || is_closing word

-- no run of words without `;`, `{` and `}` is too long, where the present run has this many words already
abbrev pub runs_fit : ℕ → List (List ℕ) → Bool
runs_fit run [] = true
runs_fit run (word ∷ words) = if ends_run word then runs_fit 0 words
    else (nat_lt run PIECE_TOKENS && runs_fit (run + 1) words)

-- the count of open braces after a word: an opening one adds one, and a closing one takes one away where the count is
-- not 0
abbrev pub open_after : ℕ → List ℕ → ℕ
open_after count word = if is_opening word then count + 1 else (if is_closing word then count - 1 else count)

-- no brace opens where the most braces are open, where this many are open before the words
abbrev pub braces_fit : ℕ → List (List ℕ) → Bool
braces_fit count [] = true
braces_fit count (word ∷ words) = (nat_lt count OPEN_BRACES || not (is_opening word))
    && braces_fit (open_after count word) words

-- A tree is printable where its names and numbers are those of the language, and its canonical text keeps the limits on
-- runs of words and on open braces.
pub record IsPrintable (source : Source) : Type 0 where
  pub names : All IsName (source_names source)
  pub numbers : All (λ n. n ≤ GREATEST_NUMBER) (source_numbers source)
  pub runs : IsTrue (runs_fit 0 (words_of (canonical_pieces source)))
  pub braces : IsTrue (braces_fit 0 (words_of (canonical_pieces source)))
