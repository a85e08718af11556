-- What the functions that read declarations say of the tokens that they read, in terms of the machine.
use Rattle.std.specs.Prelude.{ℕ, ◌≡◌, List, [], ◌∷◌, ◌++◌, Option, Err}
use Rattle.sys_base.specs.declared.kinds.Dir.{Dir}
use Rattle.cell_lexer.specs.declared.token.Token.{Token}
use Rattle.cell_tree.specs.declared.source.CellDecl.{CellDecl}
use Rattle.cell_tree.specs.declared.source.LinkDecl.{LinkDecl}
use Rattle.cell_tree.specs.declared.source.MessageDecl.{MessageDecl}
use Rattle.cell_tree.specs.declared.source.Source.{Source}
use Rattle.cell_tree.specs.declared.source.VarDecl.{VarDecl}
use Rattle.cell_parser.specs.Lexeme.{lexemes}
use Rattle.cell_parser.specs.Inner.Machine.{State, ExpectDir, Dirs, run}
use Rattle.cell_parser.specs.declared.fault.Fault.{Fault}
use Rattle.cell_parser.specs.declared.fault.Fault.TheVariants as F

-- From one state the machine comes over tokens to another state before the others.
abbrev pub Comes : List ℕ → State → List Token → State → List Token → Type 0
Comes text state ts next us = run state (lexemes text ts) ≡ run next (lexemes text us)

-- From this state the machine stops where this many tokens are left as the fault says.
abbrev pub Halts : List ℕ → State → List Token → Fault → Type 0
Halts text state ts e = (left : ℕ) → e ≡ F.Unexpected left → run state (lexemes text ts) ≡ Err left

-- what follows the keyword of a route
abbrev pub first_dir : (List Dir → Option ℕ → State) → State
first_dir f = ExpectDir (λ d. Dirs (d ∷ []) f)

-- the source with more declarations
abbrev pub with_links : Source → List LinkDecl → Source
with_links s xs = record s { links = s.links ++ xs }

abbrev pub with_messages : Source → List MessageDecl → Source
with_messages s xs = record s { messages = s.messages ++ xs }

abbrev pub with_cells : Source → List CellDecl → Source
with_cells s xs = record s { cells = s.cells ++ xs }

-- the cell with more variables
abbrev pub with_vars : CellDecl → List VarDecl → CellDecl
with_vars c xs = record c { vars = c.vars ++ xs }
