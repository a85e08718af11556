-- What it is that words say a source, and when two sources differ in their lines alone.
use Rattle.std.specs.Prelude.{ℕ, List, [], ◌∷◌, map}
use Rattle.cell_tree.specs.declared.source.CellDecl.{CellDecl}
use Rattle.cell_tree.specs.declared.source.LinkDecl.{LinkDecl}
use Rattle.cell_tree.specs.declared.source.MessageDecl.{MessageDecl}
use Rattle.cell_tree.specs.declared.source.Source.{Source}
use Rattle.cell_tree.specs.declared.source.VarDecl.{VarDecl}
use Rattle.cell_tree.specs.declared.statement.Act.{Act}
use Rattle.cell_tree.specs.declared.statement.Act.TheFolds.{fold-Stmt}
use Rattle.cell_tree.specs.declared.statement.Act.TheOpen.{Act-F, Stmt-F}
use Rattle.cell_tree.specs.declared.statement.Act.TheVariants as A
use Rattle.cell_tree.specs.declared.statement.Stmt.{Stmt}
use Rattle.cell_parser.specs.Grammar.{on_line}
use Rattle.cell_parser.specs.Lexeme.{Word, Lexeme, At}
use Rattle.cell_parser.specs.Inner.Told.{told, told_word}

-- the words of the canonical text of a source
abbrev pub spoken : Source → List Word
spoken source = map told_word (told source)

-- The first list of lexemes, up to the second one, says just these words, on any lines.
pub data Covers : List Word → List Lexeme → List Lexeme → Type 0 where
  -- no word
  covers_none : {us : List Lexeme} → Covers [] us us
  -- a word and words
  covers_next : {l : ℕ} {word : Word} {words : List Word} {ts us : List Lexeme} → Covers words ts us
      → Covers (word ∷ words) (At l word ∷ ts) us

-- what a statement does, its blocks' statements being without lines already
abbrev pub unlined_act : Act-F Act Stmt → Act
unlined_act (Act-F.Set name value) = A.Set name value
unlined_act (Act-F.SetAt name index value) = A.SetAt name index value
unlined_act (Act-F.Write message value) = A.Write message value
unlined_act (Act-F.Read message name) = A.Read message name
unlined_act (Act-F.Take name) = A.Take name
unlined_act (Act-F.Emit value) = A.Emit value
unlined_act (Act-F.For counter turns body) = A.For counter turns body
unlined_act (Act-F.If test first second) = A.If test first second

-- a statement that does this, on line 0
abbrev pub unlined_step : Stmt-F Act Stmt → Stmt
unlined_step statement = on_line 0 statement.act

-- a statement with 0 in each line field
abbrev pub unlined_statement : Stmt → Stmt
unlined_statement = fold-Stmt Act Stmt unlined_act unlined_step

-- a cell with 0 in each line field
abbrev pub unlined_cell : CellDecl → CellDecl
unlined_cell cell =
    record cell {
      vars = map (λ (variable : VarDecl). record variable { line = 0 }) cell.vars;
      body = map unlined_statement cell.body;
      line = 0;
    }

-- a source with 0 in each line field
abbrev pub unlined : Source → Source
unlined source =
    record source {
      array_line = 0;
      queues_line = 0;
      buffer_line = 0;
      links = map (λ (link : LinkDecl). record link { line = 0 }) source.links;
      messages = map (λ (message : MessageDecl). record message { line = 0 }) source.messages;
      cells = map unlined_cell source.cells;
    }
