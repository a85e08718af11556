-- What is answered is printable.
use Rattle.std.proofs.Common.{ℕ, List, Result, Ok, Err, IfOk}
use Rattle.cell_lexer.specs.Tokens.{TokensOf}
use Rattle.cell_lexer.specs.declared.token.Token.{Token}
use Rattle.cell_tree.specs.Printable.{IsPrintable}
use Rattle.cell_tree.specs.declared.source.Source.{Source}
use Rattle.cell_parser.specs.Grammar.{Reads}
use Rattle.cell_parser.specs.Lexeme.{lexemes}
use Rattle.cell_parser.specs.Limits.{KeepLimits}
use Rattle.cell_parser.specs.declared.error.ParseError.{ParseError}

-- what was read from the tokens of a text is printable, where the law on it is given
pub printable_of : (text : List ℕ) (ts : List Token) (r : Result Source ParseError)
    → ((text : List ℕ) (ts : List Token) (s : Source) → TokensOf text ts → KeepLimits ts → Reads (lexemes text ts) s → IsPrintable s)
    → TokensOf text ts → IfOk r (λ s. Reads (lexemes text ts) s × KeepLimits ts) → IfOk r IsPrintable
printable_of text ts (Ok s) law tokens read = law text ts s tokens read.1 read.0
printable_of text ts (Err e) law tokens read = tt
