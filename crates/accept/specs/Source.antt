-- The source that a text is.
use Rattle.std.specs.Prelude.{ℕ, List}
use Rattle.cell_lexer.specs.declared.token.Token.{Token}
use Rattle.cell_lexer.specs.Tokens.{TokensOf}
use Rattle.cell_parser.specs.Grammar.{Reads}
use Rattle.cell_parser.specs.Lexeme.{lexemes}
use Rattle.cell_parser.specs.Limits.{KeepLimits}
use Rattle.cell_tree.specs.declared.source.Source.{Source}

-- The text has tokens, which keep the limits and read to the source.
pub record IsSource (text : List ℕ) (s : Source) : Type 0 where
  pub tokens : List Token
  pub lexed : TokensOf text tokens
  pub kept : KeepLimits tokens
  pub read : Reads (lexemes text tokens) s
