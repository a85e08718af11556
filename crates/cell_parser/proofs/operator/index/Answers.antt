use Rattle.std.proofs.Common.{◌≡◌, ℕ, List}
use Rattle.cell_lexer.specs.declared.token.Mark.TheVariants as M
use Rattle.cell_tree.specs.declared.expression.Expr.TheVariants as E
use Rattle.cell_parser.specs.Lexeme.{lexemes, Marked}
use Rattle.cell_parser.specs.Inner.Machine.{Open, Called, Have, run}
use Rattle.cell_parser.specs.Inner.Reading.{Lacks}
use Rattle.cell_parser.proofs.Steps.{if_none_map, no_index}
use Rattle.cell_parser.proofs.operator.index.Goals as goal

pub returns-clause-none : goal.returns-clause-none
returns-clause-none c =
    if_none_map c.after_mark.result ((text : List ℕ) → Lacks text (Marked M.OpenBracket) c.args.tokens.now)
    ((text n : List ℕ) (k : Open) → run (Called n k) (lexemes text c.args.tokens.now) ≡ run (Have (E.Named n) k) (lexemes text c.args.tokens.now))
    (λ h text n k. no_index n k (lexemes text c.args.tokens.now) (h text)) c.after_mark.ensures.none
