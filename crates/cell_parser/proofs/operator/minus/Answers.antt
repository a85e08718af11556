use Rattle.std.proofs.Common.{◌≡◌, ℕ, List}
use Rattle.cell_lexer.specs.declared.token.Mark.TheVariants as M
use Rattle.cell_parser.specs.Lexeme.{lexemes, Marked}
use Rattle.cell_parser.specs.Inner.Machine.{Open, Want, WantAtom, run}
use Rattle.cell_parser.specs.Inner.Reading.{Lacks}
use Rattle.cell_parser.proofs.Steps.{if_none_map, no_minus}
use Rattle.cell_parser.proofs.operator.minus.Goals as goal

pub returns-clause-none : goal.returns-clause-none
returns-clause-none c =
    if_none_map c.after_mark.result ((text : List ℕ) → Lacks text (Marked M.Minus) c.args.tokens.now)
    ((text : List ℕ) (k : Open) → run (Want k) (lexemes text c.args.tokens.now) ≡ run (WantAtom k) (lexemes text c.args.tokens.now))
    (λ h text k. no_minus k (lexemes text c.args.tokens.now) (h text)) c.after_mark.ensures.none
