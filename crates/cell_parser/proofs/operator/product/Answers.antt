use Rattle.std.proofs.Common.{◌≡◌, ℕ, List}
use Rattle.cell_tree.specs.declared.expression.Expr.{Expr}
use Rattle.cell_parser.specs.Lexeme.{lexemes}
use Rattle.cell_parser.specs.Inner.Machine.{Open, Have, Terms, run}
use Rattle.cell_parser.proofs.Steps.{if_none, terms_end}
use Rattle.cell_parser.proofs.operator.product.Goals as goal

pub returns-in_err-mark-clause-none : goal.returns-in_err-mark-clause-none
returns-in_err-mark-clause-none c =
    if_none c.from_residual.result ((text : List ℕ) (e : Expr) (k : Open) → run (Have e (Terms k)) (lexemes text c.args.tokens.now) ≡ run (Have e k) (lexemes text c.args.tokens.now)) (λ text e k. terms_end e k (lexemes text c.args.tokens.now) (c.in_err-mark.ensures.none text))
