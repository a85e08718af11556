use Rattle.std.proofs.Common.{◌∙◌, sym, ap, arith}
use Rattle.std.proofs.lemmas.Result.{err_from_is_err_and}
use Rattle.cell_parser.specs.Lexeme.{Marked, lexemes}
use Rattle.cell_parser.specs.Inner.Machine.{WantAtom, Have, Terms, Sums, Compares, Operand, Negates, Then, Expect, run}
use Rattle.cell_parser.proofs.Steps.{stops, atom_lacks, have_then, have_operand, have_negates}
use Rattle.cell_parser.proofs.expression.+expression.Goals as goal

pub atom-returns-in-None-clause-wrong : goal.atom-returns-in-None-clause-wrong
atom-returns-in-None-clause-wrong t c = λ left at k.
    stops c.args.text.now c.args.tokens.now (WantAtom k)
    (atom_lacks k (lexemes c.args.text.now c.args.tokens.now) (c.in_default.ensures.none c.args.text.now) c.in_default-next_name.ensures.none (c.in-None.ensures.none c.args.text.now))
    c.unexpected.result c.unexpected.ensures left at

pub expression-returns-clause-read : goal.expression-returns-clause-read
expression-returns-clause-read t c = λ closer is k.
    let xs = lexemes c.args.text.now c.in_ok-value.rest.now in
    c.in_ok-value.ensures.read (Then closer k) ∙ have_then c.in_ok-value.value closer k xs
    ∙ ap (λ m. run (Expect (Marked m) (k c.in_ok-value.value)) xs) is ∙ c.in_ok-rest.ensures.read c.args.text.now (k c.in_ok-value.value)

pub sum-each-preserved : goal.sum-each-preserved
sum-each-preserved t c =
    let xs = lexemes c.args.text.now c.in_ok-right.next.now in
    record {
      read = λ k.
          c.each.invariant.read k ∙ c.in-Some.ensures.some c.args.text.now c.each.left k
          ∙ c.in_ok-right.ensures.read (Operand c.in-Some.op c.each.left (Sums k))
          ∙ have_operand c.in-Some.op c.each.left c.in_ok-right.right (Sums k) xs
          ∙ ap (λ e. run (Have e (Sums k)) xs) (sym c.in_ok-left-2.ensures.built);
      shorter = omega (arith, c.in-Some.ensures.shorter, c.in_ok-right.ensures.shorter);
      kept = c.in_ok-right.ensures.kept;
    }

pub term-each-preserved : goal.term-each-preserved
term-each-preserved t c =
    let xs = lexemes c.args.text.now c.in_ok-right.next.now in
    record {
      read = λ k.
          c.each.invariant.read k ∙ c.in-Some.ensures.some c.args.text.now c.each.left k
          ∙ c.in_ok-right.ensures.read (Operand c.in-Some.op c.each.left (Terms k))
          ∙ have_operand c.in-Some.op c.each.left c.in_ok-right.right (Terms k) xs
          ∙ ap (λ e. run (Have e (Terms k)) xs) (sym c.in_ok-left-2.ensures.built);
      shorter = omega (arith, c.in-Some.ensures.shorter, c.in_ok-right.ensures.shorter);
      kept = c.in_ok-right.ensures.kept;
    }

pub whole-returns-in_ok-binary-in-Some-clause-read : goal.whole-returns-in_ok-binary-in-Some-clause-read
whole-returns-in_ok-binary-in-Some-clause-read t c = λ k.
    let xs = lexemes c.args.text.now c.in_ok-right-in-Some.next.now in
    c.in_ok-left.ensures.read (Compares k) ∙ c.in-Some.ensures.some c.args.text.now c.in_ok-left.left k
    ∙ c.in_ok-right-in-Some.ensures.read (Operand c.in-Some.op c.in_ok-left.left k)
    ∙ have_operand c.in-Some.op c.in_ok-left.left c.in_ok-right-in-Some.right k xs
    ∙ ap (λ e. run (Have e k) xs) (sym c.in_ok-binary-in-Some.ensures.built)

pub expression-returns-in_err-rest-clause-wrong : goal.expression-returns-in_err-rest-clause-wrong
expression-returns-in_err-rest-clause-wrong t c =
    let p = err_from_is_err_and c.from_residual-in_err-rest.result c.from_residual-in_err-rest.ensures.1 in
    rw (p.1, p.2) (λ closer is left at k.
    let xs = lexemes c.args.text.now c.in_ok-value.rest.now in
    c.in_ok-value.ensures.read (Then closer k) ∙ have_then c.in_ok-value.value closer k xs
    ∙ ap (λ m. run (Expect (Marked m) (k c.in_ok-value.value)) xs) is ∙ c.in_err-rest.ensures.wrong c.args.text.now left at (k c.in_ok-value.value))

pub unary-returns-in_ok-negate-in-Some-clause-read : goal.unary-returns-in_ok-negate-in-Some-clause-read
unary-returns-in_ok-negate-in-Some-clause-read t c = λ k.
    let xs = lexemes c.args.text.now c.in_ok-operand-in-Some.rest.now in
    c.in-Some.ensures.some c.args.text.now k ∙ c.in_ok-operand-in-Some.ensures.read (Negates k)
    ∙ have_negates c.in_ok-operand-in-Some.operand k xs ∙ ap (λ e. run (Have e k) xs) (sym c.in_ok-negate-in-Some.ensures.built)
