use Rattle.std.proofs.lemmas.Result.{IfOk-weaker, IfErr-weaker}
use Rattle.cell_lexer.proofs.Outcomes.{first_cases, only_tokens, only_fault, each_token, each_some, each_inside}
use Rattle.cell_lexer.proofs.scan.tokens.Goals as goal

pub returns-clause-each : goal.returns-clause-each
returns-clause-each c = IfOk-weaker _ _ _ (λ v. each_token c.args.text.now v.items) c.scan.ensures.tokens

pub returns-clause-nonempty : goal.returns-clause-nonempty
returns-clause-nonempty c = IfOk-weaker _ _ _ (λ v. each_some c.args.text.now v.items) c.scan.ensures.tokens

pub returns-clause-inside : goal.returns-clause-inside
returns-clause-inside c = IfOk-weaker _ _ _ (λ v. each_inside c.args.text.now v.items) c.scan.ensures.tokens

pub returns-clause-fault : goal.returns-clause-fault
returns-clause-fault c = IfErr-weaker _ _ _ (first_cases c.args.text.now) c.scan.ensures.fault

pub returns-clause-only : goal.returns-clause-only
returns-clause-only c = only_tokens (λ v. v.items) c.args.text.now _ c.scan.ensures.tokens c.scan.ensures.fault

pub returns-clause-only_fault : goal.returns-clause-only_fault
returns-clause-only_fault c = only_fault (λ v. v.items) c.args.text.now _ c.scan.ensures.tokens c.scan.ensures.fault
