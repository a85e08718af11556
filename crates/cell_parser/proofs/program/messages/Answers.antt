use Rattle.std.proofs.Common.{◌∙◌}
use Rattle.cell_parser.specs.Inner.Declaring.{with_messages}
use Rattle.cell_parser.specs.Lexeme.{lexemes}
use Rattle.cell_parser.proofs.DeclarationSteps.{messages_pass}
use Rattle.cell_parser.proofs.program.messages.Goals as goal

pub message-requires : goal.message-requires
message-requires c = c.in-Some.ensures.kept c.args.text.now c.each.invariant.kept

pub returns-clause-read : goal.returns-clause-read
returns-clause-read c = λ s.
    let text = c.args.text.now in
    c.each.invariant.comes s ∙ messages_pass (with_messages s c.each.messages) (lexemes text c.each.rest.now) (c.in_default.ensures.none text)
