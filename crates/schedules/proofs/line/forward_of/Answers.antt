use Rattle.std.proofs.Common.{◌≡◌, ◌+◌, ◌∙◌, ℕ}
use Rattle.schedules.proofs.ActorTexts.{numbers_cut}
use Rattle.schedules.proofs.Lines.{all_left}
use Rattle.schedules.proofs.line.forward_of.Goals as goal

pub returns-in_err-message-clause-none : goal.returns-in_err-message-clause-none
returns-in_err-message-clause-none c = rw c.from_residual-in_err-message.ensures
    (λ message hop low small same. c.in_err-message.ensures.none message low
    (numbers_cut c.args.numbers.now c.in_ok-dot.dot message hop c.in_ok-dot.ensures.here low same).0)

pub returns-in_err-hop-clause-none : goal.returns-in_err-hop-clause-none
returns-in_err-hop-clause-none c = rw c.from_residual-in_err-hop.ensures
    (λ message hop low small same. c.in_err-hop.ensures.none hop small
    (all_left c.args.numbers.now (c.in_ok-dot.dot + 1) ∙ (numbers_cut c.args.numbers.now c.in_ok-dot.dot message hop c.in_ok-dot.ensures.here low same).1))
