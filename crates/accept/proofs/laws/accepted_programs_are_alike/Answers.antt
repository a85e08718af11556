use Rattle.accept.specs.FirstRefusal.{need_trials, of_source, room_trials}
use Rattle.accept.proofs.Needed.{alike, few, ordered}
use Rattle.accept.proofs.Trials.{passes_first}
use Rattle.accept.proofs.laws.accepted_programs_are_alike.Goals as goal

pub returns-clause-alike : goal.returns-clause-alike
returns-clause-alike c text source accepts is =
    alike c.laws_below.ensures c.existence_below.ensures text (passes_first need_trials (of_source room_trials) text accepts) source is

pub returns-clause-cost : goal.returns-clause-cost
returns-clause-cost c text source accepts is =
    few c.laws_below.ensures c.existence_below.ensures text (passes_first need_trials (of_source room_trials) text accepts) source is

pub returns-clause-order : goal.returns-clause-order
returns-clause-order c text source accepts is =
    ordered c.laws_below.ensures c.existence_below.ensures text (passes_first need_trials (of_source room_trials) text accepts) source is
    c.nothing_left_is_an_order.ensures
