use Rattle.queue_plan.proofs.GroupLaws.{filled_law, label_law, rising_law}
use Rattle.queue_plan.proofs.laws.groups_rise.Goals as goal

pub returns-clause-filled : goal.returns-clause-filled
returns-clause-filled c = filled_law

pub returns-clause-label : goal.returns-clause-label
returns-clause-label c = label_law

pub returns-clause-rising : goal.returns-clause-rising
returns-clause-rising c = rising_law
