use Rattle.queue_plan.proofs.GroupLaws.{grouped_law, member_law}
use Rattle.queue_plan.proofs.laws.users_are_grouped.Goals as goal

pub returns-clause-member : goal.returns-clause-member
returns-clause-member c = member_law

pub returns-clause-grouped : goal.returns-clause-grouped
returns-clause-grouped c = grouped_law
