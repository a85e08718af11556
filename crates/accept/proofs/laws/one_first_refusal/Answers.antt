use Rattle.accept.proofs.OneRefusal.{one_refusal, no_refusal}
use Rattle.accept.proofs.laws.one_first_refusal.Goals as goal

pub returns-clause-one : goal.returns-clause-one
returns-clause-one c = one_refusal c.laws_below.ensures

pub returns-clause-none : goal.returns-clause-none
returns-clause-none c = no_refusal
