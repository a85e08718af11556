use Rattle.std.proofs.Common.{refl, sym, inl, inr}
use Rattle.systole_top.specs.declared.judgement.Judgement.TheVariants.{Refused}
use Rattle.refusals.specs.declared.refusal.Refusal.TheVariants.{LongSource}
use Rattle.systole_top.specs.bodies.Stops.{plan_of}
use Rattle.systole_top.proofs.judgement.judgement_of.Goals as goal

-- a file that is longer than a source has one judgement
pub returns-in-None-clause-shows : goal.returns-in-None-clause-shows
returns-in-None-clause-shows c = rw c.in-None.is (inr (Refused LongSource, record { holds = refl; only = λ y is. sym is }, inl refl))

-- another one has the judgement of its text
pub returns-in_ok-judge-in-Some-clause-shows : goal.returns-in_ok-judge-in-Some-clause-shows
returns-in_ok-judge-in-Some-clause-shows c =
    rw c.in-Some.is (inr (plan_of c.in_ok-judge-in-Some.field-0, rw c.deref.ensures.value at c.in_ok-judge-in-Some.ensures.only, inl refl))
