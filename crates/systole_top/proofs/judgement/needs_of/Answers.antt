use Rattle.std.proofs.Common.{refl, sym, inl, inr}
use Rattle.systole_top.specs.declared.judgement.Judgement.TheVariants.{Refused}
use Rattle.refusals.specs.declared.refusal.Refusal.TheVariants.{LongSource}
use Rattle.systole_top.specs.bodies.Stops.{lines_of}
use Rattle.systole_top.proofs.judgement.needs_of.Goals as goal

-- a file that is longer than a source has one judgement
pub returns-in-None : goal.returns-in-None
returns-in-None c = rw c.in-None.is (inr (Refused LongSource, record { holds = refl; only = λ y is. sym is }, inl refl))

-- another one has the judgement of its text
pub returns-in_ok-judge_needs-in-Some : goal.returns-in_ok-judge_needs-in-Some
returns-in_ok-judge_needs-in-Some c =
    rw c.in-Some.is (inr (lines_of c.in_ok-judge_needs-in-Some.field-0, rw c.deref.ensures.value at c.in_ok-judge_needs-in-Some.ensures, inl refl))
