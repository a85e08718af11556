use Rattle.std.proofs.Common.{refl, ap, inl, inr}
use Rattle.systole_top.specs.Given.{Bad}
use Rattle.systole_top.specs.Texts.{long_input_line}
use Rattle.systole_top.specs.bodies.Runs.{Gave}
use Rattle.systole_top.specs.bodies.Stops.{given_by}
use Rattle.systole_top.proofs.Giving.{long_only}
use Rattle.systole_top.proofs.given.given_of.Goals as goal

pub returns-in_ok-long_input_line-in-None-clause-shows : goal.returns-in_ok-long_input_line-in-None-clause-shows
returns-in_ok-long_input_line-in-None-clause-shows c =
    rw c.in-None.is
    (inr (Bad long_input_line, long_only c.args.image.now, inl (ap (λ l. Gave (Bad l)) c.in_ok-long_input_line-in-None.ensures)))

pub returns-in_ok-read-in-Some-clause-shows : goal.returns-in_ok-read-in-Some-clause-shows
returns-in_ok-read-in-Some-clause-shows c =
    rw c.in-Some.is (inr (given_by c.in_ok-read-in-Some.field-0, rw c.deref.ensures.value at c.in_ok-read-in-Some.ensures.only, inl refl))
