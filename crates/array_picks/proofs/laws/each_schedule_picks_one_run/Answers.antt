use Rattle.array_picks.proofs.BuiltIn.{high, low, round, seeded}
use Rattle.array_picks.proofs.laws.each_schedule_picks_one_run.Goals as goal

pub returns-clause-low : goal.returns-clause-low
returns-clause-low c = λ image least cap inputs schedule sure counted enough. low image least cap inputs sure counted enough schedule

pub returns-clause-high : goal.returns-clause-high
returns-clause-high c = λ image least cap inputs schedule sure counted enough. high image least cap inputs sure counted enough schedule

pub returns-clause-round : goal.returns-clause-round
returns-clause-round c = λ image least cap inputs last sure counted enough. round image least cap inputs sure counted enough last

pub returns-clause-seeded : goal.returns-clause-seeded
returns-clause-seeded c =
    λ image least cap inputs generator sure counted enough. seeded image least cap inputs sure counted enough generator
