use Rattle.std.proofs.Common.{None}
use Rattle.run_words.proofs.Runs.{one_run}
use Rattle.run_words.proofs.laws.each_schedule_makes_one_run.Goals as goal

pub returns : goal.returns
returns c =
    λ image least cap inputs schedule sure counted enough.
    let picks = c.each_schedule_picks_one_run.ensures in
    one_run image inputs cap (picks.low image least cap inputs (record {}) sure counted enough)
    (picks.high image least cap inputs (record {}) sure counted enough)
    (picks.round image least cap inputs None sure counted enough)
    (λ generator. picks.seeded image least cap inputs generator sure counted enough)
    (λ entries. c.entries_make_one_run.ensures image inputs cap entries) schedule
