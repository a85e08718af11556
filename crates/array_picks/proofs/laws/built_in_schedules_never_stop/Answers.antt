use Rattle.std.proofs.Common.{◌-◌, ◌%◌, length}
use Rattle.rand_pcg.specs.Pcg.{pcg32}
use Rattle.schedules.specs.Picks.{round_place}
use Rattle.array_picks.proofs.BuiltIn.{no_stop}
use Rattle.array_picks.proofs.laws.built_in_schedules_never_stop.Goals as goal

pub returns-clause-low : goal.returns-clause-low
returns-clause-low c = λ before after list h. no_stop 0 h

pub returns-clause-high : goal.returns-clause-high
returns-clause-high c = λ before after list h. no_stop (length list - 1) h

pub returns-clause-round : goal.returns-clause-round
returns-clause-round c = λ before after list h. no_stop (round_place before list) h.place

pub returns-clause-seeded : goal.returns-clause-seeded
returns-clause-seeded c = λ before after list h. no_stop ((pcg32 before).0 % length list) h.place
