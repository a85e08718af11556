use Rattle.std.proofs.Common.{List, length, refl, sym, subst, arith}
use Rattle.sys_base.specs.declared.actor.Actor.{Actor}
use Rattle.array_model.specs.States.{opening}
use Rattle.array_model.specs.Steps.{enabled}
use Rattle.array_picks.specs.Picked.{PicksRun}
use Rattle.array_picks.specs.Replays.{PicksNext}
use Rattle.array_picks.proofs.Entries.{recorded_counts, recorded_ends, recorded_takes}
use Rattle.array_picks.proofs.laws.recorded_picks_are_entries.Goals as goal

pub returns-clause-taken : goal.returns-clause-taken
returns-clause-taken c =
    λ image inputs cap before after run last picked.
    recorded_takes image inputs cap (opening image) before run last after picked

pub returns-clause-counted : goal.returns-clause-counted
returns-clause-counted c =
    λ image inputs cap before after run last picked.
    recorded_counts image inputs cap (opening image) before run last after picked

pub returns-clause-ended : goal.returns-clause-ended
returns-clause-ended c =
    λ image inputs cap before after run last picked none. record {
      taken = recorded_takes image inputs cap (opening image) before run last after picked;
      ends = none;
    }

pub returns-clause-stopped : goal.returns-clause-stopped
returns-clause-stopped c =
    λ image inputs cap before after stopped run last picked none some stops. record {
      taken = subst (λ (l : List Actor). PicksRun PicksNext image inputs cap (opening image) before.left run last l)
          (sym stops.same_left) (recorded_takes image inputs cap (opening image) before run last after picked);
      ends = recorded_ends image inputs cap (enabled image inputs cap last) (length run) after stopped stopped.standing refl
          (omega (arith, none, recorded_counts image inputs cap (opening image) before run last after picked)) some stops;
    }
