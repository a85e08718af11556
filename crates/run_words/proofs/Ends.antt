-- How the runs that schedules make end.
use Rattle.std.proofs.Common.{◌≡◌, ℕ, ◌<◌, List, [], ◌∷◌, length}
use Rattle.sys_base.specs.declared.actor.Actor.{Actor}
use Rattle.cell_code.specs.declared.image.Image.{Image}
use Rattle.array_model.specs.States.{ArrayState, Inputs}
use Rattle.array_model.specs.Steps.{enabled}
use Rattle.schedules.specs.declared.recorded.Standing.{Standing}
use Rattle.schedules.specs.declared.recorded.Standing.TheVariants as S
use Rattle.array_picks.specs.Replays.{LeadsNoFurther}
use Rattle.run_words.specs.Schedules.{Makes, Schedule, Low, High, Round, Seeded, Recorded}
use Rattle.run_words.specs.Schedules.{Finished, Unfinished, ending_of}

-- an ending by entries, where the run is finished, and where it is not
none_left : (taken : ℕ) (list left : List Actor) (reason : Standing) → LeadsNoFurther list taken left reason
    → Finished ≡ ending_of taken left reason → list ≡ []
none_left taken list [] S.Running ends e = ends
none_left taken list (a ∷ rest) S.Running ends e = absurd (cc e)
none_left taken list left S.Ended ends e = absurd (cc e)
none_left taken list left (S.NotEnabled n) ends e = absurd (cc e)

some_left : (taken : ℕ) (list left : List Actor) (reason : Standing) → LeadsNoFurther list taken left reason
    → Unfinished ≡ ending_of taken left reason → 0 < length list
some_left taken list [] S.Running ends e = absurd (cc e)
some_left taken list (a ∷ rest) S.Running ends e = absurd (cc e)
some_left taken list left S.Ended ends e = ends.0
some_left taken list left (S.NotEnabled n) ends e = absurd (cc e)

module _ (image : Image) (inputs : Inputs) (cap : ℕ) where
  pub nothing_enabled : (schedule : Schedule) (run : List Actor) (last : ArrayState)
      → Makes image inputs cap schedule run last Finished → enabled image inputs cap last ≡ []
  nothing_enabled Low run last m = m.3.ended
  nothing_enabled High run last m = m.3.ended
  nothing_enabled Round run last m = m.2.ended
  nothing_enabled (Seeded seed) run last m = m.2.ended
  nothing_enabled (Recorded list) run last m =
      none_left (length run) (enabled image inputs cap last) m.0 m.1 m.2.ends m.3

  pub some_enabled : (schedule : Schedule) (run : List Actor) (last : ArrayState)
      → Makes image inputs cap schedule run last Unfinished → 0 < length (enabled image inputs cap last)
  some_enabled Low run last m = absurd (cc m.0)
  some_enabled High run last m = absurd (cc m.0)
  some_enabled Round run last m = absurd (cc m.0)
  some_enabled (Seeded seed) run last m = absurd (cc m.0)
  some_enabled (Recorded list) run last m =
      some_left (length run) (enabled image inputs cap last) m.0 m.1 m.2.ends m.3
