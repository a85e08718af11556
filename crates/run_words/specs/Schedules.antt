-- The runs that schedules make, and how they end.
use Rattle.std.specs.Prelude.{ℕ, ◌≡◌, ◌+◌, ◌-◌, List, [], ◌∷◌, Option, None, length}
use Rattle.rand_core.specs.Pcg32Seed.{pcg32_seed}
use Rattle.rand_pcg.specs.Lcg.{Lcg}
use Rattle.rand_pcg.specs.Pcg.{pcg32_of_seed}
use Rattle.sys_base.specs.declared.actor.Actor.{Actor}
use Rattle.cell_code.specs.declared.image.Image.{Image}
use Rattle.array_model.specs.States.{ArrayState, Inputs}
use Rattle.schedules.specs.Picks.{PicksDrawn, PicksRound}
use Rattle.schedules.specs.declared.chooser.Pick.{Pick}
use Rattle.schedules.specs.declared.chooser.Pick.TheVariants.{At}
use Rattle.schedules.specs.declared.recorded.Standing.{Standing}
use Rattle.schedules.specs.declared.recorded.Standing.TheVariants as S
use Rattle.schedules.specs.declared.sides.High.{High as TheHigh}
use Rattle.schedules.specs.declared.sides.Low.{Low as TheLow}
use Rattle.array_picks.specs.Picked.{PicksWhole}
use Rattle.array_picks.specs.Replays.{Replays}

-- A schedule: a built-in one, or recorded entries.
pub data Schedule : Type 0 where
  Low : Schedule
  High : Schedule
  Round : Schedule
  Seeded : (seed : ℕ) → Schedule
  Recorded : (entries : List Actor) → Schedule

-- How a run ends: nothing is enabled; or some actor is, and no entry is left; or this entry, from 1, is not enabled.
pub data Ending : Type 0 where
  Finished : Ending
  Unfinished : Ending
  NotEnabled : (entry : ℕ) → Ending

-- the schedules of the two sides, as relations
abbrev pub PicksFirst : TheLow → List Actor → Pick → TheLow → Type 0
PicksFirst before enabled pick after = pick ≡ At 0

abbrev pub PicksLast : TheHigh → List Actor → Pick → TheHigh → Type 0
PicksLast before enabled pick after = pick ≡ At (length enabled - 1)

-- how a run ends after so many entries, with these left, for this reason: an entry that is left at the end of the run
-- is not enabled
abbrev pub ending_of : ℕ → List Actor → Standing → Ending
ending_of taken [] S.Running = Finished
ending_of taken (entry ∷ rest) S.Running = NotEnabled (taken + 1)
ending_of taken left S.Ended = Unfinished
ending_of taken left (S.NotEnabled n) = NotEnabled n

module _ (image : Image) (inputs : Inputs) (cap : ℕ) where
  -- The schedule makes this run from the opening state to a last state, and it ends so. A built-in schedule makes it
  -- until nothing is enabled; recorded entries as far as they lead.
  abbrev pub Makes : Schedule → List Actor → ArrayState → Ending → Type 0
  Makes Low run last ending =
      (ending ≡ Finished) × (before : TheLow) × (after : TheLow)
      × PicksWhole PicksFirst image inputs cap before run last after
  Makes High run last ending =
      (ending ≡ Finished) × (before : TheHigh) × (after : TheHigh)
      × PicksWhole PicksLast image inputs cap before run last after
  Makes Round run last ending =
      (ending ≡ Finished) × (after : Option Actor) × PicksWhole PicksRound image inputs cap None run last after
  Makes (Seeded seed) run last ending =
      (ending ≡ Finished) × (after : Lcg)
      × PicksWhole PicksDrawn image inputs cap (pcg32_of_seed (pcg32_seed 16 seed)) run last after
  Makes (Recorded entries) run last ending =
      (left : List Actor) × (reason : Standing) × Replays image inputs cap entries run last left reason
      × (ending ≡ ending_of (length run) left reason)
