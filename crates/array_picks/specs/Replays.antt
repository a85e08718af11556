-- The runs that lists of entries make.
use Rattle.std.specs.Prelude.{ℕ, ◌≡◌, ◌+◌, ◌<◌, List, [], ◌∷◌, Some, Contains, length, slice_get}
use Rattle.sys_base.specs.declared.actor.Actor.{Actor}
use Rattle.cell_code.specs.declared.image.Image.{Image}
use Rattle.array_model.specs.States.{ArrayState, Inputs, opening}
use Rattle.array_model.specs.Steps.{enabled}
use Rattle.schedules.specs.Picks.{IsFirstPlace}
use Rattle.schedules.specs.declared.chooser.Pick.{Pick}
use Rattle.schedules.specs.declared.chooser.Pick.TheVariants.{At, Stop}
use Rattle.schedules.specs.declared.recorded.Standing.{Standing}
use Rattle.schedules.specs.declared.recorded.Standing.TheVariants.{Running, Ended, NotEnabled}
use Rattle.array_picks.specs.Picked.{PicksRun}

-- Entries pick the place of the first of them, and leave the others.
abbrev pub PicksNext : List Actor → List Actor → Pick → List Actor → Type 0
PicksNext entries enabled (At place) rest =
    (entry : Actor) × (entries ≡ entry ∷ rest) × IsFirstPlace enabled place entry
PicksNext entries enabled Stop rest = ⊥

-- Why entries lead no further where these actors are enabled, after so many were taken and with these left: nothing is
-- enabled; or no entry is left; or the next one, numbered from 1, is not enabled.
abbrev pub LeadsNoFurther : List Actor → ℕ → List Actor → Standing → Type 0
LeadsNoFurther enabled taken left Running = enabled ≡ []
LeadsNoFurther enabled taken left Ended = (0 < length enabled) × (left ≡ [])
LeadsNoFurther enabled taken left (NotEnabled n) =
    (0 < length enabled) × (n ≡ taken + 1)
    × (entry : Actor) × (slice_get left 0 ≡ Some entry) × (Contains enabled entry → ⊥)

module _ (image : Image) (inputs : Inputs) (cap : ℕ) where
  -- The entries make this run from the opening state on, each of them enabled in its turn, and with these left they lead
  -- no further, for this reason.
  pub record Replays (entries run : List Actor) (last : ArrayState) (left : List Actor) (reason : Standing)
      : Type 0 where
    pub taken : PicksRun PicksNext image inputs cap (opening image) entries run last left
    pub ends : LeadsNoFurther (enabled image inputs cap last) (length run) left reason

  -- The entries make just one run: there is one, and every other one is the same, in its end and its reason too.
  pub record ReplaysOnce (entries : List Actor) : Type 0 where
    pub run : List Actor
    pub last : ArrayState
    pub left : List Actor
    pub reason : Standing
    pub replays : Replays entries run last left reason
    pub only : (others : List Actor) (end : ArrayState) (rest : List Actor) (why : Standing)
        → Replays entries others end rest why
        → (others ≡ run) × (end ≡ last) × (rest ≡ left) × (why ≡ reason)
