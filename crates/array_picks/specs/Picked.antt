-- The runs that schedules pick.
use Rattle.std.specs.Prelude.{ℕ, ◌≡◌, List, [], ◌∷◌, Some, slice_get}
use Rattle.sys_base.specs.declared.actor.Actor.{Actor}
use Rattle.cell_code.specs.declared.image.Image.{Image}
use Rattle.array_model.specs.States.{ArrayState, Inputs, opening}
use Rattle.array_model.specs.Steps.{enabled, step}
use Rattle.schedules.specs.declared.chooser.Pick.{Pick}
use Rattle.schedules.specs.declared.chooser.Pick.TheVariants.{At, Stop}

-- The picks of a schedule are a relation of four things: its value before, the list that it picks from, its answer, and
-- its value after.
module _ {S : Type 0} (picks : S → List Actor → Pick → S → Type 0) (image : Image) (inputs : Inputs)
    (cap : ℕ) where
  -- In a state the schedule picks a place among the enabled actors there, and goes on from one value to the next; the
  -- actor stands at that place, and its step leads to the next state.
  pub record PicksStep (s : ArrayState) (before : S) (actor : Actor) (next : ArrayState) (after : S) : Type 0 where
    pub place : ℕ
    pub picked : picks before (enabled image inputs cap s) (At place) after
    pub there : slice_get (enabled image inputs cap s) place ≡ Some actor
    pub moves : step image inputs cap s actor ≡ Some next

  -- The schedule picks these actors, one after the other: each in the state that those before it leave, and by the value
  -- that the pick before it left. They lead from a state to the last one, and from a value to the one left.
  abbrev pub PicksRun : ArrayState → S → List Actor → ArrayState → S → Type 0
  PicksRun s value [] last left = (s ≡ last) × (value ≡ left)
  PicksRun s value (a ∷ rest) last left =
      (next : ArrayState) × (after : S) × PicksStep s value a next after × PicksRun next after rest last left

  -- The schedule picks this whole run: from the opening state on, until nothing is enabled.
  pub record PicksWhole (value : S) (run : List Actor) (last : ArrayState) (left : S) : Type 0 where
    pub picked : PicksRun (opening image) value run last left
    pub ended : enabled image inputs cap last ≡ []

  -- The schedule picks just one whole run: there is one, and every other one is the same.
  pub record PicksOneRun (value : S) : Type 0 where
    pub run : List Actor
    pub last : ArrayState
    pub left : S
    pub whole : PicksWhole value run last left
    pub only : (others : List Actor) (end : ArrayState) (rest : S) → PicksWhole value others end rest
        → (others ≡ run) × (end ≡ last) × (rest ≡ left)

-- The schedule never stops, whatever its value and whatever is enabled.
abbrev pub NeverStops : {S : Type 0} → (S → List Actor → Pick → S → Type 0) → Type 0
NeverStops {S} picks = (before after : S) (list : List Actor) → picks before list Stop after → ⊥
