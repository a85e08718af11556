-- That there is just one run, answer or reading.
use Rattle.std.specs.Prelude.{ℕ, ◌≡◌, List}
use Rattle.sys_base.specs.declared.actor.Actor.{Actor}
use Rattle.cell_code.specs.declared.image.Image.{Image}
use Rattle.array_model.specs.States.{ArrayState, Inputs}
use Rattle.run_words.specs.Schedules.{Ending, Makes, Schedule}

-- The schedule makes just one run: there is one, and every other one is the same, in its end too.
pub record MakesOneRun (image : Image) (inputs : Inputs) (cap : ℕ) (schedule : Schedule) : Type 0 where
  pub run : List Actor
  pub last : ArrayState
  pub ending : Ending
  pub makes : Makes image inputs cap schedule run last ending
  pub only : (others : List Actor) (end : ArrayState) (how : Ending) → Makes image inputs cap schedule others end how
      → (others ≡ run) × (end ≡ last) × (how ≡ ending)

-- The fact holds of one value, and of no other.
pub record HasJustOne {X : Type 0} (Fact : X → Type 0) : Type 0 where
  pub one : X
  pub is : Fact one
  pub only : (other : X) → Fact other → one ≡ other
