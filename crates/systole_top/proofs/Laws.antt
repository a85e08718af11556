-- The laws of the layers below that the top call rests on.
use Rattle.std.proofs.Common.{◌≢◌, ◌⊎◌, ◌≤◌, ℕ, ℤ, max, Bool, List}
use Rattle.accept.specs.FirstRefusal.{Accepts, FirstRefusal}
use Rattle.accept.specs.Image.{IsImageOf}
use Rattle.accept.specs.Needs.{AreNeeds, IsNeedRefused}
use Rattle.accept.specs.declared.needing.NeedLine.{NeedLine}
use Rattle.array_model.specs.Runs.{IsFinished, IsRun, IsSure}
use Rattle.array_model.specs.States.{ArrayState, Inputs, IsCounted}
use Rattle.cell_code.specs.Images.{IsShaped}
use Rattle.cell_code.specs.declared.image.Image.{Image}
use Rattle.cell_types.specs.Resolved.{program_of}
use Rattle.program_image.specs.Faithful.{IsFaithful, inputs_of}
use Rattle.refusals.specs.declared.refusal.Refusal.{Refusal}
use Rattle.run_words.specs.Answers.{AnswersChoice, Choice, capacity}
use Rattle.run_words.specs.Once.{HasJustOne}
use Rattle.run_words.specs.Schedules.{Ending, Makes, Schedule, Finished}
use Rattle.stream_io.specs.Reading.{HasInputs, Refuses}
use Rattle.stream_io.specs.declared.error.InputError.{InputError}
use Rattle.stream_io.specs.declared.error.InputError.TheVariants.{Memory}
use Rattle.sys_base.specs.Grid.{Extent}
use Rattle.sys_base.specs.declared.actor.Actor.{Actor}

pub record Laws : Type 0 where
  -- every text is accepted or has a first refusal
  pub judged : (text : List ℕ) → Accepts text ⊎ ((r : Refusal) × FirstRefusal text r)
  -- a text that is accepted has an image
  pub imaged : (text : List ℕ) → Accepts text → (image : Image) × IsImageOf text image
  -- the parts of an image fit together
  pub shaped : (text : List ℕ) (image : Image) → IsImageOf text image → IsShaped image
  -- the image of a text does what its program says
  pub faithful : (text : List ℕ) (image : Image) (is : IsImageOf text image)
      → IsFaithful (program_of is.source) is.labels image
  -- every text has needs, or is refused
  pub needs : (text : List ℕ) → ((lines : List NeedLine) × AreNeeds text lines) ⊎ ((r : Refusal) × IsNeedRefused text r)
  -- any bytes give inputs, or break a rule first
  pub inputs : (bytes : List ℕ) (g : Extent) (takes : List ℕ) →
      ((inputs : List (List ℤ)) × HasInputs bytes g takes inputs)
      ⊎ ((error : InputError) × (error ≢ Memory) × Refuses bytes g takes error)
  -- a run has one answer
  pub answers : (image : Image) (least asked : ℕ) (recorded : Bool) (lists : List (List ℤ)) (choice : Choice)
      → IsShaped image → IsSure image least → IsCounted image (inputs_of lists) → max 1 least ≤ capacity image asked
      → HasJustOne (AnswersChoice image asked recorded lists choice)
  -- what a schedule makes is a run, and one that ends as finished is
  pub made : (image : Image) (inputs : Inputs) (cap : ℕ) (schedule : Schedule) (run : List Actor) (last : ArrayState) (ending : Ending)
      → Makes image inputs cap schedule run last ending → IsRun image inputs cap run last
  pub finished : (image : Image) (least cap : ℕ) (inputs : Inputs) (schedule : Schedule) (run : List Actor) (last : ArrayState)
      → IsShaped image → IsSure image least → IsCounted image inputs → max 1 least ≤ cap
      → Makes image inputs cap schedule run last Finished → IsFinished image last
