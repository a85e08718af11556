-- What a source is found to be.
use Rattle.std.specs.Prelude.{ℕ, ◌≡◌, List, Option, Some, None}
use Rattle.accept.specs.FirstRefusal.{Accepts, FirstRefusal, PassesAll, need_trials}
use Rattle.accept.specs.Image.{IsImageOf}
use Rattle.accept.specs.Needs.{AreNeeds, IsNeedRefused}
use Rattle.accept.specs.declared.needing.NeedLine.{NeedLine}
use Rattle.cell_code.specs.declared.image.Image.{Image}
use Rattle.cell_types.specs.Code.{ProgramCode}
use Rattle.cell_types.specs.Resolved.{program_of}
use Rattle.refusals.specs.declared.refusal.Refusal.{Refusal}
use Rattle.refusals.specs.declared.refusal.Refusal.TheVariants.{LongSource}
use Rattle.systole_top.specs.declared.judgement.Judgement.{Judgement}
use Rattle.systole_top.specs.declared.judgement.Judgement.TheVariants.{Accepted, Refused}

-- What a source is asked: which texts pass, what is found of those, and for which reason a text is refused first.
pub record Question (V : Type 0) : Type 1 where
  pub Passes : List ℕ → Type 0
  pub Finds : List ℕ → V → Type 0
  pub Refuses : List ℕ → Refusal → Type 0

-- What a source is found to be. Nothing stands for a file that is longer than a source may be: it is refused before it
-- is read whole.
abbrev pub IsJudged : {V : Type 0} → Question V → Option (List ℕ) → Judgement V → Type 0
IsJudged question None judgement = judgement ≡ Refused LongSource
IsJudged question (Some text) (Accepted found) = question.Finds text found
IsJudged question (Some text) (Refused r) = question.Refuses text r

-- ---- is the source accepted?

-- what an accepted source says, and the image of it
pub record Plan : Type 0 where
  pub program : ProgramCode
  pub image : Image

-- The text has no refusal; this is its image, and the program of its source.
pub record IsPlanOf (text : List ℕ) (plan : Plan) : Type 0 where
  pub is : IsImageOf text plan.image
  pub program_is : plan.program ≡ program_of is.source

-- the question of all commands but `need`
abbrev pub acceptance : Question Plan
acceptance = record { Passes = Accepts; Finds = IsPlanOf; Refuses = FirstRefusal }

-- ---- what do its links need?

-- the question of `need`: what is refused only for want of queues or of steps passes
abbrev pub needs : Question (List NeedLine)
needs = record { Passes = PassesAll need_trials; Finds = AreNeeds; Refuses = IsNeedRefused }
