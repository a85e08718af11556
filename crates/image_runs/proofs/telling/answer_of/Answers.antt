use Rattle.std.proofs.Common.{◌≡◌, ℕ, ◌++◌, Bool, List, Vec, sym, ap, subst}
use Rattle.std.specs.Global.{Global}
use Rattle.sys_base.specs.declared.actor.Actor.{Actor}
use Rattle.cell_code.specs.declared.image.Image.{Image}
use Rattle.array_model.specs.States.{ArrayState, Inputs}
use Rattle.run_words.specs.Answers.{Says, bad, told, not_enabled_line}
use Rattle.run_words.specs.Results.{IsResultLine, record_text}
use Rattle.run_words.specs.Schedules.{Finished, Unfinished, NotEnabled}
use Rattle.run_words.specs.declared.verdict.RunVerdict.{RunVerdict}
use Rattle.run_words.specs.declared.verdict.RunVerdict.TheVariants as Verdict
use Rattle.image_runs.specs.Made.{ending_of}
use Rattle.image_runs.specs.Views.{answer_of}
use Rattle.image_runs.specs.declared.making.Ending.{Ending}
use Rattle.image_runs.specs.declared.making.Ending.TheVariants as E
use Rattle.image_runs.proofs.telling.answer_of.Goals as goal
use Rattle.image_runs.proofs.telling.answer_of.Goals.{in-Finished+in_ok-told_text-in-Finished, in-Unfinished+in_ok-told_text-in-Unfinished, in-NotEnabled+in_ok-not_enabled_line-in-NotEnabled}

module _ (image : Image) (inputs : Inputs) (cap : ℕ) (recorded : Bool) (run : List Actor) (last : ArrayState)
    (ending : Ending) (pair : RunVerdict × Vec ℕ Global) (text : Vec ℕ Global) where
  -- what is said by a verdict and a text
  abbrev SaysPair : Type 0
  SaysPair =
      Says image inputs cap recorded run last (ending_of ending) (answer_of record { verdict = pair.0; text = pair.1 })

  -- the text of a run that was made
  abbrev IsTold : Type 0
  IsTold =
      (line : List ℕ) × IsResultLine image inputs cap run last line × (text.items ≡ line ++ record_text recorded run)

  says_finished : ending ≡ E.Finished → pair ≡ (Verdict.Done, text) → IsTold → SaysPair
  says_finished is same t =
      subst (λ (e : Ending). Says image inputs cap recorded run last (ending_of e)
      (answer_of record { verdict = pair.0; text = pair.1 })) (sym is)
      (subst (λ (p : RunVerdict × Vec ℕ Global). Says image inputs cap recorded run last Finished
      (answer_of record { verdict = p.0; text = p.1 })) (sym same)
      (t.0, t.1, ap (told Verdict.Done) t.2))

  says_unfinished : ending ≡ E.Unfinished → pair ≡ (Verdict.Unfinished, text) → IsTold → SaysPair
  says_unfinished is same t =
      subst (λ (e : Ending). Says image inputs cap recorded run last (ending_of e)
      (answer_of record { verdict = pair.0; text = pair.1 })) (sym is)
      (subst (λ (p : RunVerdict × Vec ℕ Global). Says image inputs cap recorded run last Unfinished
      (answer_of record { verdict = p.0; text = p.1 })) (sym same)
      (t.0, t.1, ap (told Verdict.Unfinished) t.2))

  says_not_enabled : (entry : ℕ) → ending ≡ E.NotEnabled entry → pair ≡ (Verdict.BadSchedule, text)
      → text.items ≡ not_enabled_line entry → SaysPair
  says_not_enabled entry is same t =
      subst (λ (e : Ending). Says image inputs cap recorded run last (ending_of e)
      (answer_of record { verdict = pair.0; text = pair.1 })) (sym is)
      (subst (λ (p : RunVerdict × Vec ℕ Global). Says image inputs cap recorded run last (NotEnabled entry)
      (answer_of record { verdict = p.0; text = p.1 })) (sym same)
      (ap bad t))

pub returns : goal.returns
returns c = λ last after.
    elim c.match-ending.branch [
      | in-Finished+in_ok-told_text-in-Finished w ↦ says_finished _ _ _ _ _ _ _ _ _ w.in-Finished.is w.verdict-is
          (w.in_ok-told_text-in-Finished.ensures last after)
      | in-Unfinished+in_ok-told_text-in-Unfinished w ↦ says_unfinished _ _ _ _ _ _ _ _ _ w.in-Unfinished.is w.verdict-is
          (w.in_ok-told_text-in-Unfinished.ensures last after)
      | in-NotEnabled+in_ok-not_enabled_line-in-NotEnabled w ↦ says_not_enabled _ _ _ _ _ _ _ _ _ _ w.in-NotEnabled.is
          w.verdict-is w.in_ok-not_enabled_line-in-NotEnabled.ensures
    ]
