-- `run` has just one answer.
use Rattle.std.proofs.Common.{◌≡◌, ◌↔◌, ℕ, Bool, ℤ, List, [], ◌++◌, Option, refl, sym, ap, subst, ◌∙◌}
use Rattle.sys_base.specs.declared.actor.Actor.{Actor}
use Rattle.cell_code.specs.declared.image.Image.{Image}
use Rattle.array_model.specs.Runs.{IsFinished, IsRun}
use Rattle.array_model.specs.States.{ArrayState, Inputs}
use Rattle.array_model.specs.Steps.{enabled}
use Rattle.array_sim.specs.Simulations.{inputs_of}
use Rattle.run_words.specs.Answers.{AnswersChoice, AnswersEntries, AnswersRun, BuiltIn, Choice, OfFile}
use Rattle.run_words.specs.Answers.{Reading, Fits, Breaks, ReadsSchedule}
use Rattle.run_words.specs.Answers.{RunAnswer, Says, bad, capacity, not_enabled_line, told}
use Rattle.run_words.specs.Once.{HasJustOne, MakesOneRun}
use Rattle.run_words.specs.Results.{IsResultLine, record_text}
use Rattle.run_words.specs.Schedules.{Ending, Makes, Schedule, Recorded, Finished, Unfinished, NotEnabled}
use Rattle.run_words.specs.declared.verdict.RunVerdict.{RunVerdict}
use Rattle.run_words.specs.declared.verdict.RunVerdict.TheVariants as Verdict
use Rattle.run_words.proofs.Lines.{has_line, only_line, result_line}

module _ (image : Image) (inputs : Inputs) (cap : ℕ) (recorded : Bool) where
  with_line : (run : List Actor) (last : ArrayState) (verdict : RunVerdict)
      → ((enabled image inputs cap last ≡ []) ↔ IsFinished image last)
      → HasJustOne (λ answer. (line : List ℕ) × IsResultLine image inputs cap run last line
      × (answer ≡ told verdict (line ++ record_text recorded run)))
  with_line run last verdict ends =
      record {
        one = told verdict (result_line image inputs cap run last ++ record_text recorded run);
        is = (result_line image inputs cap run last, has_line image inputs cap run last ends, refl);
        only = λ other is.
            ap (λ (line : List ℕ). told verdict (line ++ record_text recorded run))
            (only_line image inputs cap run last (result_line image inputs cap run last) is.0
            (has_line image inputs cap run last ends) is.1)
            ∙ sym is.2;
      }

  said : (run : List Actor) (last : ArrayState) → ((enabled image inputs cap last ≡ []) ↔ IsFinished image last)
      → (ending : Ending) → HasJustOne (Says image inputs cap recorded run last ending)
  said run last ends Finished = with_line run last Verdict.Done ends
  said run last ends Unfinished = with_line run last Verdict.Unfinished ends
  said run last ends (NotEnabled n) = record { one = bad (not_enabled_line n); is = refl; only = λ other is. sym is }

  moved : (answer : RunAnswer) (r q : List Actor) (l k : ArrayState) (e f : Ending) → r ≡ q → l ≡ k → e ≡ f
      → Says image inputs cap recorded r l e answer → Says image inputs cap recorded q k f answer
  moved answer r q l k e f h1 h2 h3 says =
      subst (λ (x : Ending). Says image inputs cap recorded q k x answer) h3
      (subst (λ (x : ArrayState). Says image inputs cap recorded q x e answer) h2
      (subst (λ (x : List Actor). Says image inputs cap recorded x l e answer) h1 says))

-- from what is known of the runs that schedules make, and of schedule files
module _ (image : Image) (asked : ℕ) (recorded : Bool) (lists : List (List ℤ))
    (one : (schedule : Schedule) → MakesOneRun image (inputs_of lists) (capacity image asked) schedule)
    (is_run : (schedule : Schedule) (run : List Actor) (last : ArrayState) (ending : Ending)
    → Makes image (inputs_of lists) (capacity image asked) schedule run last ending
    → IsRun image (inputs_of lists) (capacity image asked) run last)
    (ends : (run : List Actor) (last : ArrayState) → IsRun image (inputs_of lists) (capacity image asked) run last
    → ((enabled image (inputs_of lists) (capacity image asked) last ≡ []) ↔ IsFinished image last))
    (reading : (file : Option (List ℕ)) → HasJustOne (ReadsSchedule file)) where
  of_schedule : (schedule : Schedule) → HasJustOne (AnswersRun image asked recorded lists schedule)
  of_schedule schedule =
      let made = one schedule in
      let says =
      said image (inputs_of lists) (capacity image asked) recorded made.run made.last
      (ends made.run made.last (is_run schedule made.run made.last made.ending made.makes)) made.ending
      in
      record {
        one = says.one;
        is = (made.run, made.last, made.ending, made.makes, says.is);
        only = λ other is.
            let same = made.only is.0 is.1 is.2 is.3 in
            says.only other (moved image (inputs_of lists) (capacity image asked) recorded other is.0 made.run
            is.1 made.last is.2 made.ending same.0 same.1 same.2 is.4);
      }

  of_reading : (read : Reading) → HasJustOne (AnswersEntries image asked recorded lists read)
  of_reading (Fits entries) = of_schedule (Recorded entries)
  of_reading (Breaks line) = record { one = bad line; is = refl; only = λ other is. sym is }

  pub one_answer : (choice : Choice) → HasJustOne (AnswersChoice image asked recorded lists choice)
  one_answer (BuiltIn schedule) = of_schedule schedule
  one_answer (OfFile file) =
      let read = reading file in
      let says = of_reading read.one in
      record {
        one = says.one;
        is = (read.one, read.is, says.is);
        only = λ other h.
            says.only other (subst (λ (r : Reading). AnswersEntries image asked recorded lists r other)
            (sym (read.only h.0 h.1)) h.2);
      }
