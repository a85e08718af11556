-- What `run` printed with a record makes the same run again.
use Rattle.std.proofs.Common.{◌≡◌, ◌⊎◌, inl, inr, ℕ, ◌<◌, true, ℤ, List, []}
use Rattle.std.proofs.Common.{◌++◌, Some, length, refl, sym, ap, subst, All}
use Rattle.sys_base.specs.declared.actor.Actor.{Actor}
use Rattle.cell_code.specs.declared.image.Image.{Image}
use Rattle.array_model.specs.States.{ArrayState, Inputs}
use Rattle.array_model.specs.Steps.{enabled}
use Rattle.array_sim.specs.Simulations.{inputs_of}
use Rattle.schedules.specs.Entries.{HasEntries, IsShort, schedule_text}
use Rattle.schedules.specs.declared.recorded.Standing.TheVariants as S
use Rattle.schedules.proofs.Reading.{written_behind}
use Rattle.stream_io.specs.Results.{IsObjectLine, line_of, result_data}
use Rattle.stream_io.specs.declared.report.Report.{Report}
use Rattle.array_picks.specs.Replays.{Replays}
use Rattle.run_words.specs.Answers.{AnswersChoice, OfFile, RunAnswer, Fits, Says, capacity}
use Rattle.run_words.specs.Results.{IsResultLine}
use Rattle.run_words.specs.Schedules.{Ending, Makes, Schedule, Finished, Unfinished, NotEnabled}
use Rattle.run_words.proofs.Ends.{nothing_enabled, some_enabled}

module _ (image : Image) (inputs : Inputs) (cap : ℕ) where
  -- behind its result line the record reads as the run
  reads_run : ((report : Report) → IsObjectLine (line_of (result_data image.grid report)))
      → (run : List Actor) (last : ArrayState) (line : List ℕ) → All IsShort run
      → IsResultLine image inputs cap run last line → HasEntries (line ++ schedule_text run) run
  reads_run lines run last line short is =
      let one : IsObjectLine line = subst IsObjectLine (sym is.2) (lines is.0) in
      subst (λ (text : List ℕ). HasEntries (text ++ schedule_text run) run) (sym one.ends)
      (written_behind one.front run one.begins one.plain short)

-- from what is known of a run to a state, and of result lines
module _ (image : Image) (asked : ℕ) (lists : List (List ℤ)) (run : List Actor) (last : ArrayState)
    (short : All IsShort run)
    (lines : (report : Report) → IsObjectLine (line_of (result_data image.grid report)))
    (ended : enabled image (inputs_of lists) (capacity image asked) last ≡ []
    → Replays image (inputs_of lists) (capacity image asked) run run last [] S.Running)
    (stopped : 0 < length (enabled image (inputs_of lists) (capacity image asked) last)
    → Replays image (inputs_of lists) (capacity image asked) run run last [] S.Ended) where
  reads : (line : List ℕ) → IsResultLine image (inputs_of lists) (capacity image asked) run last line
      → (answer : RunAnswer) → answer.out ≡ line ++ schedule_text run → HasEntries answer.out run
  reads line is answer same =
      subst (λ (text : List ℕ). HasEntries text run) (sym same)
      (reads_run image (inputs_of lists) (capacity image asked) lines run last line short is)

  pub replays : (schedule : Schedule) (ending : Ending) (answer : RunAnswer)
      → (ending ≡ Finished) ⊎ (ending ≡ Unfinished)
      → Makes image (inputs_of lists) (capacity image asked) schedule run last ending
      → Says image (inputs_of lists) (capacity image asked) true run last ending answer
      → AnswersChoice image asked true lists (OfFile (Some answer.out)) answer
  replays schedule Finished answer end m says = (
    Fits run,
    reads says.0 says.1 answer (ap (λ (a : RunAnswer). a.out) says.2),
    (
      run,
      last,
      Finished,
      (
        [],
        S.Running,
        ended (nothing_enabled image (inputs_of lists) (capacity image asked) schedule run last m),
        refl,
      ),
      says,
    ),
  )
  replays schedule Unfinished answer end m says = (
    Fits run,
    reads says.0 says.1 answer (ap (λ (a : RunAnswer). a.out) says.2),
    (
      run,
      last,
      Unfinished,
      (
        [],
        S.Ended,
        stopped (some_enabled image (inputs_of lists) (capacity image asked) schedule run last m),
        refl,
      ),
      says,
    ),
  )
  replays schedule (NotEnabled n) answer (inl e) m says = absurd (cc e)
  replays schedule (NotEnabled n) answer (inr e) m says = absurd (cc e)
