-- What contracts see of a choice and of an answer.
use Rattle.std.specs.Prelude.{◌<◌, ◌^◌, ⊤, Some, vec_len}
use Rattle.std.specs.Option.{option_map}
use Rattle.run_words.specs.Answers.{BuiltIn, OfFile, bad, told}
use Rattle.run_words.specs.Answers.{Choice as AChoice, RunAnswer as AnAnswer}
use Rattle.run_words.specs.Schedules.{Low, High, Round, Seeded}
use Rattle.run_words.specs.declared.verdict.RunVerdict.TheVariants as Verdict
use Rattle.image_runs.specs.declared.answering.Choice.{Choice}
use Rattle.image_runs.specs.declared.answering.RunAnswer.{RunAnswer}

-- which schedule it is
abbrev pub choice_of : Choice → AChoice
choice_of Choice.Low = BuiltIn Low
choice_of Choice.High = BuiltIn High
choice_of Choice.Round = BuiltIn Round
choice_of (Choice.Seeded seed) = BuiltIn (Seeded seed)
choice_of (Choice.OfFile file) = OfFile (option_map (λ bytes. bytes.items) file)

-- A schedule file is one whose bytes can be counted by 32 bits.
abbrev pub HasLength : Choice → Type 0
HasLength (Choice.OfFile (Some bytes)) = vec_len bytes < 2 ^ 32
HasLength _ = ⊤

-- the answer with the bytes for each side
abbrev pub answer_of : RunAnswer → AnAnswer
answer_of a = elim a.verdict [
  | Verdict.BadSchedule ↦ bad a.text.items
  | Verdict.Done ↦ told Verdict.Done a.text.items
  | Verdict.Unfinished ↦ told Verdict.Unfinished a.text.items
]
