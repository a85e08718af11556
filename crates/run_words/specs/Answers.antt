-- What `run` answers of the image of an accepted source, for the inputs that its input file gives.
use Rattle.std.specs.Prelude.{ℕ, ◌≡◌, max, ℤ, Bool, List, [], ◌++◌, codes, Option, None, Some}
use Rattle.std.specs.Fmt.{decimal}
use Rattle.sys_base.specs.declared.actor.Actor.{Actor}
use Rattle.sys_base.specs.declared.limits.TheConstants.{SCHEDULE_BYTES}
use Rattle.cell_code.specs.declared.image.Image.{Image}
use Rattle.array_model.specs.States.{ArrayState, Inputs}
use Rattle.array_sim.specs.Simulations.{inputs_of}
use Rattle.schedules.specs.Entries.{HasEntries, IsFirstBadLine}
use Rattle.run_words.specs.Results.{IsResultLine, record_text}
use Rattle.run_words.specs.Schedules.{Ending, Makes, Schedule, Recorded, Finished, Unfinished, NotEnabled}
use Rattle.run_words.specs.declared.verdict.RunVerdict.{RunVerdict}
use Rattle.run_words.specs.declared.verdict.RunVerdict.TheVariants as Verdict

-- ---- texts

-- of a schedule that is longer than one may be
abbrev pub long_schedule : List ℕ
long_schedule = codes "schedule: longer than " ++ decimal SCHEDULE_BYTES ++ codes " bytes\n"

-- of a malformed line, from 1
abbrev pub malformed_line : ℕ → List ℕ
malformed_line n = codes "schedule: line " ++ decimal n ++ codes " is malformed\n"

-- of an entry, from 1, that is not enabled
abbrev pub not_enabled_line : ℕ → List ℕ
not_enabled_line n = codes "schedule: entry " ++ decimal n ++ codes " is not enabled\n"

-- ---- schedule files

-- What a schedule file is read as: its entries, or the line on what is wrong with it.
pub data Reading : Type 0 where
  Fits : (entries : List Actor) → Reading
  Breaks : (line : List ℕ) → Reading

-- The schedule file is read as this; nothing stands for a file that is longer than a schedule may be.
abbrev pub ReadsSchedule : Option (List ℕ) → Reading → Type 0
ReadsSchedule None reading = reading ≡ Breaks long_schedule
ReadsSchedule (Some bytes) (Fits entries) = HasEntries bytes entries
ReadsSchedule (Some bytes) (Breaks line) = (n : ℕ) × IsFirstBadLine bytes n × (line ≡ malformed_line n)

-- ---- the answer

-- A verdict, with the bytes for each side.
pub record RunAnswer : Type 0 where
  pub verdict : RunVerdict
  pub out : List ℕ
  pub err : List ℕ

-- a bad schedule, with the line on it
abbrev pub bad : List ℕ → RunAnswer
bad line = record { verdict = Verdict.BadSchedule; out = []; err = line }

-- a run, with its result line and its record
abbrev pub told : RunVerdict → List ℕ → RunAnswer
told verdict text = record { verdict = verdict; out = text; err = [] }

-- the capacity of a queue: the one that is asked for, and at least the image's buffer
abbrev pub capacity : Image → ℕ → ℕ
capacity image asked = max asked image.buffer

-- What is said of a run that ends so: its result line, and its record where that is asked for; or the entry that is
-- not enabled.
abbrev pub Says : Image → Inputs → ℕ → Bool → List Actor → ArrayState → Ending → RunAnswer → Type 0
Says image inputs cap recorded run last Finished answer =
    (line : List ℕ) × IsResultLine image inputs cap run last line
    × (answer ≡ told Verdict.Done (line ++ record_text recorded run))
Says image inputs cap recorded run last Unfinished answer =
    (line : List ℕ) × IsResultLine image inputs cap run last line
    × (answer ≡ told Verdict.Unfinished (line ++ record_text recorded run))
Says image inputs cap recorded run last (NotEnabled entry) answer = answer ≡ bad (not_enabled_line entry)

-- This is the answer for a schedule: what is said of the run that the schedule makes.
abbrev pub AnswersRun : Image → ℕ → Bool → List (List ℤ) → Schedule → RunAnswer → Type 0
AnswersRun image asked recorded lists schedule answer =
    (run : List Actor) × (last : ArrayState) × (ending : Ending)
    × Makes image (inputs_of lists) (capacity image asked) schedule run last ending
    × Says image (inputs_of lists) (capacity image asked) recorded run last ending answer

-- Which schedule is asked for: a built-in one; or that of a file, of which nothing stands for one that is longer than
-- a schedule may be.
pub data Choice : Type 0 where
  BuiltIn : (schedule : Schedule) → Choice
  OfFile : (file : Option (List ℕ)) → Choice

-- This is the answer for a schedule file that is read so: one that is wrong is told before anything runs.
abbrev pub AnswersEntries : Image → ℕ → Bool → List (List ℤ) → Reading → RunAnswer → Type 0
AnswersEntries image asked recorded lists (Fits entries) answer =
    AnswersRun image asked recorded lists (Recorded entries) answer
AnswersEntries image asked recorded lists (Breaks line) answer = answer ≡ bad line

-- This is the answer for a choice.
abbrev pub AnswersChoice : Image → ℕ → Bool → List (List ℤ) → Choice → RunAnswer → Type 0
AnswersChoice image asked recorded lists (BuiltIn schedule) answer =
    AnswersRun image asked recorded lists schedule answer
AnswersChoice image asked recorded lists (OfFile file) answer =
    (reading : Reading) × ReadsSchedule file reading × AnswersEntries image asked recorded lists reading answer
