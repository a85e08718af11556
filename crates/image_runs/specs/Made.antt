-- Words that the contracts of inner functions cite: runs that were made, and schedule files that were read.
use Rattle.std.specs.Prelude.{ℕ, ◌≡◌, ◌<◌, ◌≤◌, ◌^◌, ⊤, List, [], Option, Some, None, Vec, vec_len}
use Rattle.std.specs.Global.{Global}
use Rattle.std.specs.Option.{option_map}
use Rattle.array_model.specs.States.{ArrayState, opening}
use Rattle.array_sim.specs.Simulations.{IsAfter, Simulation, cap_in, inputs_in}
use Rattle.array_drive.specs.Driving.{IsSureAt, Recorded as Notes}
use Rattle.run_words.specs.Answers.{Reading as AReading, Fits, Breaks}
use Rattle.run_words.specs.Schedules.{Ending as AnEnding, Makes, Schedule as ASchedule, Low, High, Round, Seeded, Recorded, Finished, Unfinished, NotEnabled}
use Rattle.image_runs.specs.declared.making.Ending.{Ending}
use Rattle.image_runs.specs.declared.making.Schedule.{Schedule}
use Rattle.image_runs.specs.declared.reading.Reading.{Reading}

-- which schedule it is
abbrev pub schedule_of : Schedule → ASchedule
schedule_of Schedule.Low = Low
schedule_of Schedule.High = High
schedule_of Schedule.Round = Round
schedule_of (Schedule.Seeded seed) = Seeded seed
schedule_of (Schedule.Recorded entries) = Recorded entries.items

-- The entries of a schedule can be counted by 32 bits.
abbrev pub HasFewEntries : Schedule → Type 0
HasFewEntries (Schedule.Recorded entries) = vec_len entries < 2 ^ 32
HasFewEntries _ = ⊤

-- which ending it is
abbrev pub ending_of : Ending → AnEnding
ending_of Ending.Finished = Finished
ending_of Ending.Unfinished = Unfinished
ending_of (Ending.NotEnabled entry) = NotEnabled entry

-- A simulation stands at the opening state and is sure at its capacity, and a trail with no entries has room for the
-- bound of its image.
pub record IsReady (sim : Simulation) (notes : Notes) : Type 0 where
  pub after : IsAfter sim [] (opening sim.array.image)
  pub sure : IsSureAt sim.array.image (cap_in sim.array)
  pub fresh : notes.entries ≡ []
  pub room : sim.array.image.bound ≤ notes.room

-- From an opened simulation the schedule has made a run, which the trail has recorded and which has led the simulation
-- on to a last state; and the run ends so.
pub record IsMade (opened sim : Simulation) (notes : Notes) (schedule : ASchedule) (ending : AnEnding) : Type 0 where
  pub image : sim.array.image ≡ opened.array.image
  pub inputs : inputs_in sim.array ≡ inputs_in opened.array
  pub cap : cap_in sim.array ≡ cap_in opened.array
  pub last : ArrayState
  pub after : IsAfter sim notes.entries last
  pub makes :
      Makes opened.array.image (inputs_in opened.array) (cap_in opened.array) schedule notes.entries last ending

-- the bytes of a file that there is
abbrev pub file_of : Option (Vec ℕ Global) → Option (List ℕ)
file_of file = option_map (λ bytes. bytes.items) file

-- The bytes of a file that there is can be counted by 32 bits.
abbrev pub IsShortFile : Option (Vec ℕ Global) → Type 0
IsShortFile (Some bytes) = vec_len bytes < 2 ^ 32
IsShortFile None = ⊤

-- what a file is read as
abbrev pub reading_of : Reading → AReading
reading_of (Reading.Fits entries) = Fits entries.items
reading_of (Reading.Breaks line) = Breaks line.items

-- The entries that are read can be counted by 32 bits.
abbrev pub HasFew : Reading → Type 0
HasFew (Reading.Fits entries) = vec_len entries < 2 ^ 32
HasFew (Reading.Breaks line) = ⊤
