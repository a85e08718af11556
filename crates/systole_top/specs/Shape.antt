-- The shapes of the words of a command line.
use Rattle.std.specs.Prelude.{ℕ, ◌-◌, ◌^◌, ◌&&◌, nat_lt, nat_le, drop, take, length, Bool, true, false, List, [], ◌∷◌, codes, decimal, bytes_eq, Option, Some, None, if◌then◌else◌}
use Rattle.std.specs.Option.{option_and_then, option_map, option_map_or, option_or}
use Rattle.std.specs.Str.Parse.{digits_value}
use Rattle.run_words.specs.Schedules.{Schedule, Low, High, Round, Seeded}
use Rattle.systole_top.specs.declared.request.TheConstants.{CAPACITY}
use Rattle.systole_top.specs.declared.words.Command.{Command}
use Rattle.systole_top.specs.declared.request.RunWords.{RunWords as Words}
use Rattle.systole_top.specs.declared.request.ScheduleWord.{ScheduleWord}

-- Which schedule a run is asked for: a built-in one, or the entries of a file.
pub data Chosen : Type 0 where
  By : (schedule : Schedule) → Chosen
  InFile : (name : List ℕ) → Chosen

-- What `run` is asked: a source file and an input file, the capacity of the queues, the schedule, and whether the run
-- is to be recorded.
pub record RunWords : Type 0 where
  pub file : List ℕ
  pub input : List ℕ
  pub capacity : ℕ
  pub chosen : Chosen
  pub recorded : Bool

-- A command, with its words. A file name has at least one byte.
pub data Shape : Type 0 where
  Check : (file : List ℕ) → Shape
  Explain : (file : List ℕ) → Shape
  Compile : (file : List ℕ) → Shape
  Need : (file : List ℕ) → Shape
  Mean : (file input : List ℕ) → Shape
  Run : (words : RunWords) → Shape

-- the shape of a word and a file name
abbrev pub file_shape : List ℕ → List ℕ → Option Shape
file_shape command file =
    if bytes_eq command (codes "check") then Some (Check file) else (
    if bytes_eq command (codes "explain") then Some (Explain file) else (
    if bytes_eq command (codes "compile") then Some (Compile file) else (
    if bytes_eq command (codes "need") then Some (Need file) else None)))

-- the shape of a word and two file names
abbrev pub files_shape : List ℕ → List ℕ → List ℕ → Option Shape
files_shape command file input = if bytes_eq command (codes "mean") then Some (Mean file input) else None

-- the number of these bounds whose decimal a word is
abbrev pub number_in : (least most : ℕ) → List ℕ → Option ℕ
number_in least most word =
    let n = digits_value 10 word in
    if bytes_eq (decimal n) word && nat_le least n && nat_le n most then Some n else None

-- what stands after a prefix, where a word begins with it
abbrev pub after_prefix : List ℕ → List ℕ → Option (List ℕ)
after_prefix prefix word =
    if bytes_eq (take (length prefix) word) prefix then Some (drop (length prefix) word) else None

-- the schedule of a number that a generator is made of
abbrev pub seed_chosen : List ℕ → Option Chosen
seed_chosen seed = option_map (λ n. By (Seeded n)) (number_in 0 (2 ^ 64 - 1) seed)

-- the schedule of a word that names a file
abbrev pub file_chosen : List ℕ → Option Chosen
file_chosen word =
    option_and_then (λ name. if nat_lt 0 (length name) then Some (InFile name) else None)
    (after_prefix (codes "file=") word)

-- the schedule of a word
abbrev pub chosen_of : List ℕ → Option Chosen
chosen_of word =
    if bytes_eq word (codes "low") then Some (By Low) else (
    if bytes_eq word (codes "high") then Some (By High) else (
    if bytes_eq word (codes "round") then Some (By Round) else
    option_map_or seed_chosen (after_prefix (codes "seed=") word) (file_chosen word)))

-- the shape of the words after `run`
abbrev pub run_shape : (file input capacity schedule : List ℕ) → (recorded : Bool) → Option Shape
run_shape file input capacity schedule recorded =
    if nat_lt 0 (length file) && nat_lt 0 (length input) then
    option_and_then (λ cap. option_map (λ chosen.
    Run (record { file = file; input = input; capacity = cap; chosen = chosen; recorded = recorded }))
    (chosen_of schedule)) (number_in 1 CAPACITY capacity)
    else None

-- the shape of a word, two file names, a capacity and a schedule
abbrev pub schedule_shape : (command file input capacity schedule : List ℕ) → (recorded : Bool) → Option Shape
schedule_shape command file input capacity schedule recorded =
    if bytes_eq command (codes "run") then run_shape file input capacity schedule recorded else None

-- the shape of a command with its files, if the words have that
abbrev pub short_shape : List (List ℕ) → Option Shape
short_shape (command ∷ file ∷ []) = if nat_lt 0 (length file) then file_shape command file else None
short_shape (command ∷ file ∷ input ∷ []) =
    if nat_lt 0 (length file) then (
    if nat_lt 0 (length input) then files_shape command file input else None) else None
short_shape _ = None

-- whether a run is to be recorded, by the words after its schedule
abbrev pub recorded_in : List (List ℕ) → Option Bool
recorded_in [] = Some false
recorded_in (last ∷ []) = if bytes_eq last (codes "record") then Some true else None
recorded_in _ = None

-- the shape of a command with a schedule, if the words have that
abbrev pub long_shape : List (List ℕ) → Option Shape
long_shape (command ∷ file ∷ input ∷ capacity ∷ schedule ∷ rest) =
    option_and_then (schedule_shape command file input capacity schedule) (recorded_in rest)
long_shape _ = None

-- the shape of the words, if they have one
abbrev pub shape : List (List ℕ) → Option Shape
shape words = option_or (short_shape words) (long_shape words)

-- the schedule that a word names
abbrev pub chosen_by : ScheduleWord → Chosen
chosen_by ScheduleWord.Low = By Low
chosen_by ScheduleWord.High = By High
chosen_by ScheduleWord.Round = By Round
chosen_by (ScheduleWord.Seeded seed) = By (Seeded seed)
chosen_by (ScheduleWord.InFile name) = InFile name.now

-- what `run` is asked by its words
abbrev pub asked_by : Words → RunWords
asked_by w =
    record {
      file = w.file.now;
      input = w.input.now;
      capacity = w.capacity;
      chosen = chosen_by w.schedule;
      recorded = w.recorded;
    }

-- the shape of `run` that its words have
abbrev pub shown : Words → Shape
shown words = Run (asked_by words)

-- the shape that a command has
abbrev pub seen : Command → Shape
seen (Command.Check file) = Check file.now
seen (Command.Explain file) = Explain file.now
seen (Command.Compile file) = Compile file.now
seen (Command.Need file) = Need file.now
seen (Command.Mean file input) = Mean file.now input.now
seen (Command.Run words) = shown words
