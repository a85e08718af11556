-- The headline: `compile` compiles correctly, `mean` says what every finished run emits, and `run` runs to its end with
-- these outputs, whatever the schedule and the capacity.
use Rattle.std.specs.Prelude.{ℕ, ◌≡◌, ◌≤◌, ◌++◌, max, ℤ, Bool, List, [], Option, None, Some, IfSome}
use Rattle.std.specs.Io.KnownBytes.{Appends}
use Rattle.accept.specs.Image.{IsImageOf}
use Rattle.array_model.specs.Runs.{GoesWell, IsFinished, IsRun}
use Rattle.array_model.specs.States.{ArrayState}
use Rattle.cell_code.specs.declared.image.Image.{Image}
use Rattle.cell_types.specs.Resolved.{program_of}
use Rattle.comm_sequence.specs.Meaning.{IsMeaning}
use Rattle.object_io.specs.Objects.{object_text}
use Rattle.program_image.specs.Faithful.{HasEmitted, IsFaithful, inputs_of}
use Rattle.run_words.specs.Answers.{capacity}
use Rattle.run_words.specs.Results.{Tells, record_text}
use Rattle.run_words.specs.Schedules.{Makes, Schedule, Finished, Recorded}
use Rattle.schedules.specs.Entries.{HasEntries}
use Rattle.stream_io.specs.Results.{line_of, result_data}
use Rattle.stream_io.specs.declared.report.Report.{Report}
use Rattle.sys_base.specs.declared.actor.Actor.{Actor}
use Rattle.sys_base.specs.declared.word.Word.{Word}
use Rattle.systole_top.specs.Commands.{meaning_line}
use Rattle.systole_top.specs.Given.{AreGiven}
use Rattle.systole_top.specs.Shape.{Shape, Check, Explain, Compile, Need, Mean, Run}
use Rattle.systole_top.specs.Shape.{Chosen, By, InFile}
use Rattle.systole_top.specs.Sides.{Stream}
use Rattle.systole_top.specs.declared.status.Status.{Status}

-- The text is accepted, and standard output gained the object of its image, and nothing else was put. The image does
-- what the text's program says: for every input, every run of it at every capacity from one and from the program's
-- buffer on takes at most the steps of the bound that is printed, is never stuck before its end, ends clean, and emits
-- the words of the program's meaning.
pub record IsCompiled (text : List ℕ) (out err : Stream) : Type 0 where
  pub image : Image
  pub is : IsImageOf text image
  pub faithful : IsFaithful (program_of is.source) is.labels image
  pub put : Appends out.told_before out.told_now (object_text image)
  pub alone : Appends err.told_before err.told_now []

-- The text is accepted, the bytes give inputs, and standard output gained the words of the program's meaning for them,
-- and nothing else was put. Every run of the text's image on these inputs, at every capacity from one and from the
-- program's buffer on, emits the beginning of these words, and all of them where it is finished.
pub record IsMeaningPut (text bytes : List ℕ) (out err : Stream) : Type 0 where
  pub image : Image
  pub is : IsImageOf text image
  pub inputs : List (List ℤ)
  pub given : AreGiven image bytes inputs
  pub words : List (List Word)
  pub meaning : IsMeaning (program_of is.source) inputs words
  pub runs : (cap : ℕ) (run : List Actor) (last : ArrayState) → max 1 image.buffer ≤ cap
      → IsRun image (inputs_of inputs) cap run last → HasEmitted image words last
  pub put : Appends out.told_before out.told_now (meaning_line image words)
  pub alone : Appends err.told_before err.told_now []

-- The text is accepted, the bytes give inputs, and standard output gained the result line of a run, with its record
-- where that is asked for, and nothing else was put. The run is the one that the schedule makes of the text's image,
-- where each queue has the capacity that is asked for, and at least the program's buffer. It takes at most the steps of
-- the bound that is printed, every cell is at its end after it, and its outputs are the words of the program's meaning.
pub record IsRunPut (text bytes : List ℕ) (asked : ℕ) (schedule : Schedule) (recorded : Bool) (out err : Stream)
    : Type 0 where
  pub image : Image
  pub is : IsImageOf text image
  pub inputs : List (List ℤ)
  pub given : AreGiven image bytes inputs
  pub run : List Actor
  pub last : ArrayState
  pub makes : Makes image (inputs_of inputs) (capacity image asked) schedule run last Finished
  pub is_run : IsRun image (inputs_of inputs) (capacity image asked) run last
  pub well : GoesWell image (inputs_of inputs) (capacity image asked) run last
  pub finished : IsFinished image last
  pub report : Report
  pub tells : Tells image (inputs_of inputs) (capacity image asked) run last report
  pub meaning : IsMeaning (program_of is.source) inputs report.outputs.cells
  pub put : Appends out.told_before out.told_now (line_of (result_data image.grid report) ++ record_text recorded run)
  pub alone : Appends err.told_before err.told_now []

-- The schedule is the one that is asked for: a built-in one, or the entries of a file, if the file has these bytes.
abbrev pub IsAskedFor : (List ℕ → Option (List ℕ)) → Chosen → Schedule → Type 0
IsAskedFor held (By wanted) schedule = schedule ≡ wanted
IsAskedFor held (InFile name) schedule =
    (bytes : List ℕ) × IfSome (held name) (λ told. told ≡ bytes)
    × (entries : List Actor) × HasEntries bytes entries × (schedule ≡ Recorded entries)

-- Where `compile F` is Done, there is a text that is compiled: that of the file F, where F is told. Where `mean F IN`
-- is Done, the meaning of such a text was put, for the bytes of the file IN, where IN is told; and where `run` is Done,
-- the result of the run that the schedule makes.
abbrev pub Compiles : Option Shape → (List ℕ → Option (List ℕ)) → Stream → Stream → Status → Type 0
Compiles None held out err status = Unit {0}
Compiles (Some (Check file)) held out err status = Unit {0}
Compiles (Some (Explain file)) held out err status = Unit {0}
Compiles (Some (Compile file)) held out err status =
    status ≡ Status.Done
    → (text : List ℕ) × IfSome (held file) (λ told. told ≡ text) × IsCompiled text out err
Compiles (Some (Need file)) held out err status = Unit {0}
Compiles (Some (Mean file input)) held out err status =
    status ≡ Status.Done
    → (text bytes : List ℕ) × IfSome (held file) (λ told. told ≡ text) × IfSome (held input) (λ told. told ≡ bytes)
    × IsMeaningPut text bytes out err
Compiles (Some (Run words)) held out err status =
    status ≡ Status.Done
    → (text bytes : List ℕ) × IfSome (held words.file) (λ told. told ≡ text)
    × IfSome (held words.input) (λ told. told ≡ bytes)
    × (schedule : Schedule) × IsAskedFor held words.chosen schedule
    × IsRunPut text bytes words.capacity schedule words.recorded out err
