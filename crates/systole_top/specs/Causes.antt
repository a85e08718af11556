-- Why the top call answers as it does.
use Rattle.std.specs.Prelude.{ℕ, ◌≡◌, ◌⊎◌, ◌≢◌, ◌-◌, ◌^◌, ◌<◌, ℤ, List, [], Option, None, Some, IsSome, IfSome, Contains}
use Rattle.std.specs.Io.KnownBytes.{Appends, Keeps}
use Rattle.accept.specs.FirstRefusal.{FirstRefusal}
use Rattle.accept.specs.Needs.{need_lines}
use Rattle.comm_sequence.specs.Meaning.{IsMeaning}
use Rattle.object_io.specs.Objects.{object_text}
use Rattle.refusals.specs.Explanations.{explanation}
use Rattle.refusals.specs.declared.refusal.Refusal.{Refusal}
use Rattle.run_words.specs.Answers.{AnswersChoice, Choice, BuiltIn, OfFile, RunAnswer}
use Rattle.sys_base.specs.declared.limits.TheConstants.{INPUT_BYTES, SCHEDULE_BYTES}
use Rattle.sys_base.specs.declared.word.Word.{Word}
use Rattle.sys_outside.specs.Fault.{Rose}
use Rattle.systole_top.specs.Commands.{tree_of, files_of, silent, mean_done, run_reply}
use Rattle.systole_top.specs.Given.{Taken, Bad, IsGiven}
use Rattle.systole_top.specs.Judgement.{Question, Plan, IsPlanOf, acceptance, needs}
use Rattle.systole_top.specs.Reply.{Reply, Outcome, status_of, outcome_of, usage, unread, no_memory}
use Rattle.systole_top.specs.Shape.{Shape, Check, Explain, Compile, Need, Mean, Run}
use Rattle.systole_top.specs.Shape.{Chosen, By, InFile, RunWords}
use Rattle.systole_top.specs.Sides.{Stream, Reaches}
use Rattle.systole_top.specs.Texts.{cannot_read, accepted_line, out_of_memory, refusal_line}
use Rattle.systole_top.specs.Tree.{Replies, Comes, Tries, within}
use Rattle.systole_top.specs.declared.answer.Verdict.{Verdict}
use Rattle.systole_top.specs.declared.answer.Verdict.TheVariants as V
use Rattle.systole_top.specs.declared.status.Status.{Status}

-- ---- the answer

-- The answer to words of this shape, or of none, over files whose bytes are told. There is no answer where a file
-- that is wanted isn't told.
abbrev pub IsAnswer : Option Shape → (List ℕ → Option (List ℕ)) → Outcome → Type 0
IsAnswer None held a = a ≡ usage
IsAnswer (Some s) held a = (r : Reply) × Replies held (tree_of s) r × (a ≡ outcome_of r)

-- ---- what the call says

-- The words name this file.
abbrev pub Names : Option Shape → List ℕ → Type 0
Names None name = ⊥
Names (Some s) name = Contains (files_of s) name

-- The file is tried after all that comes before it passed.
abbrev pub TriesFile : Option Shape → (List ℕ → Option (List ℕ)) → List ℕ → Type 0
TriesFile None held name = ⊥
TriesFile (Some s) held name = Tries held (tree_of s) name

-- A file that the words name can't be read, after all that comes before it passed: its count of faults rose.
pub record IsUnread (asked : Option Shape) (held : List ℕ → Option (List ℕ)) (before now : List ℕ → ℕ)
    (name : List ℕ) : Type 0 where
  pub named : Names asked name
  pub tried : TriesFile asked held name
  pub rose : Rose (before name) (now name)

-- The outcome is that of words that are no command; or a reply that comes of some bytes of the files; or that of a file
-- that can't be read; or that of want of memory.
abbrev pub May : Option Shape → (List ℕ → Option (List ℕ)) → (List ℕ → ℕ) → (List ℕ → ℕ) → Outcome → Type 0
May None held before now t = t ≡ usage
May (Some s) held before now t =
    ((r : Reply) × Comes held (tree_of s) r × (t ≡ outcome_of r))
    ⊎ ((name : List ℕ) × Tries held (tree_of s) name × Rose (before name) (now name) × (t ≡ unread (cannot_read name)))
    ⊎ (t ≡ no_memory)

-- The call told one outcome that it may tell, and it reached the sinks.
pub record Tells (asked : Option Shape) (held : List ℕ → Option (List ℕ)) (before now : List ℕ → ℕ)
    (out err : Stream) (status : Status) : Type 0 where
  pub told : Outcome
  pub may : May asked held before now told
  pub reaches : Reaches out err told status

-- Where the words have an answer over the told files, it reached the sinks; or a file couldn't be read, or memory ran
-- out, and that did.
abbrev pub Answers : Option Shape → (List ℕ → Option (List ℕ)) → (List ℕ → ℕ) → (List ℕ → ℕ) → Stream → Stream → Status
    → Type 0
Answers asked held before now out err status =
    (a : Outcome) → IsAnswer asked held a
    → Reaches out err a status
    ⊎ ((name : List ℕ) × IsUnread asked held before now name × Reaches out err (unread (cannot_read name)) status)
    ⊎ Reaches out err no_memory status

-- Where all files that the words name are told, a verdict is that of the answer, which is on the sinks.
abbrev pub Judges : Option Shape → (List ℕ → Option (List ℕ)) → Stream → Stream → Status → Type 0
Judges asked held out err status =
    (v : Verdict) → status ≡ status_of v → ((name : List ℕ) → Names asked name → IsSome (held name))
    → (a : Outcome) × IsAnswer asked held a × (a.status ≡ status)
    × Appends out.told_before out.told_now a.out × Appends err.told_before err.told_now a.err

-- The status is this one; or a file couldn't be read, a put failed, or memory ran out.
abbrev pub IsOrFault : Status → Status → Type 0
IsOrFault wanted status =
    (status ≡ wanted) ⊎ (status ≡ Status.ReadFault) ⊎ (status ≡ Status.WriteFault) ⊎ (status ≡ Status.Memory)

-- What is said of a text that is asked a question: Done and the bytes for what is found exactly where the text passes,
-- Refused and these bytes on each side for the first refusal exactly where it has one, but for faults.
pub record IsChecked {V : Type 0} (question : Question V) (wanted : V → List ℕ) (on_out on_err : Refusal → List ℕ)
    (text : List ℕ) (out err : Stream) (status : Status) : Type 0 where
  pub done : status ≡ Status.Done → (found : V) × question.Finds text found
      × Appends out.told_before out.told_now (wanted found) × Appends err.told_before err.told_now []
  pub refused : status ≡ Status.Refused → (r : Refusal) × question.Refuses text r
      × Appends out.told_before out.told_now (on_out r) × Appends err.told_before err.told_now (on_err r)
  pub accepted : question.Passes text → IsOrFault Status.Done status
  pub first : (r : Refusal) → question.Refuses text r → IsOrFault Status.Refused status

-- What a command says of a text and an input by what it finds for an accepted text and the words that the input gives,
-- but for faults: Refused for the first refusal of the text, exactly where it has one; otherwise BadInput for the first
-- rule that the input breaks, exactly where it breaks one; otherwise what it says of what is found.
pub record IsAnswered {X : Type 0} (Finds : Plan → List (List ℤ) → X → Type 0) (says : Plan → X → Reply)
    (text bytes : List ℕ) (out err : Stream) (status : Status) : Type 0 where
  pub refused : status ≡ Status.Refused → (r : Refusal) × FirstRefusal text r
      × Appends out.told_before out.told_now [] × Appends err.told_before err.told_now (refusal_line r)
  pub bad : status ≡ Status.BadInput → (plan : Plan) × IsPlanOf text plan
      × (line : List ℕ) × IsGiven plan.image (within INPUT_BYTES bytes) (Bad line)
      × Appends out.told_before out.told_now [] × Appends err.told_before err.told_now line
  pub found : (v : Verdict) → v ≢ V.Refused → v ≢ V.BadInput → status ≡ status_of v
      → (plan : Plan) × IsPlanOf text plan
      × (inputs : List (List ℤ)) × IsGiven plan.image (within INPUT_BYTES bytes) (Taken inputs)
      × (x : X) × Finds plan inputs x × ((says plan x).verdict ≡ v)
      × Appends out.told_before out.told_now (says plan x).out
      × Appends err.told_before err.told_now (says plan x).err
  pub first : (r : Refusal) → FirstRefusal text r → IsOrFault Status.Refused status
  pub broken : (plan : Plan) (line : List ℕ) → IsPlanOf text plan
      → IsGiven plan.image (within INPUT_BYTES bytes) (Bad line) → IsOrFault Status.BadInput status
  pub finds : (plan : Plan) (inputs : List (List ℤ)) (x : X) → IsPlanOf text plan
      → IsGiven plan.image (within INPUT_BYTES bytes) (Taken inputs) → Finds plan inputs x
      → IsOrFault (status_of (says plan x).verdict) status

-- what `mean` finds: the words of the program's meaning
abbrev pub MeanFinds : Plan → List (List ℤ) → List (List Word) → Type 0
MeanFinds plan inputs words = IsMeaning plan.program inputs words

-- what `run` finds: the answer of the run that the schedule makes over the image
abbrev pub RunFinds : RunWords → Choice → Plan → List (List ℤ) → RunAnswer → Type 0
RunFinds words choice plan inputs answer = AnswersChoice plan.image words.capacity words.recorded inputs choice answer

-- What `run` says of a text and an input, by a built-in schedule or by that of a file, where it is told.
abbrev pub IsRun : (List ℕ → Option (List ℕ)) → RunWords → Chosen → (text bytes : List ℕ) → Stream → Stream → Status
    → Type 0
IsRun held words (By schedule) text bytes out err status =
    IsAnswered (RunFinds words (BuiltIn schedule)) (λ plan. run_reply) text bytes out err status
IsRun held words (InFile name) text bytes out err status =
    IfSome (held name)
    (λ entries. IsAnswered (RunFinds words (OfFile (within SCHEDULE_BYTES entries))) (λ plan. run_reply)
    text bytes out err status)

-- Where the words name a file F that is told, its text is checked. For a text without a refusal `check` and `explain`
-- put `accepted` on standard output, and `compile` the object of its image. For another one `check` and `compile` put
-- the line of the first refusal on standard error, and `explain` its explanation on standard output. `need` puts a line
-- for each link with a group on standard output; it refuses as `check` does, but for want of queues or steps. `mean`
-- puts the meaning of the program for the input, and `run` the result of the run that the schedule makes, where the
-- files for them are told too.
abbrev pub Checks : Option Shape → (List ℕ → Option (List ℕ)) → Stream → Stream → Status → Type 0
Checks None held out err status = Unit {0}
Checks (Some (Check file)) held out err status =
    IfSome (held file)
    (λ text. IsChecked acceptance (λ plan. accepted_line) silent refusal_line text out err status)
Checks (Some (Explain file)) held out err status =
    IfSome (held file)
    (λ text. IsChecked acceptance (λ plan. accepted_line) explanation silent text out err status)
Checks (Some (Compile file)) held out err status =
    IfSome (held file)
    (λ text. IsChecked acceptance (λ plan. object_text plan.image) silent refusal_line text out err status)
Checks (Some (Need file)) held out err status =
    IfSome (held file) (λ text. IsChecked needs need_lines silent refusal_line text out err status)
Checks (Some (Mean file input)) held out err status =
    IfSome (held file)
    (λ text. IfSome (held input) (λ bytes. IsAnswered MeanFinds mean_done text bytes out err status))
Checks (Some (Run words)) held out err status =
    IfSome (held words.file)
    (λ text. IfSome (held words.input) (λ bytes. IsRun held words words.chosen text bytes out err status))

-- Words with no shape are a faulty command line, unless a put failed or memory ran out; others never are.
abbrev pub UsageCause : Option Shape → Status → Type 0
UsageCause None status = (status ≡ Status.Usage) ⊎ (status ≡ Status.WriteFault) ⊎ (status ≡ Status.Memory)
UsageCause (Some s) status = status ≢ Status.Usage

-- A file that the words name couldn't be read, and the line on it is all that was put.
abbrev pub ReadCause : Option Shape → (List ℕ → Option (List ℕ)) → (List ℕ → ℕ) → (List ℕ → ℕ) → Stream → Stream
    → Type 0
ReadCause asked held before now out err =
    (name : List ℕ) × IsUnread asked held before now name
    × Appends out.told_before out.told_now [] × Appends err.told_before err.told_now (cannot_read name)

-- Memory ran out: nothing was put, or the line on it was all that was put.
abbrev pub MemoryCause : Stream → Stream → Type 0
MemoryCause out err =
    (Keeps out.told_before out.told_now × Keeps err.told_before err.told_now)
    ⊎ (Appends out.told_before out.told_now [] × Appends err.told_before err.told_now out_of_memory)

-- A count of faults stood still below its last value.
abbrev pub StoodStill : ℕ → ℕ → Type 0
StoodStill before now = (now ≡ before) × (before < 2 ^ 64 - 1)

-- Where the files that the words name are told, and no count of these files or of the sinks rose, there is an answer,
-- and the status is the answer's, or memory ran out.
abbrev pub Completes : Option Shape → (List ℕ → Option (List ℕ)) → (List ℕ → ℕ) → (List ℕ → ℕ) → Stream → Stream
    → Status
    → Type 0
Completes asked held before now out err status =
    ((name : List ℕ) → Names asked name → IsSome (held name) × StoodStill (before name) (now name))
    → StoodStill out.faults_before out.faults_now → StoodStill err.faults_before err.faults_now
    → (a : Outcome) × IsAnswer asked held a × ((status ≡ a.status) ⊎ (status ≡ Status.Memory))
