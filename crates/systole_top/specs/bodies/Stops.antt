-- What contracts see of a command's code.
use Rattle.std.specs.Prelude.{ℕ, List, [], Result, Ok, Err, Vec}
use Rattle.std.specs.Global.{Global}
use Rattle.accept.specs.declared.building.Built.{Built}
use Rattle.accept.specs.declared.needing.NeedLine.{NeedLine}
use Rattle.cell_types.specs.Typed.{plain}
use Rattle.run_words.specs.declared.verdict.RunVerdict.{RunVerdict}
use Rattle.run_words.specs.declared.verdict.RunVerdict.TheVariants as Ran
use Rattle.systole_top.specs.Given.{Given, Taken, Bad}
use Rattle.systole_top.specs.Judgement.{Plan}
use Rattle.systole_top.specs.Reply.{Reply, Outcome, outcome_of, unread, no_memory}
use Rattle.systole_top.specs.bodies.Runs.{Halt, Unread, NoMemory, End, Gave, Stopped}
use Rattle.systole_top.specs.declared.answer.Side.{Side}
use Rattle.systole_top.specs.declared.answer.Answer.{Answer}
use Rattle.systole_top.specs.declared.answer.Stop.{Stop}
use Rattle.systole_top.specs.declared.given.Given.TheVariants as File
use Rattle.systole_top.specs.declared.given.Given.{Given as GivenFile}
use Rattle.systole_top.specs.declared.judgement.Judgement.{Judgement}
use Rattle.systole_top.specs.declared.judgement.Judgement.TheVariants.{Accepted, Refused}

-- the bytes of a list
abbrev pub bytes_of : Vec ℕ Global → List ℕ
bytes_of bytes = bytes.items

-- the bytes that go to standard output, and those that go to standard error
abbrev pub on_out : Side → List ℕ → List ℕ
on_out Side.Out text = text
on_out Side.Err text = []

abbrev pub on_err : Side → List ℕ → List ℕ
on_err Side.Out text = []
on_err Side.Err text = text

abbrev pub reply_of : Answer → Reply
reply_of a = record { verdict = a.verdict; out = on_out a.side a.text.items; err = on_err a.side a.text.items }

abbrev pub halt_of : Stop → Halt
halt_of (Stop.Unread line) = Unread line.items
halt_of Stop.Memory = NoMemory

-- how a step ended, with its value as `view` sees it
abbrev pub ended : {X A : Type 0} → (X → A) → Result X Stop → End A
ended view (Ok x) = Gave (view x)
ended view (Err stop) = Stopped (halt_of stop)

-- what a command's end tells
abbrev pub told_by : Result Answer Stop → Outcome
told_by (Ok answer) = outcome_of (reply_of answer)
told_by (Err (Stop.Unread line)) = unread line.items
told_by (Err Stop.Memory) = no_memory

-- what is made of a source, in plain parts
abbrev pub made_of : Built → Plan
made_of built = record { program = plain built.program; image = built.image }

-- what a source is found to be, in plain parts
abbrev pub plan_of : Judgement Built → Judgement Plan
plan_of (Accepted built) = Accepted (made_of built)
plan_of (Refused r) = Refused r

-- the lines of what a source needs
abbrev pub lines_of : Judgement (Vec NeedLine Global) → Judgement (List NeedLine)
lines_of (Accepted lines) = Accepted lines.items
lines_of (Refused r) = Refused r

-- what an input file gives, in plain parts
abbrev pub given_by : GivenFile → Given
given_by (File.Taken inputs) = Taken inputs.cells
given_by (File.Bad line) = Bad line.items

-- where a verdict on a run is said
abbrev pub side_of : RunVerdict → Side
side_of Ran.Done = Side.Out
side_of Ran.Unfinished = Side.Out
side_of Ran.BadSchedule = Side.Err
