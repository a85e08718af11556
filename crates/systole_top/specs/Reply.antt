-- What a command says, and the status that goes with it.
use Rattle.std.specs.Prelude.{ℕ, List, []}
use Rattle.systole_top.specs.Texts.{usage_line, out_of_memory}
use Rattle.systole_top.specs.declared.status.Status.{Status}
use Rattle.systole_top.specs.declared.answer.Verdict.{Verdict}
use Rattle.systole_top.specs.declared.answer.Verdict.TheVariants.{Done, Refused, BadInput, Unfinished, BadSchedule}

-- What a command says: its verdict, and the bytes for each side.
pub record Reply : Type 0 where
  pub verdict : Verdict
  pub out : List ℕ
  pub err : List ℕ

-- A status, and the bytes that go with it on each side.
pub record Outcome : Type 0 where
  pub status : Status
  pub out : List ℕ
  pub err : List ℕ

-- the status of a verdict
abbrev pub status_of : Verdict → Status
status_of Done = Status.Done
status_of Refused = Status.Refused
status_of BadInput = Status.BadInput
status_of Unfinished = Status.Unfinished
status_of BadSchedule = Status.BadSchedule

abbrev pub outcome_of : Reply → Outcome
outcome_of r = record { status = status_of r.verdict; out = r.out; err = r.err }

-- words that are no command
abbrev pub usage : Outcome
usage = record { status = Status.Usage; out = []; err = usage_line }

-- a file that can't be read, with the line on it
abbrev pub unread : List ℕ → Outcome
unread line = record { status = Status.ReadFault; out = []; err = line }

-- want of memory
abbrev pub no_memory : Outcome
no_memory = record { status = Status.Memory; out = []; err = out_of_memory }
