-- Verdicts and their statuses.
use Rattle.std.proofs.Common.{◌≡◌, ◌≢◌, refl, sym, ap, ◌∙◌}
use Rattle.systole_top.specs.Reply.{status_of}
use Rattle.systole_top.specs.declared.answer.Verdict.{Verdict}
use Rattle.systole_top.specs.declared.answer.Verdict.TheVariants.{Done, Refused, BadInput, Unfinished, BadSchedule}
use Rattle.systole_top.specs.declared.status.Status.{Status}

-- The statuses of faults are no verdicts.
pub record IsVerdict (s : Status) : Type 0 where
  pub usage : s ≢ Status.Usage
  pub read : s ≢ Status.ReadFault
  pub write : s ≢ Status.WriteFault
  pub memory : s ≢ Status.Memory

pub verdict : (v : Verdict) → IsVerdict (status_of v)
verdict Done = record { usage = λ e. cc; read = λ e. cc; write = λ e. cc; memory = λ e. cc }
verdict Refused = record { usage = λ e. cc; read = λ e. cc; write = λ e. cc; memory = λ e. cc }
verdict BadInput = record { usage = λ e. cc; read = λ e. cc; write = λ e. cc; memory = λ e. cc }
verdict Unfinished = record { usage = λ e. cc; read = λ e. cc; write = λ e. cc; memory = λ e. cc }
verdict BadSchedule = record { usage = λ e. cc; read = λ e. cc; write = λ e. cc; memory = λ e. cc }

-- the verdict of a status; those of faults have none
abbrev verdict_at : Status → Verdict
verdict_at Status.Refused = Refused
verdict_at Status.BadInput = BadInput
verdict_at Status.Unfinished = Unfinished
verdict_at Status.BadSchedule = BadSchedule
verdict_at _ = Done

back : (v : Verdict) → verdict_at (status_of v) ≡ v
back Done = refl
back Refused = refl
back BadInput = refl
back Unfinished = refl
back BadSchedule = refl

-- a status is that of one verdict
pub one_verdict : (a b : Verdict) → status_of a ≡ status_of b → a ≡ b
one_verdict a b same = sym (back a) ∙ ap verdict_at same ∙ back b
