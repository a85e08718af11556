-- The one answer of a run, as it is said.
use Rattle.std.proofs.Common.{◌≡◌, ◌≤◌, ℕ, Vec, vec_len, Option, None, Some, IfSome, refl, sym, ◌∙◌, arith}
use Rattle.std.specs.Global.{Global}
use Rattle.image_runs.specs.Views.{HasLength, answer_of}
use Rattle.image_runs.specs.declared.answering.Choice.{Choice}
use Rattle.sys_base.specs.declared.limits.TheConstants.{SCHEDULE_BYTES}
use Rattle.run_words.specs.Once.{HasJustOne}
use Rattle.run_words.specs.declared.verdict.RunVerdict.{RunVerdict}
use Rattle.run_words.specs.declared.verdict.RunVerdict.TheVariants as Ran
use Rattle.systole_top.specs.Commands.{run_reply, verdict_of}
use Rattle.systole_top.specs.Only.{IsOnly}
use Rattle.systole_top.specs.bodies.Stops.{reply_of, side_of}

-- what holds of just one value holds only of each of which it holds
pub only_of : {X : Type 0} (P : X → Type 0) (x : X) → HasJustOne P → P x → IsOnly P x
only_of P x one is = record { holds = is; only = λ y other. sym (one.only x is) ∙ one.only y other }

-- an answer is said as it is
pub said_so : (v : RunVerdict) (text : Vec ℕ Global)
    → reply_of (record { verdict = verdict_of v; side = side_of v; text = text }) ≡ run_reply (answer_of (record { verdict = v; text = text }))
said_so Ran.Done text = refl
said_so Ran.Unfinished text = refl
said_so Ran.BadSchedule text = refl

-- a file that was read is short enough
pub short_file : (file : Option (Vec ℕ Global)) → IfSome file (λ bytes. vec_len bytes ≤ SCHEDULE_BYTES) → HasLength (Choice.OfFile file)
short_file None short = tt
short_file (Some bytes) short = omega (arith, short)
