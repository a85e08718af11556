-- What the top call promises.
use Rattle.std.specs.Prelude.{ℕ, ◌≡◌, ◌⊎◌, List, Option}
use Rattle.sys_outside.specs.Fault.{Rose}
use Rattle.systole_top.specs.Causes.{Tells, Answers, Judges, Checks, UsageCause, ReadCause, MemoryCause, Completes}
use Rattle.systole_top.specs.Correctness.{Compiles}
use Rattle.systole_top.specs.Shape.{Shape}
use Rattle.systole_top.specs.Sides.{Stream, WantsLastOfBoth}
use Rattle.systole_top.specs.declared.status.Status.{Status}

-- A whole call: what its words ask, the files that the shelf told, the counts of faults of its files before and now,
-- the two sinks, and its status.
pub record Call : Type 0 where
  pub asked : Option Shape
  pub held : List ℕ → Option (List ℕ)
  pub before : List ℕ → ℕ
  pub now : List ℕ → ℕ
  pub out : Stream
  pub err : Stream
  pub status : Status

abbrev pub call : Option Shape → (List ℕ → Option (List ℕ)) → (List ℕ → ℕ) → (List ℕ → ℕ) → Stream → Stream → Status
    → Call
call asked held before now out err status =
    record { asked = asked; held = held; before = before; now = now; out = out; err = err; status = status }

-- What holds of every call.
pub record Promises (c : Call) : Type 0 where
  -- what `compile` puts with Done is an array program that does what the text says: no run of it can stall; and what
  -- `mean` puts with Done is what every finished run of it emits
  pub compiles : Compiles c.asked c.held c.out c.err c.status
  -- one outcome that may be told was told
  pub tells : Tells c.asked c.held c.before c.now c.out c.err c.status
  -- it is the answer, where there is one, but for faults and want of memory
  pub answer : Answers c.asked c.held c.before c.now c.out c.err c.status
  -- a verdict is that of the answer, and the answer is on the sinks
  pub judges : Judges c.asked c.held c.out c.err c.status
  -- what the commands say of a text, and of an input
  pub checks : Checks c.asked c.held c.out c.err c.status
  -- a faulty command line, exactly where the words have no shape
  pub usage : UsageCause c.asked c.status
  -- why a file is said to be unread
  pub read : c.status ≡ Status.ReadFault → ReadCause c.asked c.held c.before c.now c.out c.err
  -- why a write is said to have failed
  pub write : c.status ≡ Status.WriteFault
      → Rose c.out.faults_before c.out.faults_now ⊎ Rose c.err.faults_before c.err.faults_now
  -- what is put where memory ran out
  pub memory : c.status ≡ Status.Memory → MemoryCause c.out c.err
  -- a put on standard output that wanted memory was the only put
  pub out_wants : WantsLastOfBoth c.out c.err c.status
  -- a put on standard error that wanted memory was the only put
  pub err_wants : WantsLastOfBoth c.err c.out c.status
  -- without faults, the status is that of the answer
  pub complete : Completes c.asked c.held c.before c.now c.out c.err c.status
