-- The operations that wait to be tried.
use Rattle.std.specs.Prelude.{ℕ, ◌≡◌, ◌+◌, ◌<◌, Option, None, Some, length}
use Rattle.sys_base.specs.declared.limits.TheConstants.{MESSAGES}
use Rattle.comm_sequence.specs.Sequences.{message_of}
use Rattle.comm_sequence.specs.declared.comm.Comm.{Comm}
use Rattle.comm_sequence.specs.declared.comm.Comm.TheVariants.{Write, Read}
use Rattle.crossing_off.specs.declared.waiting.Waiting.{Waiting}
use Rattle.crossing_off.specs.bodies.WaitingSet.{AddsTo, IsIn, IsUsedUp, TakesLeast}

-- The operation's message is one that a program may have.
abbrev pub MayWait : Comm → Type 0
MayWait operation = message_of operation < MESSAGES

-- The operation waits.
abbrev pub Waits : Waiting → Comm → Type 0
Waits waiting (Read m) = IsIn waiting.reads m
Waits waiting (Write m) = IsIn waiting.writes m

-- how many operations wait
abbrev pub waiting_len : Waiting → ℕ
waiting_len waiting = length waiting.reads + length waiting.writes

-- Nothing waits at first.
pub record IsNew (waiting : Waiting) : Type 0 where
  pub no_read : (k : ℕ) → IsIn waiting.reads k → ⊥
  pub no_write : (k : ℕ) → IsIn waiting.writes k → ⊥

-- Both operations of the message were added.
pub record HasAdded (old new : Waiting) (m : ℕ) : Type 0 where
  pub reads : AddsTo old.reads new.reads m
  pub writes : AddsTo old.writes new.writes m

-- Those of the message of an operation were added, if there is one.
abbrev pub HasNoted : Option Comm → Waiting → Waiting → Type 0
HasNoted None old new = new ≡ old
HasNoted (Some operation) old new = HasAdded old new (message_of operation)

-- The operation was the read of the least message with one that waited, or, where no read waited, the write of the
-- least.
abbrev pub HasPopped : Waiting → Waiting → Comm → Type 0
HasPopped old new (Read m) = TakesLeast old.reads new.reads m × (new.writes ≡ old.writes)
HasPopped old new (Write m) = IsUsedUp old.reads new.reads × TakesLeast old.writes new.writes m

-- Nothing waited, and nothing waits.
pub record NoneWait (old new : Waiting) : Type 0 where
  pub reads : IsUsedUp old.reads new.reads
  pub writes : IsUsedUp old.writes new.writes
