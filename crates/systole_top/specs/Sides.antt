-- What reaches the two sinks.
use Rattle.std.specs.Prelude.{ℕ, ◌≡◌, ◌⊎◌, ◌+◌, ◌<◌, List, Option}
use Rattle.std.specs.Io.KnownBytes.{Appends, Keeps}
use Rattle.sys_outside.specs.Fault.{Rose}
use Rattle.sys_outside.specs.Sink.{AppendsSome}
use Rattle.systole_top.specs.Reply.{Outcome}
use Rattle.systole_top.specs.declared.status.Status.{Status}

-- One sink: the bytes that it told before and tells now, and its counts of faults and of puts that wanted memory.
pub record Stream : Type 0 where
  pub told_before : Option (List ℕ)
  pub told_now : Option (List ℕ)
  pub faults_before : ℕ
  pub faults_now : ℕ
  pub wants_before : ℕ
  pub wants_now : ℕ

-- a sink before a call and now, by what sinks of its type tell and count
abbrev pub stream : {S : Type 0} → (S → Option (List ℕ)) → (S → ℕ) → (S → ℕ) → S → S → Stream
stream told faults wants before now =
    record {
      told_before = told before;
      told_now = told now;
      faults_before = faults before;
      faults_now = faults now;
      wants_before = wants before;
      wants_now = wants now;
    }

-- A text was put on a sink; or the put failed, and the sink took a first part; or it found no memory, and took nothing.
abbrev pub PutsOn : Stream → List ℕ → Status → Status → Type 0
PutsOn sink text wanted status =
    ((status ≡ wanted) × Appends sink.told_before sink.told_now text)
    ⊎ ((status ≡ Status.WriteFault) × Rose sink.faults_before sink.faults_now
    × AppendsSome sink.told_before sink.told_now text)
    ⊎ ((status ≡ Status.Memory) × Keeps sink.told_before sink.told_now)

-- The outcome reached the sinks; or a put failed, and each sink took a first part of its bytes; or a put found no
-- memory, and neither sink took anything.
abbrev pub Reaches : Stream → Stream → Outcome → Status → Type 0
Reaches out err t status =
    ((status ≡ t.status) × Appends out.told_before out.told_now t.out × Appends err.told_before err.told_now t.err)
    ⊎ ((status ≡ Status.WriteFault) × (Rose out.faults_before out.faults_now ⊎ Rose err.faults_before err.faults_now)
    × AppendsSome out.told_before out.told_now t.out × AppendsSome err.told_before err.told_now t.err)
    ⊎ ((status ≡ Status.Memory) × Keeps out.told_before out.told_now × Keeps err.told_before err.told_now)

-- A sink is as it was: it took nothing, and its counts stand.
pub record Untouched (sink : Stream) : Type 0 where
  pub told : Keeps sink.told_before sink.told_now
  pub faults : sink.faults_now ≡ sink.faults_before
  pub wants : sink.wants_now ≡ sink.wants_before

-- One put wanted memory, and that is all that came to a sink.
pub record OneWant (sink : Stream) : Type 0 where
  pub told : Keeps sink.told_before sink.told_now
  pub faults : sink.faults_now ≡ sink.faults_before
  pub wants : sink.wants_now ≡ sink.wants_before + 1

-- Where a put on a sink wanted memory, no other put was seen there, and the status says so.
abbrev pub WantsLast : Stream → Status → Type 0
WantsLast sink status = sink.wants_before < sink.wants_now → (status ≡ Status.Memory) × OneWant sink

-- Where a put on the first sink wanted memory, no other put was seen on either sink, and the status says so.
abbrev pub WantsLastOfBoth : Stream → Stream → Status → Type 0
WantsLastOfBoth sink other status =
    sink.wants_before < sink.wants_now → (status ≡ Status.Memory) × OneWant sink × Untouched other
