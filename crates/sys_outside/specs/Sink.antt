-- What a put does to the bytes that a sink tells.
use Rattle.std.specs.Prelude.{ℕ, List, take, Option, Result, Ok, Err}
use Rattle.std.specs.Io.KnownBytes.{Appends, Keeps}
use Rattle.sys_outside.specs.Fault.{one_more}
use Rattle.sys_outside.specs.declared.sink.SinkError.{SinkError}
use Rattle.sys_outside.specs.declared.sink.SinkError.TheVariants.{Failed, Memory}

-- The sink took the first of the bytes.
abbrev pub AppendsSome : Option (List ℕ) → Option (List ℕ) → List ℕ → Type 0
AppendsSome old new bytes = (n : ℕ) × Appends old new (take n bytes)

-- Ok: all of the bytes. Failed: the first of them. Memory: none.
abbrev pub Puts : Option (List ℕ) → Option (List ℕ) → List ℕ → Result (Unit {0}) SinkError → Type 0
Puts old new bytes (Ok _) = Appends old new bytes
Puts old new bytes (Err Failed) = AppendsSome old new bytes
Puts old new bytes (Err Memory) = Keeps old new

-- a count of faults after a put that ended so
abbrev pub faults_after_put : ℕ → Result (Unit {0}) SinkError → ℕ
faults_after_put count (Ok _) = count
faults_after_put count (Err Failed) = one_more count
faults_after_put count (Err Memory) = count

-- a count of puts that wanted memory after a put that ended so
abbrev pub wants_after_put : ℕ → Result (Unit {0}) SinkError → ℕ
wants_after_put count (Ok _) = count
wants_after_put count (Err Failed) = count
wants_after_put count (Err Memory) = one_more count
