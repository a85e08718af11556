-- Bytes that are gathered in memory.
use Rattle.std.specs.Prelude.{ℕ, ◌≡◌, ◌++◌, ◌==◌, List, take, find, Option, Some, None, Result, Ok, Err}
use Rattle.std.specs.Option.{option_map}
use Rattle.sys_outside.specs.Fault.{next_call}
use Rattle.sys_outside.specs.Sink.{faults_after_put, wants_after_put}
use Rattle.sys_outside.specs.declared.sink.SinkError.{SinkError}
use Rattle.sys_outside.specs.declared.sink.SinkError.TheVariants.{Failed, Memory}

-- A sink in memory: what it took, the calls that fail, each with the number of bytes that it takes, the number of the
-- next call, and the counts of faults and of puts that wanted memory.
pub record Gathered : Type 0 where
  pub taken : List ℕ
  pub failing : List (ℕ × ℕ)
  pub calls : ℕ
  pub faults : ℕ
  pub wants : ℕ

-- how many bytes the next call takes before it fails: what the first pair of its number says
abbrev pub taken_before_failing : Gathered → Option ℕ
taken_before_failing s = option_map (λ failure. failure.1) (find (λ failure. failure.0 == s.calls) s.failing)

-- what a sink has taken after a call that is to fail or not, and how the call ends
abbrev pub Takes : Option ℕ → List ℕ → List ℕ → List ℕ → Result (Unit {0}) SinkError → Type 0
Takes None old new bytes (Ok _) = new ≡ old ++ bytes
Takes None old new bytes (Err Failed) = ⊥
Takes None old new bytes (Err Memory) = new ≡ old
Takes (Some n) old new bytes (Ok _) = ⊥
Takes (Some n) old new bytes (Err Failed) = new ≡ old ++ take n bytes
Takes (Some n) old new bytes (Err Memory) = new ≡ old

-- the sink after a call that left it these bytes and ended so
abbrev pub after_call : Gathered → List ℕ → Result (Unit {0}) SinkError → Gathered
after_call s taken result =
    record {
      taken = taken;
      failing = s.failing;
      calls = next_call s.calls;
      faults = faults_after_put s.faults result;
      wants = wants_after_put s.wants result;
    }
