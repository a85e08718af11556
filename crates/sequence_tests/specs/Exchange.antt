-- What two cells communicate of which one sends and the other one receives.
use Rattle.std.specs.Prelude.{ℕ, Bool, true, false, nat_lt}
use Rattle.sys_base.specs.Communications.{Communication, Writes, Reads, Takes, Emits}

-- whether a cell that sends the messages below n may communicate this
abbrev pub sends : ℕ → Communication → Bool
sends n (Writes m) = nat_lt m n
sends n (Reads m) = false
sends n Takes = true
sends n Emits = true

-- whether a cell that receives the messages below n may communicate this
abbrev pub receives : ℕ → Communication → Bool
receives n (Writes m) = false
receives n (Reads m) = nat_lt m n
receives n Takes = true
receives n Emits = true
