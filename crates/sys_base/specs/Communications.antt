-- What cells communicate: lists of writes, reads, takes and emits.
use Rattle.std.specs.Prelude.{ℕ, Bool, true, false, List, nat_eq, count_by, flat_map, replicate}

-- one communication: a message is written or read, an input word is taken, or an output word is emitted
pub data Communication : Type 0 where
  Writes : (message : ℕ) → Communication
  Reads : (message : ℕ) → Communication
  Takes : Communication
  Emits : Communication

-- so many copies of a list, one after another
abbrev pub copies : ℕ → List Communication → List Communication
copies n list = flat_map (λ copy. copy) (replicate n list)

-- whether two communications are the same
abbrev pub same_communication : Communication → Communication → Bool
same_communication (Writes m) (Writes n) = nat_eq m n
same_communication (Reads m) (Reads n) = nat_eq m n
same_communication Takes Takes = true
same_communication Emits Emits = true
same_communication _ _ = false

-- how often a communication stands in a list
abbrev pub times : Communication → List Communication → ℕ
times c list = count_by (same_communication c) list
