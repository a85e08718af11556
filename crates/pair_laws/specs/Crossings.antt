-- The writes and reads of pairs in order.
use Rattle.std.specs.Prelude.{ℕ, List, [], ◌∷◌}
use Rattle.std.specs.List.{flat_map}
use Rattle.comm_sequence.specs.declared.comm.Comm.{Comm}
use Rattle.comm_sequence.specs.declared.comm.Comm.TheVariants.{Write, Read}

-- the write and then the read of a pair of this message
abbrev pub crossing : ℕ → List Comm
crossing message = Write message ∷ Read message ∷ []

-- the write and then the read of each pair of these messages, in order
abbrev pub crossings : List ℕ → List Comm
crossings = flat_map crossing
