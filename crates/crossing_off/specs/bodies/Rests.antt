-- What is left of a cell's list, as its first operation and those after it.
use Rattle.std.specs.Prelude.{List, [], ◌∷◌, Option, Some, None}
use Rattle.comm_sequence.specs.declared.comm.Comm.{Comm}

-- an operation and those after it, and nothing where there is no first one
abbrev pub with_front : Option Comm → List Comm → List Comm
with_front None later = []
with_front (Some comm) later = comm ∷ later
