-- Lists of communications as parts, where loops are not unrolled.
use Rattle.std.specs.Prelude.{ℕ, ◌+◌, max, List, [], ◌∷◌, ◌++◌, flat_map}
use Rattle.cell_types.specs.Communications.{Communication, Writes, Reads, Takes, Emits, copies}
use Rattle.comm_sequence.specs.declared.comm.Comm.{Comm}
use Rattle.comm_sequence.specs.declared.comm.Comm.TheVariants as C
use Rattle.comm_sequence.specs.declared.part.Part.{Part, One, Take, Emit, Repeat', Row_of-Part, end_of-Part, more_of-Part}

-- a write or a read as a communication
abbrev pub communication : Comm → Communication
communication (C.Write message) = Writes message
communication (C.Read message) = Reads message

abbrev mutual
  -- the communications of a part: those of a loop are copies of its parts' communications
  pub part_unrolled : Part → List Communication
  part_unrolled (One operation) = communication operation ∷ []
  part_unrolled Take = Takes ∷ []
  part_unrolled Emit = Emits ∷ []
  part_unrolled (Repeat' turns shape parts) = copies turns (row_unrolled parts)

  -- the communications of a loop's parts, in order
  pub row_unrolled : {n : _} → Row_of-Part n → List Communication
  row_unrolled end_of-Part = []
  row_unrolled (more_of-Part part rest) = part_unrolled part ++ row_unrolled rest

-- the communications of parts, in order
abbrev pub unrolled : List Part → List Communication
unrolled parts = flat_map part_unrolled parts

abbrev mutual
  -- how many loops of a part stand inside one another at most
  pub part_loops : Part → ℕ
  part_loops (Repeat' turns shape parts) = 1 + row_loops parts
  part_loops _ = 0

  -- how many loops of a loop's parts stand inside one another at most
  pub row_loops : {n : _} → Row_of-Part n → ℕ
  row_loops end_of-Part = 0
  row_loops (more_of-Part part rest) = max (part_loops part) (row_loops rest)

-- how many loops of parts stand inside one another at most
abbrev pub loops : List Part → ℕ
loops [] = 0
loops (part ∷ rest) = max (part_loops part) (loops rest)
