-- The images that the tests run.
use Rattle.std.specs.Prelude.{ℕ, List, [], ◌∷◌, pos}
use Rattle.sys_base.specs.declared.kinds.Op.TheVariants.{Add}
use Rattle.cell_code.specs.declared.image.CellImage.{CellImage}
use Rattle.cell_code.specs.declared.image.Group.{Group}
use Rattle.cell_code.specs.declared.image.Image.{Image}
use Rattle.cell_code.specs.declared.image.LinkImage.{LinkImage}
use Rattle.cell_code.specs.declared.image.MessageImage.{MessageImage}
use Rattle.cell_code.specs.declared.instruction.Instr.TheVariants.{Push, Load, Counter, Bin, Write, Read, Emit, Loop, Next, Halt}

-- a message from the first cell
abbrev pub message : ℕ → ℕ → ℕ → List ℕ → MessageImage
message to length label route = record { from = 0; to = to; length = length; label = label; route = route }

-- a link with one queue
abbrev pub one_queue : ℕ → List Group → LinkImage
one_queue link groups = record { link = link; queues = 1; groups = groups }

-- a group of one message
abbrev pub alone : ℕ → ℕ → Group
alone label member = record { label = label; members = member ∷ [] }

-- ---- two messages share the one queue between two cells

-- the first cell writes 1 and 2 to the one message and 3 to the other
abbrev pub shared_sender : CellImage
shared_sender =
    record {
      takes = 0;
      emits = 0;
      words = 0;
      counters = 0;
      stack = 1;
      code = Push (pos 1) ∷ Write 0 ∷ Push (pos 2) ∷ Write 0 ∷ Push (pos 3) ∷ Write 1 ∷ Halt ∷ [];
    }

-- the second cell emits the last word that it reads
abbrev pub shared_receiver : CellImage
shared_receiver =
    record {
      takes = 0;
      emits = 1;
      words = 1;
      counters = 0;
      stack = 1;
      code = Read 0 0 ∷ Read 0 0 ∷ Read 1 0 ∷ Load 0 ∷ Emit ∷ Halt ∷ [];
    }

-- the array
abbrev pub shared : Image
shared =
    record {
      grid = record { rows = 1; cols = 2 };
      buffer = 0;
      bound = 13;
      messages = message 1 2 0 (1 ∷ []) ∷ message 1 1 1 (1 ∷ []) ∷ [];
      links = one_queue 1 (alone 0 0 ∷ alone 1 1 ∷ []) ∷ [];
      cells = shared_sender ∷ shared_receiver ∷ [];
    }

-- ---- a message goes over two links

-- the first cell writes 1, 2 and 3
abbrev pub chain_sender : CellImage
chain_sender =
    record {
      takes = 0;
      emits = 0;
      words = 0;
      counters = 1;
      stack = 2;
      code = Loop 0 3 6 ∷ Counter 0 ∷ Push (pos 1) ∷ Bin Add 1 ∷ Write 0 ∷ Next 0 3 1 ∷ Halt ∷ [];
    }

-- the second cell does nothing
abbrev pub idle : CellImage
idle = record { takes = 0; emits = 0; words = 0; counters = 0; stack = 0; code = Halt ∷ [] }

-- the third cell emits what it reads
abbrev pub chain_receiver : CellImage
chain_receiver =
    record {
      takes = 0;
      emits = 3;
      words = 1;
      counters = 1;
      stack = 1;
      code = Loop 0 3 5 ∷ Read 0 0 ∷ Load 0 ∷ Emit ∷ Next 0 3 1 ∷ Halt ∷ [];
    }

-- the array
abbrev pub chain : Image
chain =
    record {
      grid = record { rows = 1; cols = 3 };
      buffer = 0;
      bound = 34;
      messages = message 2 3 0 (1 ∷ 5 ∷ []) ∷ [];
      links = one_queue 1 (alone 0 0 ∷ []) ∷ one_queue 5 (alone 0 0 ∷ []) ∷ [];
      cells = chain_sender ∷ idle ∷ chain_receiver ∷ [];
    }
