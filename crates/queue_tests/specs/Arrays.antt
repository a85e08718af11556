-- The images whose queues the tests use.
use Rattle.std.specs.Prelude.{ℕ, List, [], ◌∷◌, ◌++◌, replicate}
use Rattle.sys_base.specs.Groups.{below}
use Rattle.cell_code.specs.declared.image.CellImage.{CellImage}
use Rattle.cell_code.specs.declared.image.Group.{Group}
use Rattle.cell_code.specs.declared.image.Image.{Image}
use Rattle.cell_code.specs.declared.image.LinkImage.{LinkImage}
use Rattle.cell_code.specs.declared.image.MessageImage.{MessageImage}
use Rattle.cell_code.specs.declared.instruction.Instr.TheVariants.{Halt}

-- a message
abbrev pub message : ℕ → ℕ → ℕ → ℕ → List ℕ → MessageImage
message from to length label route =
    record { from = from; to = to; length = length; label = label; route = route }

-- a group of messages
abbrev pub group : ℕ → List ℕ → Group
group label members = record { label = label; members = members }

-- a link
abbrev pub link_with : ℕ → ℕ → List Group → LinkImage
link_with id queues groups = record { link = id; queues = queues; groups = groups }

-- a cell that does nothing
abbrev pub idle : CellImage
idle = record { takes = 0; emits = 0; words = 0; counters = 0; stack = 0; code = Halt ∷ [] }

-- two messages share the one queue between two cells
abbrev pub shared : Image
shared =
    record {
      grid = record { rows = 1; cols = 2 };
      buffer = 0;
      bound = 0;
      messages = message 0 1 2 0 (1 ∷ []) ∷ message 0 1 1 1 (1 ∷ []) ∷ [];
      links = link_with 1 1 (group 0 (0 ∷ []) ∷ group 1 (1 ∷ []) ∷ []) ∷ [];
      cells = idle ∷ idle ∷ [];
    }

-- a message goes over two links, and another one over the first of them
abbrev pub chain : Image
chain =
    record {
      grid = record { rows = 1; cols = 3 };
      buffer = 0;
      bound = 0;
      messages = message 0 2 2 0 (1 ∷ 5 ∷ []) ∷ message 0 1 1 0 (1 ∷ []) ∷ [];
      links = link_with 1 2 (group 0 (0 ∷ 1 ∷ []) ∷ []) ∷ link_with 5 1 (group 0 (0 ∷ []) ∷ []) ∷ [];
      cells = idle ∷ idle ∷ idle ∷ [];
    }

-- two messages of one group go over each of two links
abbrev pub paired : Image
paired =
    record {
      grid = record { rows = 1; cols = 3 };
      buffer = 0;
      bound = 0;
      messages = message 0 1 4 0 (1 ∷ []) ∷ message 0 1 4 0 (1 ∷ [])
          ∷ message 1 2 4 0 (5 ∷ []) ∷ message 1 2 4 0 (5 ∷ []) ∷ [];
      links = link_with 1 2 (group 0 (0 ∷ 1 ∷ []) ∷ []) ∷ link_with 5 2 (group 0 (2 ∷ 3 ∷ []) ∷ []) ∷ [];
      cells = idle ∷ idle ∷ idle ∷ [];
    }

-- 32 messages of one group, and one of the next group, share the 32 queues between two cells
abbrev pub wide : Image
wide =
    record {
      grid = record { rows = 1; cols = 2 };
      buffer = 0;
      bound = 0;
      messages = replicate 32 (message 0 1 1 0 (1 ∷ [])) ++ message 0 1 1 1 (1 ∷ []) ∷ [];
      links = link_with 1 32 (group 0 (below 32) ∷ group 1 (32 ∷ []) ∷ []) ∷ [];
      cells = idle ∷ idle ∷ [];
    }
