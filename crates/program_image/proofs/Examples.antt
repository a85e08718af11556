-- The definition, computed on a program of one message of two words, over two links.
use Rattle.std.proofs.Common.{◌≡◌, [], ◌∷◌, None, refl}
use Rattle.cell_code.specs.declared.image.Image.{Image}
use Rattle.cell_code.specs.declared.instruction.Instr.TheVariants as I
use Rattle.cell_types.specs.Code.{Variable, Counter, Write, Read, Emit, For, End, Then, ProgramCode}
use Rattle.program_image.specs.ImageOf.{image_of}

-- cell 0 writes 0 and 1, and cell 2 reads both and emits them
abbrev program : ProgramCode
program =
    record {
      grid = record { rows = 1; cols = 3 };
      queues = 0 ∷ 2 ∷ 0 ∷ 0 ∷ 0 ∷ 1 ∷ 0 ∷ 1 ∷ 0 ∷ 0 ∷ 0 ∷ 1 ∷ [];
      messages = record { name = 65 ∷ []; from = 0; to = 2; route = 1 ∷ 5 ∷ []; label = None } ∷ [];
      cells =
          record {
            words = 0;
            counters = 1;
            stack = 1;
            body = Then 4 (For 0 2 (Then 5 (Write 0 (Counter 0)) End)) End;
          }
          ∷ record { words = 0; counters = 0; stack = 0; body = End }
          ∷ record {
            words = 1;
            counters = 1;
            stack = 1;
            body = Then 8 (For 0 2 (Then 9 (Read 0 0) (Then 10 (Emit (Variable 0)) End))) End;
          }
          ∷ [];
      buffer = 0;
    }

-- the cells cost 7 and 9 steps, the words move on twice, and two links have a group
abbrev its_image : Image
its_image =
    record {
      grid = record { rows = 1; cols = 3 };
      buffer = 0;
      bound = 20;
      messages = record { from = 0; to = 2; length = 2; label = 3; route = 1 ∷ 5 ∷ [] } ∷ [];
      links =
          record { link = 1; queues = 2; groups = record { label = 3; members = 0 ∷ [] } ∷ [] }
          ∷ record { link = 5; queues = 1; groups = record { label = 3; members = 0 ∷ [] } ∷ [] }
          ∷ [];
      cells =
          record {
            takes = 0;
            emits = 0;
            words = 0;
            counters = 1;
            stack = 1;
            code = I.Loop 0 2 4 ∷ I.Counter 0 ∷ I.Write 0 ∷ I.Next 0 2 1 ∷ I.Halt ∷ [];
          }
          ∷ record { takes = 0; emits = 0; words = 0; counters = 0; stack = 0; code = I.Halt ∷ [] }
          ∷ record {
            takes = 0;
            emits = 2;
            words = 1;
            counters = 1;
            stack = 1;
            code = I.Loop 0 2 5 ∷ I.Read 0 0 ∷ I.Load 0 ∷ I.Emit ∷ I.Next 0 2 1 ∷ I.Halt ∷ [];
          }
          ∷ [];
    }

it_is : image_of program (3 ∷ []) ≡ its_image
it_is = refl
