-- The texts of small images.
use Rattle.std.proofs.Common.{◌≡◌, [], ◌∷◌, ◌++◌, refl, codes, pos}
use Rattle.std.specs.Fmt.{digits}
use Rattle.std.specs.List.{flat_map}
use Rattle.sys_base.specs.declared.kinds.Op.TheVariants.{AtMost}
use Rattle.cell_code.specs.declared.image.CellImage.{CellImage}
use Rattle.cell_code.specs.declared.image.Image.{Image}
use Rattle.cell_code.specs.declared.instruction.Instr.TheVariants.{Push, Load, LoadAt, Counter, Neg, Bin, Store, StoreAt, Write, Read, Take, Emit, Loop, Next, IfZero, Jump, Halt}
use Rattle.object_io.specs.Objects.{cell_lines, instruction_line, link_line, object_text}

-- a pipe: the first cell writes 7 to the second one, which emits it
abbrev pipe : Image
pipe =
    record {
      grid = record { rows = 1; cols = 2 };
      buffer = 0;
      bound = 6;
      messages = record { from = 0; to = 1; length = 1; label = 0; route = 1 ∷ [] } ∷ [];
      links = record { link = 1; queues = 1; groups = record { label = 0; members = 0 ∷ [] } ∷ [] } ∷ [];
      cells =
          record {
            takes = 0;
            emits = 0;
            words = 0;
            counters = 0;
            stack = 1;
            code = Push (pos 7) ∷ Write 0 ∷ Halt ∷ [];
          }
          ∷ record {
            takes = 0;
            emits = 1;
            words = 1;
            counters = 0;
            stack = 1;
            code = Read 0 0 ∷ Load 0 ∷ Emit ∷ Halt ∷ [];
          }
          ∷ [];
    }

the_text_of_a_pipe : object_text pipe
    ≡ codes "systole 2\narray 1 x 2\nbuffer 0\nbound 6\n"
    ++ codes "message 0 from 0 to 1 length 1 label 0 route 1\nlink 1 queues 1 groups 0:0\n"
    ++ codes "cell 0 takes 0 emits 0 words 0 counters 0 stack 1\npush 7\nwrite 0\nhalt\n"
    ++ codes "cell 1 takes 0 emits 1 words 1 counters 0 stack 1\nread 0 0\nload 0\nemit\nhalt\nend\n"
unfolding digits
the_text_of_a_pipe = refl

-- a loop in one arm of an `if`
abbrev arms : CellImage
arms =
    record {
      takes = 0;
      emits = 0;
      words = 0;
      counters = 1;
      stack = 1;
      code = Push (pos 1) ∷ IfZero 7 ∷ Loop 0 2 6 ∷ Push (pos 1) ∷ Write 0 ∷ Next 0 2 3 ∷ Jump 11
          ∷ Push (pos 2) ∷ Write 0 ∷ Push (pos 3) ∷ Write 0 ∷ Halt ∷ [];
    }

the_lines_of_arms : cell_lines (0, arms)
    ≡ codes "cell 0 takes 0 emits 0 words 0 counters 1 stack 1\npush 1\nifzero 7\nloop 0 2 6\npush 1\nwrite 0\n"
    ++ codes "next 0 2 3\njump 11\npush 2\nwrite 0\npush 3\nwrite 0\nhalt\n"
unfolding digits
the_lines_of_arms = refl

-- the other instructions
the_lines_of_others :
    flat_map instruction_line (LoadAt 1 20 3 ∷ Counter 0 ∷ Neg 4 ∷ Bin AtMost 5 ∷ Store 6 ∷ StoreAt 7 8 9 ∷ Take 10 ∷ [])
    ≡ codes "loadat 1 20 3\ncounter 0\nneg 4\natmost 5\nstore 6\nstoreat 7 8 9\ntake 10\n"
unfolding digits
the_lines_of_others = refl

-- groups of one and of more members
the_line_of_a_link :
    link_line (record {
      link = 5;
      queues = 3;
      groups = record { label = 2; members = 1 ∷ 30 ∷ 4 ∷ [] } ∷ record { label = 65535; members = 0 ∷ [] } ∷ [];
    })
    ≡ codes "link 5 queues 3 groups 2:1,30,4 65535:0\n"
unfolding digits
the_line_of_a_link = refl
