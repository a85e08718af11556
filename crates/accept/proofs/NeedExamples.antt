-- The needs of links, computed on small programs, and as they are printed.
use Rattle.std.proofs.Common.{◌≡◌, ℕ, List, [], ◌∷◌, None, refl}
use Rattle.std.specs.Prelude.{codes}
use Rattle.std.specs.Fmt.{digits}
use Rattle.sys_base.specs.declared.kinds.Dir.TheVariants.{E, S}
use Rattle.sys_base.specs.Names.{cell_text, link_text}
use Rattle.cell_types.specs.Code.{Action, Number, Write, Read, For, Block, End, Then, CellCode, ProgramCode}
use Rattle.cell_types.specs.declared.program.Message.{Message}
use Rattle.accept.specs.Needs.{lines_of, need_lines, need_text}

-- statements on line 1, one after another
abbrev body : List Action → Block
body [] = End
body (a ∷ more) = Then 1 a (body more)

-- a cell with one variable and these statements
abbrev cell : List Action → CellCode
cell actions = record { words = 1; counters = 1; stack = 1; body = body actions }

-- a message without a label in the source
abbrev message : (name from to : ℕ) → List ℕ → Message
message name from to route = record { name = name ∷ []; from = from; to = to; route = route; label = None }

abbrev write : ℕ → Action
write m = Write m (Number 1)

abbrev read : ℕ → Action
read m = Read m 0

-- two cells, with messages A and B from the first to the second one, over links of one queue
abbrev two_messages : List Action → List Action → ProgramCode
two_messages first second =
    record {
      grid = record { rows = 1; cols = 2 };
      queues = 0 ∷ 1 ∷ 0 ∷ 0 ∷ 0 ∷ 0 ∷ 0 ∷ 1 ∷ [];
      messages = message 65 0 1 (1 ∷ []) ∷ message 66 0 1 (1 ∷ []) ∷ [];
      cells = cell first ∷ cell second ∷ [];
      buffer = 0;
    }

-- A word of B stands between two of A, so both have one label, and need a queue each.
one_group : lines_of
    (two_messages (write 0 ∷ write 1 ∷ write 0 ∷ []) (read 0 ∷ read 1 ∷ read 0 ∷ []))
    (0 ∷ 0 ∷ []) ≡ record { row = 0; col = 0; dir = E; need = 2; has = 1 } ∷ []
one_group = refl

-- B comes after all of A: they have two labels, and the link is used twice.
two_groups : lines_of
    (two_messages (write 0 ∷ write 0 ∷ write 1 ∷ []) (read 0 ∷ read 0 ∷ read 1 ∷ []))
    (0 ∷ 1 ∷ []) ≡ record { row = 0; col = 0; dir = E; need = 1; has = 1 } ∷ []
two_groups = refl

-- Three cells in a row, where two messages go from each to the next in turns.
filter_lines : lines_of
    (record {
      grid = record { rows = 1; cols = 3 };
      queues = 0 ∷ 2 ∷ 0 ∷ 0 ∷ 0 ∷ 2 ∷ 0 ∷ 2 ∷ 0 ∷ 0 ∷ 0 ∷ 2 ∷ [];
      messages = message 65 0 1 (1 ∷ []) ∷ message 66 0 1 (1 ∷ []) ∷ message 67 1 2 (5 ∷ []) ∷ message 68 1 2 (5 ∷ []) ∷ [];
      cells = cell (For 0 4 (body (write 1 ∷ write 0 ∷ [])) ∷ [])
          ∷ cell (For 0 4 (body (read 1 ∷ read 0 ∷ write 3 ∷ write 2 ∷ [])) ∷ [])
          ∷ cell (For 0 4 (body (read 3 ∷ read 2 ∷ [])) ∷ []) ∷ [];
      buffer = 0;
    })
    (0 ∷ 0 ∷ 0 ∷ 0 ∷ [])
    ≡ record { row = 0; col = 0; dir = E; need = 2; has = 2 } ∷ record { row = 0; col = 1; dir = E; need = 2; has = 2 } ∷ []
filter_lines = refl

-- A message without words is in no group, so no link has a line.
no_words : lines_of (two_messages [] []) (0 ∷ 1 ∷ []) ≡ []
no_words = refl

-- The lines as they are printed.
printed : need_lines (record { row = 0; col = 0; dir = E; need = 2; has = 1 } ∷ record { row = 15; col = 9; dir = S; need = 512; has = 32 } ∷ [])
    ≡ codes "link 0.0E need 2 has 1\nlink 15.9S need 512 has 32\n"
unfolding need_text link_text cell_text digits
printed = refl
