-- The definitions, computed on two messages that share a link with one queue.
use Rattle.std.proofs.Common.{◌≡◌, ℕ, List, [], ◌∷◌, Option, Some, pos, refl}
use Rattle.std.specs.Option.{option_map}
use Rattle.sys_base.specs.declared.actor.Actor.{Actor}
use Rattle.sys_base.specs.declared.actor.Actor.TheVariants.{Cell, Forward, Bind}
use Rattle.cell_code.specs.declared.image.CellImage.{CellImage}
use Rattle.cell_code.specs.declared.image.Image.{Image}
use Rattle.cell_code.specs.declared.instruction.Instr.{Instr}
use Rattle.cell_code.specs.declared.instruction.Instr.TheVariants.{Push, Write, Read, Halt}
use Rattle.array_model.specs.Runs.{after, peak}
use Rattle.array_model.specs.States.{Inputs, opening}
use Rattle.array_model.specs.Steps.{enabled}

abbrev cell : List Instr → CellImage
cell code = record { takes = 0; emits = 0; words = 1; counters = 0; stack = 1; code = code }

-- Cell 0 sends two words of message 0 over links 1 and 5 to cell 2, and then one word of message 1 over link 1 to
-- cell 1.
abbrev shared : Image
shared =
    record {
      grid = record { rows = 1; cols = 3 };
      buffer = 0;
      bound = 14;
      messages =
          record { from = 0; to = 2; length = 2; label = 0; route = 1 ∷ 5 ∷ [] }
          ∷ record { from = 0; to = 1; length = 1; label = 1; route = 1 ∷ [] }
          ∷ [];
      links =
          record {
            link = 1;
            queues = 1;
            groups = record { label = 0; members = 0 ∷ [] } ∷ record { label = 1; members = 1 ∷ [] } ∷ [];
          }
          ∷ record { link = 5; queues = 1; groups = record { label = 0; members = 0 ∷ [] } ∷ [] }
          ∷ [];
      cells =
          cell (Push (pos 7) ∷ Write 0 ∷ Push (pos 8) ∷ Write 0 ∷ Push (pos 9) ∷ Write 1 ∷ Halt ∷ [])
          ∷ cell (Read 1 0 ∷ Halt ∷ [])
          ∷ cell (Read 0 0 ∷ Read 0 0 ∷ Halt ∷ [])
          ∷ [];
    }

abbrev no_input : Inputs
no_input c = []

-- who is enabled after some steps, with a capacity
abbrev enabled_after : ℕ → List Actor → Option (List Actor)
enabled_after cap run = option_map (enabled shared no_input cap) (after shared no_input cap (opening shared) run)

-- the first word is written, and the cell is at the write of the second one
abbrev written : List Actor
written = Cell 0 ∷ Bind 1 ∷ Cell 0 ∷ Cell 0 ∷ []

-- a queue with one word is full at a capacity of 1, and not at 2
is_full : enabled_after 1 written ≡ Some (Bind 5 ∷ [])
is_full = refl

has_room_for_two : enabled_after 2 written ≡ Some (Cell 0 ∷ Bind 5 ∷ [])
has_room_for_two = refl

abbrev moved : List Actor
moved = Cell 0 ∷ Bind 1 ∷ Cell 0 ∷ Cell 0 ∷ Bind 5 ∷ Forward 0 0 ∷ []

-- a word moves on only to a hop that is bound
may_move : enabled_after 1 (Cell 0 ∷ Bind 1 ∷ Cell 0 ∷ Cell 0 ∷ Bind 5 ∷ []) ≡ Some (Forward 0 0 ∷ [])
may_move = refl

-- then there is room behind it, and it can be read
moved_on : enabled_after 1 moved ≡ Some (Cell 0 ∷ Cell 2 ∷ [])
moved_on = refl

-- The second word waits behind the first one, and holds the queue, so that the next group cannot be bound.
waits_behind : enabled_after 1 (Cell 0 ∷ Bind 1 ∷ Cell 0 ∷ Cell 0 ∷ Bind 5 ∷ Forward 0 0 ∷ Cell 0 ∷ [])
    ≡ Some (Cell 0 ∷ Cell 2 ∷ [])
waits_behind = refl

still_held : enabled_after 1 (Cell 0 ∷ Bind 1 ∷ Cell 0 ∷ Cell 0 ∷ Bind 5 ∷ Forward 0 0 ∷ Cell 0 ∷ Cell 2 ∷ [])
    ≡ Some (Cell 0 ∷ Forward 0 0 ∷ [])
still_held = refl

-- once its last word has left, the link binds the next group
free_again : enabled_after 1 (Cell 0 ∷ Bind 1 ∷ Cell 0 ∷ Cell 0 ∷ Bind 5 ∷ Forward 0 0 ∷ Cell 0 ∷ Cell 2 ∷ Forward 0 0 ∷ [])
    ≡ Some (Cell 0 ∷ Cell 2 ∷ Bind 1 ∷ [])
free_again = refl

-- a whole run at a capacity of 2, in which two words were in one queue: 6 steps of the first cell, 3 of the others, 2
-- moves and 3 groups
abbrev whole : List Actor
whole =
    Cell 0 ∷ Bind 1 ∷ Cell 0 ∷ Cell 0 ∷ Cell 0 ∷ Cell 0 ∷ Bind 5 ∷ Forward 0 0 ∷ Forward 0 0 ∷ Bind 1 ∷ Cell 0 ∷ Cell 1
    ∷ Cell 2 ∷ Cell 2 ∷ []

it_ends : enabled_after 2 whole ≡ Some []
it_ends = refl

two_at_once : peak shared no_input 2 whole 1 ∷ peak shared no_input 2 whole 5 ∷ [] ≡ 2 ∷ 2 ∷ []
two_at_once = refl
