-- Words that only proofs need: the source of pairs as plain data, with 0 in each line.
use Rattle.std.specs.Prelude.{ℕ, List, [], ◌∷◌, ◌++◌, None, map, nat_eq, if◌then◌else◌}
use Rattle.std.specs.List.{flat_map}
use Rattle.sys_base.specs.Groups.{below}
use Rattle.sys_base.specs.declared.kinds.Op.TheVariants as O
use Rattle.cell_types.specs.Written.{Number, Named, Applied, WrittenAction, Set, Write, Read, Emit, WrittenBlock, End, Then, WrittenCell, WrittenSource}
use Rattle.pair_gen.specs.Generated.{message_name, variable_name, sender, receiver, place_of, message_decl}
use Rattle.pair_laws.specs.bodies.Bare.{bare_message}

-- `x = c;`
abbrev pub set_of : ℕ → WrittenAction
set_of cell = Set variable_name (Number cell)

-- `write m x + 1;`
abbrev pub write_of : ℕ → WrittenAction
write_of message = Write (message_name message) (Applied O.Add (Named variable_name) (Number 1))

-- `read m x;`
abbrev pub read_of : ℕ → WrittenAction
read_of message = Read (message_name message) variable_name

-- `emit x;`
abbrev pub emit_of : WrittenAction
emit_of = Emit (Named variable_name)

-- what a cell does in the pair of a message
abbrev pub actions_of : ℕ → ℕ → List WrittenAction
actions_of cell message =
    (if nat_eq (sender message) cell then write_of message ∷ [] else [])
    ++ (if nat_eq (receiver message) cell then read_of message ∷ [] else [])

-- actions one after another, on line 0
abbrev pub block_of : List WrittenAction → WrittenBlock
block_of [] = End
block_of (action ∷ actions) = Then 0 action (block_of actions)

-- a cell, where these are the messages of the pairs
abbrev pub paired_cell : List ℕ → ℕ → WrittenCell
paired_cell messages cell =
    record {
      place = place_of cell;
      vars = record { name = variable_name; length = None; line = 0 } ∷ [];
      body = block_of (set_of cell ∷ flat_map (actions_of cell) messages ++ emit_of ∷ []);
      line = 0;
    }

-- the source of the pairs of these messages
abbrev pub paired : List ℕ → WrittenSource
paired messages =
    record {
      rows = 4;
      cols = 4;
      array_line = 0;
      queues = 24;
      queues_line = 0;
      buffer = 0;
      buffer_line = 0;
      links = [];
      messages = map (λ message. bare_message (message_decl message)) (below 24);
      cells = map (paired_cell messages) (below 16);
    }
