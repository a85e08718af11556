-- The messages of a table, as statements name them.
use Rattle.std.specs.Prelude.{ℕ, List, Option, map, find, position, bytes_eq}
use Rattle.std.specs.List.{zip}
use Rattle.cell_types.specs.Names.{NamedMessage}
use Rattle.cell_types.specs.declared.table.Ends.{Ends}
use Rattle.cell_types.specs.declared.table.Entry.{Entry}
use Rattle.cell_types.specs.declared.table.MessageTable.{MessageTable}

-- a message with this name and these ends
abbrev pub named_with : List ℕ → Ends → NamedMessage
named_with name ends = record { name = name; sender = ends.from; receiver = ends.to }

-- the messages of a table in order: each name with its ends
abbrev pub named_in : MessageTable → List NamedMessage
named_in table = map (λ message. named_with message.0.now message.1) (zip table.names.names.keys table.ends.items)

-- the index of the first of these messages that has this name
abbrev pub index_named : List NamedMessage → List ℕ → Option ℕ
index_named messages name = position (λ (m : NamedMessage). bytes_eq m.name name) messages

-- the first of these messages that has this name
abbrev pub message_with_name : List NamedMessage → List ℕ → Option NamedMessage
message_with_name messages name = find (λ (m : NamedMessage). bytes_eq m.name name) messages

-- an entry as the message of this name
abbrev pub entry_as_message : List ℕ → Entry → NamedMessage
entry_as_message name entry = record { name = name; sender = entry.from; receiver = entry.to }
