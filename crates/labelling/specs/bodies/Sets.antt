-- Sets of messages by their bits, and which messages come before which by such sets.
use Rattle.std.specs.Prelude.{ℕ, ◌<◌, ◌/◌, ◌%◌, Bool, false, ◌&&◌, ◌||◌, IsTrue, nat_eq, List, [], ◌∷◌, slice_index, slice_index_or}
use Rattle.std.specs.Int.{bit_at}
use Rattle.comm_sequence.specs.Sequences.{message_of}
use Rattle.comm_sequence.specs.declared.comm.Comm.{Comm}
use Rattle.labelling.specs.declared.sets.MessageSet.{MessageSet}

-- whether a message is in the set with these words: each word has the bits of 64 messages
unfoldable pub has : List ℕ → ℕ → Bool
has words message = nat_eq (bit_at (slice_index words (message / 64)) (message % 64)) 1

-- the set with no message
abbrev pub no_messages : MessageSet
no_messages = record { words = [] }

-- whether the first message is in the set of the second, where the message at each index has a set
abbrev pub is_before : List MessageSet → ℕ → ℕ → Bool
is_before sets a b = has (slice_index_or sets b no_messages).words a

-- whether two messages stand next to each other, in this order, where a message and then this list stand
abbrev pub stand_after : ℕ → List Comm → ℕ → ℕ → Bool
stand_after first [] a b = false
stand_after first (y ∷ rest) a b = (nat_eq a first && nat_eq b (message_of y)) || stand_after (message_of y) rest a b

-- whether two messages stand next to each other in a list, in this order
abbrev pub stand_next : List Comm → ℕ → ℕ → Bool
stand_next [] a b = false
stand_next (x ∷ rest) a b = stand_after (message_of x) rest a b

-- A chain of neighbours leads from one message to another, and the messages between them in the chain are below this
-- one.
pub data Through (near : ℕ → ℕ → Bool) (end : ℕ) : ℕ → ℕ → Type 0 where
  Near : (a b : ℕ) → IsTrue (near a b) → Through near end a b
  Joined : (a b c : ℕ) → b < end → Through near end a b → Through near end b c → Through near end a c
