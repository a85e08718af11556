-- Keys of messages as they are computed, and what they are the keys of.
use Rattle.std.specs.Prelude.{ℕ, ◌≡◌, Bool, List, map}
use Rattle.cell_types.specs.Groups.{below}
use Rattle.comm_sequence.specs.Labels.{IsTable, Key, key}
use Rattle.comm_sequence.specs.declared.comm.Comm.{Comm}
use Rattle.labelling.specs.declared.ranks.MessageKey.{MessageKey}

-- the key that is meant
abbrev pub key_of : MessageKey → Key
key_of k = record { earlier = k.earlier; least = k.least }

-- the key that is read past the end of some
abbrev pub no_key : MessageKey
no_key = record { earlier = 0; least = 0 }

-- These are the keys of the messages below a count in these lists.
pub record AreKeys (lists : List (List Comm)) (count : ℕ) (keys : List MessageKey) : Type 0 where
  pub must : ℕ → ℕ → Bool
  pub table : IsTable lists count must
  pub keys_are : map key_of keys ≡ map (key must count) (below count)
