-- Labels of messages: consistent ones, and those that are proposed.
use Rattle.std.specs.Prelude.{ℕ, suc, ◌≡◌, ◌<◌, ◌≤◌, ◌↔◌, Bool, not, ◌&&◌, ◌||◌, nat_eq, nat_lt, IsTrue, List, [], ◌∷◌, Option, Some, length, map, filter, find, count_by, slice_get, slice_index, slice_index_or, unwrap_or, option_map}
use Rattle.cell_types.specs.Groups.{below}
use Rattle.comm_sequence.specs.Sequences.{message_of}
use Rattle.comm_sequence.specs.declared.comm.Comm.{Comm}

-- the message at a place in the list of a cell, if the list is so long
abbrev pub message_at : List (List Comm) → ℕ → ℕ → Option ℕ
message_at lists cell place = option_map message_of (slice_get (slice_index_or lists cell []) place)

-- The messages stand next to each other in the list of some cell, in this order.
pub record Neighbours (lists : List (List Comm)) (a b : ℕ) : Type 0 where
  pub cell : ℕ
  pub place : ℕ
  pub first : message_at lists cell place ≡ Some a
  pub second : message_at lists cell (suc place) ≡ Some b

-- In the list of each cell the label of each message is at most that of the next one.
abbrev pub IsConsistent : List (List Comm) → List ℕ → Type 0
IsConsistent lists labels = (a b : ℕ) → Neighbours lists a b → slice_index labels a ≤ slice_index labels b

-- The first message must come no later than the second: they are one, or a chain of neighbours leads from it to the
-- other.
pub data Must (lists : List (List Comm)) : ℕ → ℕ → Type 0 where
  Alone : (a : ℕ) → Must lists a a
  Before : (a b c : ℕ) → Neighbours lists a b → Must lists b c → Must lists a c

-- The table tells for each two messages below a count whether the first must come no later than the second.
abbrev pub IsTable : List (List Comm) → ℕ → (ℕ → ℕ → Bool) → Type 0
IsTable lists count must = (a b : ℕ) → a < count → b < count → (IsTrue (must a b) ↔ Must lists a b)

-- the key of a message: how many messages must come no later than it, and the least one that must come no later than
-- it and no earlier
pub record Key : Type 0 where
  pub earlier : ℕ
  pub least : ℕ

-- the key of a message, by the table and the number of messages
abbrev pub key : (ℕ → ℕ → Bool) → ℕ → ℕ → Key
key must count m =
    record {
      earlier = count_by (λ a. must a m) (below count);
      least = unwrap_or (find (λ a. must a m && must m a) (below count)) m;
    }

-- whether a key is below another one: by the first number, and then by the second
abbrev pub is_below : Key → Key → Bool
is_below j k = nat_lt j.earlier k.earlier || (nat_eq j.earlier k.earlier && nat_lt j.least k.least)

-- whether two keys are the same
abbrev pub same_key : Key → Key → Bool
same_key j k = nat_eq j.earlier k.earlier && nat_eq j.least k.least

-- some keys, each once
abbrev pub different : List Key → List Key
different [] = []
different (k ∷ ks) = k ∷ filter (λ j. not (same_key k j)) (different ks)

-- the label that is proposed for a message: how many different keys are below its own
abbrev pub proposed : (ℕ → ℕ → Bool) → ℕ → ℕ → ℕ
proposed must count m =
    length (filter (λ k. is_below k (key must count m)) (different (map (key must count) (below count))))

-- These are the labels that are proposed for the messages below a count. The table only decides `Must`: there is one, and every
-- such table has the same answers, so the labels do not depend on it.
pub record IsProposal (lists : List (List Comm)) (count : ℕ) (labels : List ℕ) : Type 0 where
  pub must : ℕ → ℕ → Bool
  pub table : IsTable lists count must
  pub labels_are : labels ≡ map (proposed must count) (below count)
