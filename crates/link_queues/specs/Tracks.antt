-- The marks and the slots of one message.
use Rattle.std.specs.Prelude.{ℕ, ◌+◌, List, Option, None, replicate, slice_index_or}

-- the length of a message, its marks, and the slot at each hop
pub record Way : Type 0 where
  pub length : ℕ
  pub marks : List ℕ
  pub places : List (Option ℕ)

-- a message without words and slots
abbrev pub new_way : ℕ → ℕ → Way
new_way length hops = record { length = length; marks = replicate (hops + 1) 0; places = replicate hops None }

-- the mark of a hop
abbrev pub mark_at : Way → ℕ → ℕ
mark_at way hop = slice_index_or way.marks hop 0

-- the slot at a hop
abbrev pub place_at : Way → ℕ → Option ℕ
place_at way hop = slice_index_or way.places hop None
