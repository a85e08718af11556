-- The answer of crossing-off.
use Rattle.std.specs.Prelude.{ℕ, ◌≡◌, ◌≤◌, List}
use Rattle.comm_sequence.specs.BufferedOrder.{IsBufferedOrder}
use Rattle.comm_sequence.specs.Sequences.{Sequences}
use Rattle.comm_sequence.specs.declared.comm.Comm.{Comm}
use Rattle.crossing_off.specs.Greedy.{left, fronts, IsCrossed}
use Rattle.crossing_off.specs.declared.answer.Crossed.{Crossed}
use Rattle.crossing_off.specs.declared.answer.Crossed.TheVariants.{Empty, Left}
use Rattle.crossing_off.specs.declared.answer.Residue.{Residue}

-- The residue is what the greedy rule leaves.
pub record IsResidue (s : Sequences) (buffer : ℕ) (residue : Residue) : Type 0 where
  pub crossed : List Comm
  pub rule : IsCrossed s buffer crossed
  pub left_is : residue.left ≡ left s crossed
  pub fronts_are : residue.fronts.items ≡ fronts s crossed

-- Something is left: there is no order for the buffer of any kind, and the residue is that of the greedy rule.
pub record IsLeft (s : Sequences) (buffer : ℕ) (residue : Residue) : Type 0 where
  pub no_order : (order : List Comm) → IsBufferedOrder s.lists s.ends buffer order → ⊥
  pub is_residue : IsResidue s buffer residue
  pub some : 1 ≤ residue.left

-- Nothing is left: the operations are those of the greedy rule, and they are an order for the buffer.
pub record IsEmpty (s : Sequences) (buffer : ℕ) (order : List Comm) : Type 0 where
  pub rule : IsCrossed s buffer order
  pub is_order : IsBufferedOrder s.lists s.ends buffer order

-- The answer has all operations in the order of the greedy rule where nothing is left, and otherwise the residue.
abbrev pub IsAnswer : Sequences → ℕ → Crossed → Type 0
IsAnswer s buffer (Empty order) = IsEmpty s buffer order.items
IsAnswer s buffer (Left residue) = IsLeft s buffer residue
