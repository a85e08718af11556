-- Where labels fall along the list of a cell.
use Rattle.std.specs.Prelude.{ℕ, suc, ◌≡◌, ◌<◌, List, [], Some, option_map, slice_get, slice_index, slice_index_or}
use Rattle.comm_sequence.specs.Sequences.{message_of}
use Rattle.comm_sequence.specs.declared.comm.Comm.{Comm}
use Rattle.labelling.specs.declared.falls.Fall.{Fall}

-- In this list the second message stands at the place, just after the first, and its label is below that of the first.
pub record FallsAt (list : List Comm) (labels : List ℕ) (at before after : ℕ) : Type 0 where
  pub place : ℕ
  pub next : at ≡ suc place
  pub first : option_map message_of (slice_get list place) ≡ Some before
  pub second : option_map message_of (slice_get list at) ≡ Some after
  pub lower : slice_index labels after < slice_index labels before

-- The label of no message in this list is below that of the message before it, up to this place.
abbrev pub NoFallBefore : List Comm → List ℕ → ℕ → Type 0
NoFallBefore list labels end = (at before after : ℕ) → at < end → FallsAt list labels at before after → ⊥

-- The label of no message in this list is below that of the message before it.
abbrev pub NeverFalls : List Comm → List ℕ → Type 0
NeverFalls list labels = (at before after : ℕ) → FallsAt list labels at before after → ⊥

-- This is where a label falls in the list of the least such cell, at the first such place.
pub record IsFall (lists : List (List Comm)) (labels : List ℕ) (fall : Fall) : Type 0 where
  pub falls : FallsAt (slice_index_or lists fall.cell []) labels fall.at fall.before fall.after
  pub first_place : NoFallBefore (slice_index_or lists fall.cell []) labels fall.at
  pub least_cell : (cell : ℕ) → cell < fall.cell → NeverFalls (slice_index_or lists cell []) labels
