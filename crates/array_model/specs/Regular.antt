-- Regular images.
use Rattle.std.specs.Prelude.{ℕ, ◌≡◌, ◌+◌, ◌-◌, ◌*◌, ◌<◌, ◌≤◌, ℤ, List, Some, length, slice_get, sum_by, All}
use Rattle.sys_base.specs.Communications.{Communication, Writes, times}
use Rattle.sys_base.specs.Groups.{below}
use Rattle.sys_base.specs.Held.{Streams}
use Rattle.cell_code.specs.Alone.{Alone, after_steps, opening_alone}
use Rattle.cell_code.specs.Images.{IsShaped}
use Rattle.cell_code.specs.Marks.{groups_of, hops, link_of, message_of}
use Rattle.cell_code.specs.declared.image.Image.{Image}
use Rattle.cell_code.specs.declared.instruction.Instr.{Instr}
use Rattle.cell_code.specs.declared.instruction.Instr.TheVariants.{Halt}
use Rattle.array_model.specs.Orders.{IsBufferedOrder, IsConsistent}
use Rattle.array_model.specs.States.{cells, cell_of, code_of}

-- From one state the cell alone comes to `halt` in another state, in at most a number of steps.
pub record Ends (code : List Instr) (cell : ℕ) (input : List ℤ) (streams : Streams) (cost : ℕ)
    (start end : Alone) : Type 0 where
  pub steps : ℕ
  pub within : steps ≤ cost
  pub ends : after_steps code cell input streams steps start ≡ Some end
  pub halts : slice_get code end.state.at ≡ Some Halt

-- Alone on this input and these streams, the cell comes to `halt` in a state, within a cost.
abbrev pub EndsAlone : Image → ℕ → List ℤ → Streams → ℕ → Alone → Type 0
EndsAlone image c input streams cost end =
    Ends (code_of image c) c input streams cost (opening_alone (cell_of image c).words (cell_of image c).counters) end

-- the bound for some costs of the cells: the costs, the moves of words from one hop on to the next, and the groups of
-- the links
abbrev pub bound_for : Image → (ℕ → ℕ) → ℕ
bound_for image cost =
    sum_by cost (below (cells image))
    + sum_by (λ m. (message_of image m).length * (hops image m - 1)) (below (length image.messages))
    + sum_by (λ l. length (groups_of image l)) (below (4 * cells image))

-- The image is regular for a buffer. It is shaped. Each cell has a cost and a list: alone, on each input of as many
-- words as it takes and whatever the streams, it comes to `halt` within the cost and makes just the communications of
-- the list. The lists have an order with the buffer, and the labels are consistent on them. Each message is as long
-- as it is often written. No group has more members than its link has queues. And the bound is the one for the costs.
pub record IsRegular (image : Image) (buffer : ℕ) : Type 0 where
  pub shaped : IsShaped image
  pub cost : ℕ → ℕ
  pub lists : ℕ → List Communication
  pub alone : (c : ℕ) (input : List ℤ) (streams : Streams) → c < cells image → length input ≡ (cell_of image c).takes
      → (end : Alone) × EndsAlone image c input streams (cost c) end × (end.made ≡ lists c)
  pub order : List Communication
  pub ordered : IsBufferedOrder image lists buffer order
  pub consistent : IsConsistent image lists
  pub lengths : (m : ℕ) → m < length image.messages
      → (message_of image m).length ≡ times (Writes m) (lists (message_of image m).from)
  pub fits : (l : ℕ) → All (λ (group : List ℕ). length group ≤ (link_of image.links l).queues) (groups_of image l)
  pub bound : image.bound ≡ bound_for image cost
