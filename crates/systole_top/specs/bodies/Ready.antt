-- What is known of an accepted source by those who use what is made of it.
use Rattle.std.specs.Prelude.{◌≡◌, ◌≤◌, ⊤, ℤ, List, length}
use Rattle.accept.specs.declared.building.Built.{Built}
use Rattle.array_model.specs.Runs.{IsSure}
use Rattle.array_model.specs.States.{IsCounted}
use Rattle.cell_code.specs.Images.{IsListed, IsShaped}
use Rattle.cell_types.specs.Alike.{Alike}
use Rattle.cell_types.specs.Cost.{cells_cost}
use Rattle.cell_types.specs.Typed.{plain}
use Rattle.comm_sequence.specs.BufferedOrder.{IsBufferedOrder}
use Rattle.comm_sequence.specs.Sequences.{sequences_of}
use Rattle.program_image.specs.Faithful.{HasOneMeaning, inputs_of}
use Rattle.sys_base.specs.Grid.{cell_count}
use Rattle.sys_base.specs.declared.limits.TheConstants.{STEPS}
use Rattle.systole_top.specs.declared.judgement.Judgement.{Judgement}
use Rattle.systole_top.specs.declared.judgement.Judgement.TheVariants.{Accepted, Refused}

-- The image can be written and run, the program and its order are such as its meaning is asked with, and for all inputs
-- that have the counted words it has one.
pub record IsReady (built : Built) : Type 0 where
  pub listed : IsListed built.image
  pub shaped : IsShaped built.image
  pub sure : IsSure built.image built.image.buffer
  pub cost : cells_cost (plain built.program) ≤ STEPS
  pub alike : Alike (plain built.program)
  pub order : IsBufferedOrder (sequences_of (plain built.program)).lists (sequences_of (plain built.program)).ends
      (plain built.program).buffer built.order
  pub cells : length (plain built.program).cells ≡ cell_count built.image.grid
  pub meaning : (inputs : List (List ℤ)) → IsCounted built.image (inputs_of inputs)
      → HasOneMeaning (plain built.program) inputs

-- What is made of an accepted source is ready.
abbrev pub WhereReady : Judgement Built → Type 0
WhereReady (Accepted built) = IsReady built
WhereReady (Refused refusal) = ⊤
