-- The image of a program that is fit to run is regular.
use Rattle.std.proofs.Common.{◌≡◌, ℕ, ◌≤◌, List, [], arith}
use Rattle.sys_base.specs.declared.limits.TheConstants.{STEPS}
use Rattle.cell_types.specs.Alike.{Alike}
use Rattle.cell_types.specs.Code.{ProgramCode}
use Rattle.cell_types.specs.Communications.{communications}
use Rattle.cell_types.specs.Cost.{cells_cost}
use Rattle.cell_types.specs.Groups.{lengths_of}
use Rattle.cell_types.specs.Sound.{IsSound}
use Rattle.comm_sequence.specs.BufferedOrder as B
use Rattle.comm_sequence.specs.Labels as L
use Rattle.comm_sequence.specs.ProgramLabels.{AreLabels}
use Rattle.comm_sequence.specs.Sequences.{sequences_of}
use Rattle.comm_sequence.specs.declared.comm.Comm.{Comm}
use Rattle.queue_plan.specs.Grouping.{all_groups}
use Rattle.queue_plan.specs.Lacks.{lacks}
use Rattle.array_model.specs.Regular.{IsRegular}
use Rattle.program_image.specs.ImageOf.{image_of}
use Rattle.program_image.proofs.Bound.{bound_is, cost_of}
use Rattle.program_image.proofs.CellsAlone.{ends_alone}
use Rattle.program_image.proofs.Labelled.{as_many}
use Rattle.program_image.proofs.Layers.{CellsAreShaped, CellsCommunicate, CellsFollow, CellsUseTheirEnds, GroupsAtLinks, GroupsFit, ProgramsHaveSequences}
use Rattle.program_image.proofs.Lengths.{lengths}
use Rattle.program_image.proofs.Links.{fits}
use Rattle.program_image.proofs.Messages.{many}
use Rattle.program_image.proofs.Ordered.{all_made, consistent, ordered}
use Rattle.program_image.proofs.Shaped.{image_shaped}

-- what the layers below say of programs
pub record Layers : Type 0 where
  pub shaped : CellsAreShaped
  pub at_ends : CellsUseTheirEnds
  pub follow : CellsFollow
  pub communicate : CellsCommunicate
  pub sequences : ProgramsHaveSequences
  pub fit : GroupsFit
  pub at_links : GroupsAtLinks

pub image_regular : Layers → (program : ProgramCode) (labels : List ℕ) (buffer : ℕ) (order : List Comm)
    → IsSound program → Alike program → cells_cost program ≤ STEPS → AreLabels program labels
    → L.IsConsistent (sequences_of program).lists labels
    → lacks (all_groups program labels (lengths_of program)) program.queues ≡ []
    → B.IsBufferedOrder (sequences_of program).lists (sequences_of program).ends buffer order
    → IsRegular (image_of program labels) buffer
image_regular below program labels buffer order sound alike within are falls enough is =
    let long = as_many program labels are in
    record {
      shaped = image_shaped program labels sound alike below.shaped below.at_ends;
      cost = cost_of program;
      lists = communications program;
      alone = λ c input streams h counted.
          ends_alone program labels sound alike below.follow below.communicate c input streams h;
      order = all_made order;
      ordered = ordered program labels sound buffer order is;
      consistent = consistent program labels sound long falls;
      lengths = λ m h. lengths program labels sound within below.sequences m (omega (arith, h, many program labels));
      fits = fits program labels long enough below.fit below.at_links;
      bound = bound_is program labels sound long;
    }
