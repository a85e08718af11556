-- The labels of the messages of a program, and what links lack for their groups.
use Rattle.std.specs.Prelude.{ℕ, List}
use Rattle.cell_types.specs.Code.{ProgramCode}
use Rattle.cell_types.specs.Groups.{labelled, lengths_of, routes_of, users}
use Rattle.queue_plan.specs.Grouping.{all_groups}
use Rattle.queue_plan.specs.Lacks.{lacks}
use Rattle.queue_plan.specs.declared.lack.Lack.{Lack}
pub use Rattle.comm_sequence.specs.ProgramLabels.{has_label, IsLabelled, first_unlabelled, AreLabels}

-- what the links lack for the groups of the program's messages, by link and then by label, where these are the labels
abbrev pub lacks_of : ProgramCode → List ℕ → List Lack
lacks_of program labels = lacks (all_groups program labels (lengths_of program)) program.queues

-- the members of the group with a label on a link, where these are the labels of the program's messages
abbrev pub members_of : ProgramCode → List ℕ → ℕ → ℕ → List ℕ
members_of program labels link label = labelled labels (users (routes_of program) (lengths_of program) link) label
