-- What there is of a text that is accepted.
use Rattle.std.specs.Prelude.{ℕ, ◌≡◌, ◌≤◌, List, []}
use Rattle.sys_base.specs.declared.limits.TheConstants.{STEPS}
use Rattle.cell_tree.specs.declared.source.Source.{Source}
use Rattle.cell_types.specs.Code.{ProgramCode}
use Rattle.cell_types.specs.Groups.{bound}
use Rattle.cell_types.specs.Resolved.{program_of}
use Rattle.cell_types.specs.Typed.{plain}
use Rattle.comm_sequence.specs.BufferedOrder.{IsBufferedOrder}
use Rattle.comm_sequence.specs.Labels.{IsConsistent}
use Rattle.comm_sequence.specs.Sequences.{sequences_of}
use Rattle.comm_sequence.specs.declared.comm.Comm.{Comm}
use Rattle.cell_code.specs.declared.image.Image.{Image}
use Rattle.crossing_off.specs.Greedy.{IsCrossed}
use Rattle.program_image.specs.Faithful.{IsFaithful}
use Rattle.program_image.specs.ImageOf.{image_of}
use Rattle.accept.specs.FirstRefusal.{Accepts, FirstRefusal}
use Rattle.accept.specs.Labelled.{AreLabels, lacks_of}
use Rattle.accept.specs.Source.{IsSource}
use Rattle.accept.specs.declared.building.AcceptError.{AcceptError}
use Rattle.accept.specs.declared.building.AcceptError.TheVariants as A
use Rattle.accept.specs.declared.building.Built.{Built}

-- The order is one of the program's lists for its buffer and that of the greedy rule, the labels are its messages' and
-- never fall, no link lacks queues, and the steps are the bound and within the limit.
pub record IsJudged (program : ProgramCode) (order : List Comm) (labels : List ℕ) (steps : ℕ) : Type 0 where
  pub ordered : IsBufferedOrder (sequences_of program).lists (sequences_of program).ends program.buffer order
  pub crossed : IsCrossed (sequences_of program) program.buffer order
  pub labels_are : AreLabels program labels
  pub consistent : IsConsistent (sequences_of program).lists labels
  pub enough : lacks_of program labels ≡ []
  pub bound_is : steps ≡ bound program labels
  pub within : steps ≤ STEPS

-- The text has no refusal, and this is what is made of it: the program of its source, its order, and its image by its
-- labels.
pub record IsBuilt (text : List ℕ) (built : Built) : Type 0 where
  pub accepts : Accepts text
  pub source : Source
  pub is : IsSource text source
  pub program_is : plain built.program ≡ program_of source
  pub labels : List ℕ
  pub judged : IsJudged (plain built.program) built.order labels built.image.bound
  pub image_is : built.image ≡ image_of (plain built.program) labels

-- The image does what the program says, by labels of its messages: every run of it, for every input and at every
-- capacity from one and from the program's buffer on, is bounded, never stuck before its end, and emits the words of
-- the program's meaning.
abbrev pub DoesAsItSays : ProgramCode → Image → Type 0
DoesAsItSays program image = (labels : List ℕ) × AreLabels program labels × IsFaithful program labels image

-- The error is the first refusal of the text, or memory ran out.
abbrev pub IsRefused : List ℕ → AcceptError → Type 0
IsRefused text (A.Refused r) = FirstRefusal text r
IsRefused text A.Memory = Unit {0}
