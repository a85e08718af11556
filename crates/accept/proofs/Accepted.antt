-- The program of a text without a refusal has all that its image needs to do what it says.
use Rattle.std.proofs.Common.{◌≡◌, ℕ, ◌≤◌, List, [], ◌∷◌, slice_get, refl, sym, ap, subst}
use Rattle.sys_base.specs.declared.limits.TheConstants.{STEPS}
use Rattle.cell_tree.specs.declared.source.Source.{Source}
use Rattle.cell_types.specs.Alike.{Alike}
use Rattle.cell_types.specs.Code.{ProgramCode}
use Rattle.cell_types.specs.Cost.{cells_cost}
use Rattle.cell_types.specs.Groups.{lengths_of}
use Rattle.cell_types.specs.Resolved.{program_of}
use Rattle.cell_types.specs.Sound.{IsSound}
use Rattle.cell_types.specs.Typed.{plain}
use Rattle.comm_sequence.specs.BufferedOrder.{IsBufferedOrder}
use Rattle.comm_sequence.specs.Labels.{IsConsistent}
use Rattle.comm_sequence.specs.Sequences.{sequences_of}
use Rattle.comm_sequence.specs.declared.comm.Comm.{Comm}
use Rattle.queue_plan.specs.Grouping.{all_groups}
use Rattle.queue_plan.specs.Lacks.{lacks}
use Rattle.queue_plan.specs.declared.lack.Lack.{Lack}
use Rattle.program_image.specs.Faithful.{IsFaithful}
use Rattle.program_image.specs.ImageOf.{image_of}
use Rattle.accept.specs.Built.{DoesAsItSays, IsBuilt}
use Rattle.accept.specs.declared.building.Built.{Built}
use Rattle.accept.specs.FirstRefusal.{Accepts, PassesAll, need_trials, of_source, room_trials}
use Rattle.accept.specs.Labelled.{AreLabels, lacks_of, members_of}
use Rattle.accept.specs.Source.{IsSource}
use Rattle.accept.specs.Told.{lack_refusal}
use Rattle.accept.specs.bodies.Laws.{Existence, Laws}
use Rattle.accept.proofs.Needed.{NothingLeft, alike, few, no_fall, ordered, sound}
use Rattle.accept.proofs.Trials.{passes_first}

-- The image of a program with such an order, such labels and enough queues does what the program says.
abbrev ImagesAreFaithful : Type 0
ImagesAreFaithful =
    (program : ProgramCode) (labels : List ℕ) (order : List Comm) → IsSound program → Alike program
    → cells_cost program ≤ STEPS → AreLabels program labels → IsConsistent (sequences_of program).lists labels
    → lacks (all_groups program labels (lengths_of program)) program.queues ≡ []
    → IsBufferedOrder (sequences_of program).lists (sequences_of program).ends program.buffer order
    → IsFaithful program labels (image_of program labels)

module _ (laws : Laws) (exist : Existence) (nothing_left : NothingLeft) (faithful : ImagesAreFaithful) (text : List ℕ)
    (source : Source) (accepts : Accepts text) (is : IsSource text source) (labels : List ℕ) (are : AreLabels (program_of source) labels) where
  abbrev program : ProgramCode
  program = program_of source

  -- the text has no refusal but of its queues and its bound
  passes : PassesAll need_trials text
  passes = passes_first need_trials (of_source room_trials) text accepts

  passes_room : PassesAll (of_source room_trials) text
  passes_room = accepts.1.1.1.1.1.1.1.1.1.1

  enough : lacks_of program labels ≡ []
  enough =
      go (lacks_of program labels) refl
    where
      go : (ls : List Lack) → lacks_of program labels ≡ ls → lacks_of program labels ≡ []
      go [] e = e
      go (lack ∷ rest) e =
          absurd (passes_room.0 (lack_refusal program lack (members_of program labels lack.link lack.label))
          (source, is, (labels, are, lack, ap (λ ls. slice_get ls 0) e, refl)))

  pub accepted_faithful : IsFaithful program labels (image_of program labels)
  accepted_faithful =
      let order = ordered laws exist text passes source is nothing_left in
      faithful program labels order.0 (sound laws exist text passes source is) (alike laws exist text passes source is)
      (few laws exist text passes source is) are (no_fall laws exist text passes source is labels are) enough order.1

-- ---- what is made of a text

-- The law of accepted programs.
abbrev pub ProgramsAreFaithful : Type 0
ProgramsAreFaithful =
    (text : List ℕ) (source : Source) (labels : List ℕ) → Accepts text → IsSource text source
    → AreLabels (program_of source) labels
    → IsFaithful (program_of source) labels (image_of (program_of source) labels)

pub built_runs : ProgramsAreFaithful → (text : List ℕ) (b : Built) → IsBuilt text b
    → DoesAsItSays (plain b.program) b.image
built_runs law text b h =
    let its = law text h.source h.labels h.accepts h.is (subst (λ p. AreLabels p h.labels) h.program_is h.judged.labels_are) in
    let own : IsFaithful (plain b.program) h.labels (image_of (plain b.program) h.labels) =
    subst (λ p. IsFaithful p h.labels (image_of p h.labels)) (sym h.program_is) its in
    (h.labels, h.judged.labels_are, subst (IsFaithful (plain b.program) h.labels) (sym h.image_is) own)
