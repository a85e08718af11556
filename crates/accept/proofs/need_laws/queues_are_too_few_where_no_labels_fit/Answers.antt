use Rattle.std.proofs.Common.{◌↔◌, ℕ, List}
use Rattle.cell_types.specs.Resolved.{program_of}
use Rattle.comm_sequence.specs.Labels.{IsConsistent}
use Rattle.comm_sequence.specs.Sequences.{sequences_of}
use Rattle.refusals.specs.declared.refusal.Refusal.{Refusal}
use Rattle.accept.specs.FirstRefusal.{HasTooFewQueues}
use Rattle.accept.specs.Needs.{FitQueues}
use Rattle.accept.proofs.NeedAnswers.{few_first, few_found}
use Rattle.accept.proofs.Needed.{no_fall, some_labels}
use Rattle.accept.proofs.need_laws.queues_are_too_few_where_no_labels_fit.Goals as goal

pub returns : goal.returns
returns c text source is passes never =
    let laws = c.laws_below.ensures in
    let exist = c.existence_below.ensures in
    let own = some_labels laws exist text passes source is in
    let law : ((r : Refusal) × HasTooFewQueues (program_of source) r)
    ↔ ((labels : List ℕ) → IsConsistent (sequences_of (program_of source)).lists labels → FitQueues (program_of source) labels → ⊥) =
    c.too_few_for_all_labels.ensures (program_of source) own.0 never own.1
    (no_fall laws exist text passes source is own.0 own.1) in (
      λ first. law.0 (first.0, few_found laws text source is passes first.0 first.1 first.2),
      λ unfit.
          let few = law.1 unfit in
          let first = few_first laws text source is passes few.0 few.1 in
          (few.0, first.0, first.1),
    )
