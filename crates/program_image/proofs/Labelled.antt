-- There is a label for each message.
use Rattle.std.proofs.Common.{◌≡◌, ℕ, List, Some, length, sym, ap, ◌∙◌, inl, inr, true≢false}
use Rattle.std.proofs.lemmas.Bool.{cases_Bool}
use Rattle.std.proofs.lemmas.List.{length-map}
use Rattle.std.proofs.lemmas.List.FromFn.{length-map-range_with_len}
use Rattle.std.specs.List.{list_any}
use Rattle.cell_types.specs.Code.{ProgramCode}
use Rattle.cell_types.specs.declared.program.Message.{Message}
use Rattle.comm_sequence.specs.Labels.{proposed}
use Rattle.comm_sequence.specs.ProgramLabels.{AreLabels, has_label}

pub as_many : (program : ProgramCode) (labels : List ℕ) → AreLabels program labels → length labels ≡ length program.messages
as_many program labels are =
    elim (cases_Bool (list_any has_label program.messages)) [
      | inl t ↦
          let e = are.given t in
          sym (length-map labels Some) ∙ sym (ap length e) ∙ length-map program.messages (λ (m : Message). m.label)
      | inr f ↦
          let p = are.proposed (λ t. absurd (true≢false (sym t ∙ f))) in
          ap length p.labels_are ∙ length-map-range_with_len (proposed p.must (length program.messages)) 0 (length program.messages)
    ]
