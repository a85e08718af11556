-- Two runs for one text and one input put the same outputs.
use Rattle.std.proofs.Common.{◌≡◌, ℕ, ℤ, Bool, List, sym, ◌∙◌, subst, ap}
use Rattle.accept.specs.Image.{IsImageOf}
use Rattle.cell_code.specs.Images.{IsShaped}
use Rattle.cell_code.specs.declared.image.Image.{Image}
use Rattle.cell_types.specs.Resolved.{program_of}
use Rattle.comm_sequence.specs.Meaning.{IsMeaning}
use Rattle.program_image.specs.Faithful.{IsFaithful}
use Rattle.run_words.specs.Schedules.{Schedule}
use Rattle.stream_io.specs.Reading.{HasInputs}
use Rattle.sys_base.specs.Grid.{Extent}
use Rattle.systole_top.specs.Correctness.{IsRunPut}
use Rattle.systole_top.specs.Given.{AreGiven, takes_of}
use Rattle.systole_top.specs.Sides.{Stream}
use Rattle.systole_top.proofs.Inputs.{counted}
use Rattle.systole_top.proofs.Judging.{OneImage, OneProgram}

module _ (one : OneImage) (program : OneProgram)
    (inputs : (bytes : List ℕ) (g : Extent) (takes : List ℕ) (is js : List (List ℤ)) → HasInputs bytes g takes is → HasInputs bytes g takes js → is ≡ js)
    (shaped : (t : List ℕ) (i : Image) → IsImageOf t i → IsShaped i)
    (faithful : (t : List ℕ) (i : Image) (is : IsImageOf t i) → IsFaithful (program_of is.source) is.labels i) where
  pub same_outputs : (text bytes : List ℕ) {asked other : ℕ} {schedule another : Schedule} {recorded too : Bool} {out err out_too err_too : Stream}
      (x : IsRunPut text bytes asked schedule recorded out err) (y : IsRunPut text bytes other another too out_too err_too)
      → x.report.outputs.cells ≡ y.report.outputs.cells
  same_outputs text bytes {asked} {other} {schedule} {another} {recorded} {too} {out} {err} {out_too} {err_too} x y =
      let given = subst (λ i. AreGiven i bytes y.inputs) (one text y.image x.image y.is x.is) y.given in
      let same = inputs bytes x.image.grid (takes_of x.image) y.inputs x.inputs given x.given in
      let meaning = subst (λ p. IsMeaning p x.inputs y.report.outputs.cells) (program text y.image x.image y.is x.is)
      (subst (λ l. IsMeaning (program_of y.is.source) l y.report.outputs.cells) same y.meaning) in
      let has = (faithful text x.image x.is).meaning x.inputs (counted x.image bytes x.inputs (shaped text x.image x.is).cells x.given) in
      has.only x.report.outputs.cells x.meaning ∙ sym (has.only y.report.outputs.cells meaning)
