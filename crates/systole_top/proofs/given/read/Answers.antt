use Rattle.std.proofs.Common.{subst, ◌∙◌}
use Rattle.stream_io.specs.Reading.{HasInputs, Refuses}
use Rattle.systole_top.specs.Given.{takes_of}
use Rattle.systole_top.proofs.Giving.{line_only, list_for_each, placed, taken_only}
use Rattle.systole_top.proofs.Inputs.{counted}
use Rattle.systole_top.proofs.given.read.Goals as goal

pub returns-in-Ok-clause-only : goal.returns-in-Ok-clause-only
returns-in-Ok-clause-only c =
    let law = c.one_input.ensures in
    taken_only law.inputs law.rule law.apart c.args.image.now c.args.bytes.now c.in-Ok.inputs.cells
    (subst (λ takes. HasInputs c.args.bytes.now c.args.image.now.grid takes c.in-Ok.inputs.cells) (c.deref.ensures.value ∙ c.in_ok-takes.ensures) c.in-Ok.ensures.inputs)

pub returns-in-Ok-clause-counted : goal.returns-in-Ok-clause-counted
returns-in-Ok-clause-counted c =
    let has = subst (λ takes. HasInputs c.args.bytes.now c.args.image.now.grid takes c.in-Ok.inputs.cells) (c.deref.ensures.value ∙ c.in_ok-takes.ensures) c.in-Ok.ensures.inputs in
    let grid = c.args.image.now.grid in (
      list_for_each c.args.bytes.now grid (takes_of c.args.image.now) c.in-Ok.inputs.cells has,
      counted c.args.image.now c.args.bytes.now c.in-Ok.inputs.cells c.requires.cells has,
    )

pub input_line-requires : goal.input_line-requires
input_line-requires c = placed c.args.bytes.now c.args.image.now.grid _ c.in-Err.error c.in-Err.ensures.refused

pub returns : goal.returns
returns c =
    let law = c.one_input.ensures in
    record {
      counted = tt;
      only = rw c.in_ok-input_line-in-Err.ensures.line
          (line_only law.inputs law.rule law.apart c.args.image.now c.args.bytes.now c.in-Err.error c.in_ok-input_line-in-Err.ensures.rule
          (subst (λ takes. Refuses c.args.bytes.now c.args.image.now.grid takes c.in-Err.error) (c.deref.ensures.value ∙ c.in_ok-takes.ensures) c.in-Err.ensures.refused));
    }
