use Rattle.std.proofs.Common.{◌*◌, refl, ◌∙◌}
use Rattle.sys_base.specs.Grid.{cell_count}
use Rattle.cell_types.specs.Typed.{plain}
use Rattle.accept.specs.FirstRefusal.{cell_trials, naming_trials}
use Rattle.accept.specs.Needs.{HasNoNeeds}
use Rattle.accept.proofs.NeedLines.{all_lines, are_needs, need_refused, unread_need}
use Rattle.accept.proofs.Refused.{handed_on}
use Rattle.accept.proofs.Trials.{found_then, then_found}
use Rattle.accept.proofs.needing.needs.Goals as goal

pub returns-in_err-program-clause-refused : goal.returns-in_err-program-clause-refused
returns-in_err-program-clause-refused c =
    handed_on (HasNoNeeds c.args.text.now) _ c.in_err-program.field-0.0 c.from_residual.ensures.1
    (unread_need c.args.text.now c.in_err-program.field-0.0 c.in_err-program.ensures.refused)

pub returns-in_err-cells-clause-refused : goal.returns-in_err-cells-clause-refused
returns-in_err-cells-clause-refused c =
    let p = plain c.in_ok-program.program in
    handed_on (HasNoNeeds c.args.text.now) _ c.in_err-cells.field-0.0 c.from_residual-in_err-cells.ensures.1
    (need_refused c.laws_below.ensures c.args.text.now p c.in_ok-program.ensures.program c.in_err-cells.field-0.0
    (found_then cell_trials naming_trials p c.in_err-cells.field-0.0 c.in_err-cells.ensures.refused))

pub returns-in_err-labels-clause-refused : goal.returns-in_err-labels-clause-refused
returns-in_err-labels-clause-refused c =
    let p = plain c.in_ok-program.program in
    handed_on (HasNoNeeds c.args.text.now) _ c.in_err-labels.field-0.0 c.from_residual-in_err-labels.ensures.1
    (need_refused c.laws_below.ensures c.args.text.now p c.in_ok-program.ensures.program c.in_err-labels.field-0.0
    (then_found cell_trials naming_trials p c.in_err-labels.field-0.0 c.in_ok-cells.ensures.passes c.in_err-labels.ensures.refused))

pub returns-clause-needs : goal.returns-clause-needs
returns-clause-needs c =
    let p = plain c.in_ok-program.program in
    are_needs c.laws_below.ensures c.args.text.now p c.in_ok-program.ensures.program c.in_ok-labels.labels.items c.in_ok-lines.lines.items
    c.in_ok-cells.ensures.passes c.in_ok-labels.ensures.passes c.in_ok-labels.ensures.labels
    (c.in_ok-lines.ensures
    ∙ all_lines p c.in_ok-labels.labels.items c.in_ok-groups.groups (4 * cell_count p.grid)
    (rw c.deref.ensures.value at c.in_ok-groups.ensures.groups) refl)
