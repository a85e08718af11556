use Rattle.std.proofs.Common.{◌∙◌, ap, sym}
use Rattle.cell_types.specs.Groups.{lengths_of}
use Rattle.cell_types.specs.Typed.{plain}
use Rattle.program_image.specs.ImageOf.{image_of}
use Rattle.queue_plan.specs.Grouping.{all_groups}
use Rattle.accept.proofs.Accepted.{built_runs}
use Rattle.accept.proofs.Imaged.{short_code}
use Rattle.accept.proofs.Refused.{is_built, handed_on, program_refused, unread_refused}
use Rattle.accept.specs.Built.{IsBuilt, IsRefused}
use Rattle.accept.proofs.building.build.Goals as goal

pub returns-in_err-program-clause-refused : goal.returns-in_err-program-clause-refused
returns-in_err-program-clause-refused c =
    handed_on (IsRefused c.args.text.now) _ c.in_err-program.field-0.0 c.from_residual.ensures.1
    (unread_refused c.args.text.now c.in_err-program.field-0.0 c.in_err-program.ensures.refused)

pub returns-in_err-accepted-clause-refused : goal.returns-in_err-accepted-clause-refused
returns-in_err-accepted-clause-refused c =
    handed_on (IsRefused c.args.text.now) _ c.in_err-accepted.field-0.0 c.from_residual-in_err-accepted.ensures.1
    (program_refused c.laws_below.ensures c.args.text.now (plain c.in_ok-program.program) c.in_ok-program.ensures.program
    c.in_err-accepted.field-0.0 c.in_err-accepted.ensures.refused)

pub imaged-requires-clause-groups : goal.imaged-requires-clause-groups
imaged-requires-clause-groups c =
    c.in_ok-accepted.ensures.groups
    ∙ ap (λ p. all_groups (plain p) c.in_ok-accepted.accepted.plan.labels.items (lengths_of (plain p)))
    (sym c.in_ok-accepted.ensures.program)

pub imaged-requires-clause-room : goal.imaged-requires-clause-room
imaged-requires-clause-room c cell =
    let of = c.in_ok-program.ensures.program in
    short_code c.code_laws_below.ensures c.args.text.now of.source of.short of.is
    (plain c.in_ok-accepted.accepted.program) (ap plain c.in_ok-accepted.ensures.program ∙ of.program_is) cell

pub returns-clause-built : goal.returns-clause-built
returns-clause-built c =
    is_built c.laws_below.ensures c.args.text.now c.in_ok-program.program c.in_ok-program.ensures.program c.in_ok-imaged.field-0
    c.in_ok-accepted.accepted.order c.in_ok-accepted.accepted.plan.labels.items c.in_ok-accepted.accepted.plan.bound
    c.in_ok-accepted.ensures.passes c.in_ok-accepted.ensures.judged
    (c.in_ok-imaged.ensures.program ∙ c.in_ok-accepted.ensures.program) c.in_ok-imaged.ensures.order
    (c.in_ok-imaged.ensures.image
    ∙ ap (λ p. image_of (plain p) c.in_ok-accepted.accepted.plan.labels.items) c.in_ok-accepted.ensures.program)

pub returns-clause-faithful : goal.returns-clause-faithful
returns-clause-faithful c =
    let built : IsBuilt c.args.text.now c.in_ok-imaged.field-0 = returns-clause-built c in
    built_runs c.accepted_programs_are_faithful.ensures c.args.text.now c.in_ok-imaged.field-0 built
