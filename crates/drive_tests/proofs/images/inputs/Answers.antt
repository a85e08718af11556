use Rattle.std.proofs.Common.{◌∙◌, ap, map}
use Rattle.drive_tests.proofs.Counting.{counted_by, list_each}
use Rattle.drive_tests.proofs.images.inputs.Goals as goal

pub returns-clause-lists : goal.returns-clause-lists
returns-clause-lists c =
    list_each c.args.image.now c.in_ok-cells.cells
    (c.in_ok-cells.ensures ∙ ap (map (λ k. k.takes)) c.as_slice.ensures) c.requires.cells

pub returns-clause-counted : goal.returns-clause-counted
returns-clause-counted c =
    counted_by c.args.image.now c.in_ok-cells.cells
    (c.in_ok-cells.ensures ∙ ap (map (λ k. k.takes)) c.as_slice.ensures) c.requires.cells
