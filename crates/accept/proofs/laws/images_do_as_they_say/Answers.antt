use Rattle.std.proofs.Common.{sym, subst}
use Rattle.cell_code.specs.Images.{IsListed, IsShaped}
use Rattle.cell_types.specs.Resolved.{program_of}
use Rattle.program_image.specs.Faithful.{IsFaithful}
use Rattle.accept.proofs.OneBuild.{image_has}
use Rattle.accept.proofs.laws.images_do_as_they_say.Goals as goal

pub returns-clause-shaped : goal.returns-clause-shaped
returns-clause-shaped c text image is =
    subst IsShaped (sym is.image_is)
    (image_has c.laws_below.ensures c.existence_below.ensures text is.accepts is.source is.is IsShaped is.labels
    c.images_are_shaped.ensures)

pub returns-clause-listed : goal.returns-clause-listed
returns-clause-listed c text image is =
    subst IsListed (sym is.image_is)
    (image_has c.laws_below.ensures c.existence_below.ensures text is.accepts is.source is.is IsListed is.labels
    c.images_are_listed.ensures)

pub returns-clause-faithful : goal.returns-clause-faithful
returns-clause-faithful c text image is =
    subst (IsFaithful (program_of is.source) is.labels) (sym is.image_is)
    (c.accepted_programs_are_faithful.ensures text is.source is.labels is.accepts is.is is.labels_are)
