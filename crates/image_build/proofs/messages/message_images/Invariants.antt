use Rattle.std.proofs.Common.{◌≡◌, take}
use Rattle.cell_types.specs.Typed.{plain}
use Rattle.program_image.specs.ImageOf.{messages_from}
use Rattle.image_build.proofs.messages.message_images.Given as goal

abbrev pub invariant-loop-index : goal.invariant-loop-index
invariant-loop-index l = l.images ≡ messages_from (plain l.program) l.labels 0 (take l.index l.program.messages)
