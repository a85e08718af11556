use Rattle.program_image.proofs.Regular.{image_regular}
use Rattle.program_image.proofs.laws.images_are_regular.Goals as goal

pub returns : goal.returns
returns c =
    image_regular
    (record {
      shaped = c.code_is_shaped.ensures.shaped;
      at_ends = c.code_is_shaped.ensures.ends;
      follow = c.code_ends_alone.ensures;
      communicate = c.alone_communicates.ensures;
      sequences = c.sound_programs_have_sequences.ensures;
      fit = c.groups_fit.ensures;
      at_links = c.groups_by_link.ensures.at;
    })
