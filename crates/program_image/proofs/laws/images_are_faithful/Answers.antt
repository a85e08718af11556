use Rattle.std.proofs.Common.{refl}
use Rattle.program_image.proofs.Meant.{emitted_in_runs, one_meaning}
use Rattle.program_image.proofs.laws.images_are_faithful.Goals as goal

pub returns : goal.returns
returns c =
    λ program labels order sound alike within are falls enough is.
    let follow = c.code_ends_alone.ensures in
    let keep = c.every_run_keeps_the_meaning.ensures in
    let regular = c.images_are_regular.ensures program labels program.buffer order sound alike within are falls enough is in
    let sure = c.images_are_sure.ensures program labels program.buffer order sound alike within are falls enough is in
    record {
      sure = sure;
      bound_is = refl;
      meaning = λ inputs counted.
          one_meaning program labels sound follow inputs program.buffer regular counted keep sure alike within
          c.alone_communicates.ensures c.sound_programs_have_sequences.ensures c.regular_images_have_one_meaning.ensures;
      outputs = λ inputs words cap run last counted m large runs.
          emitted_in_runs program labels sound follow inputs program.buffer regular counted keep words cap run last m large runs;
    }
