use Rattle.rendezvous.proofs.OneFamily.{means_one_thing}
use Rattle.rendezvous.proofs.laws.programs_mean_one_thing.Goals as goal

pub returns : goal.returns
returns c = λ program buffer order inputs sound alike within ordered.
    means_one_thing program buffer order inputs c.alone_communicates.ensures c.sound_programs_have_sequences.ensures sound alike
    within ordered
