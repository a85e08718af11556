use Rattle.comm_sequence.proofs.SoundSequences.{sound_sequences}
use Rattle.comm_sequence.proofs.laws.sound_programs_have_sequences.Goals as goal

pub returns : goal.returns
returns c = sound_sequences c.few_communications.ensures.block
