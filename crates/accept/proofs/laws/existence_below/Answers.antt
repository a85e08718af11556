use Rattle.accept.proofs.laws.existence_below.Goals as goal

pub returns : goal.returns
returns c = record {
  tokens = c.some_outcome.ensures;
  limits = c.some_limit.ensures;
  source = c.some_program.ensures;
  printable = c.read_is_printable.ensures;
  fault = c.some_program-2.ensures.fault;
  sound = c.some_program-2.ensures.sound;
  sequences = c.sound_programs_have_sequences.ensures;
  order = c.some_outcome-2.ensures.order;
  emptied = c.orders_leave_nothing.ensures;
  walk = c.some_outcome-2.ensures.walk;
  proposal = c.some_proposal.ensures;
  fall = c.consistent_or_fall.ensures;
}
