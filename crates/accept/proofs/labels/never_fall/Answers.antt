use Rattle.std.proofs.Common.{subst}
use Rattle.std.proofs.lemmas.Bool.{false≢true}
use Rattle.comm_sequence.specs.Labels.{IsConsistent}
use Rattle.labelling.specs.Falls.{IsFall}
use Rattle.accept.proofs.labels.never_fall.Goals as goal

pub fall_refusal-requires-clause-fall : goal.fall_refusal-requires-clause-fall
fall_refusal-requires-clause-fall c =
    c.falls_inside.ensures c.args.labels.now c.in-Some.fall
    (subst (λ s. IsFall s.lists c.args.labels.now c.in-Some.fall) c.requires.seqs c.in-Some.ensures.fall)

pub returns-in-None-clause-consistent : goal.returns-in-None-clause-consistent
returns-in-None-clause-consistent c =
    subst (λ s. IsConsistent s.lists c.args.labels.now) c.requires.seqs (c.in-None.ensures.consistent.0 false≢true)
