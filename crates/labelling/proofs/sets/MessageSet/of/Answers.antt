use Rattle.std.proofs.Common.{◌/◌, ◌||◌, nat_eq, ◌∙◌, ap}
use Rattle.labelling.proofs.Bits.{none_in_zeros, or_false, zero_word}
use Rattle.labelling.proofs.sets.MessageSet.of.Goals as goal

pub returns : goal.returns
returns c = λ m.
    c.insert.ensures m ∙ ap (λ b. nat_eq m c.args.message || b) (none_in_zeros _ m (zero_word (m / 64))) ∙ or_false (nat_eq m c.args.message)
