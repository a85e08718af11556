use Rattle.labelling.proofs.Bits.{read}
use Rattle.labelling.proofs.sets.MessageSet.has.Goals as goal

pub returns : goal.returns
returns c = read c.args.self.now.words c.from.result c.args.message c.from.ensures
