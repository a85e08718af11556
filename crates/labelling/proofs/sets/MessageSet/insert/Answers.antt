use Rattle.std.proofs.Common.{◌≡◌, length, arith, rules}
use Rattle.labelling.proofs.Bits.{inserted}
use Rattle.labelling.proofs.sets.MessageSet.insert.Goals as goal

pub returns : goal.returns
returns c = λ m.
    let size : length c.args.self.now.words ≡ 8 = search rules in
    inserted c.args.self.now.words c.from.result c.args.message m c.from.ensures (omega arith)
