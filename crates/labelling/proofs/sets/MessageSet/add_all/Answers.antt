use Rattle.std.proofs.Common.{◌≡◌, ◌/◌, length, ⊎_elim, arith, rules}
use Rattle.std.proofs.lemmas.Bool.{cases_lt}
use Rattle.labelling.proofs.Bits.{added, no_bits}
use Rattle.labelling.proofs.sets.MessageSet.add_all.Goals as goal

pub returns : goal.returns
returns c = λ m.
    let old = c.args.self.now.words in
    let other = c.args.other.now.words in
    let new = c.loop-index.self.words in
    let size_old : length old ≡ 8 = search rules in
    let size_other : length other ≡ 8 = search rules in
    let size_new : length new ≡ 8 = c.loop-index.invariant.size in
    added old other new m
    (⊎_elim
    (λ within. c.loop-index.invariant.joined (m / 64) (omega arith))
    (λ past. no_bits old other new (m / 64) (omega arith) (omega arith) (omega arith))
    (cases_lt (m / 64) 8))
