use Rattle.std.proofs.Common.{ℕ, List, subst, sym}
use Rattle.crossing_off.specs.bodies.WaitingSet.{members, AddsTo}
use Rattle.crossing_off.proofs.WaitingSets.{added, with_bit}
use Rattle.crossing_off.proofs.waiting_set.WaitingSet.insert.Goals as goal

pub returns : goal.returns
returns c =
    let words = c.self.inside.words in
    let m = c.args.message in
    let P : List ℕ → Type 0 = λ old. AddsTo old (members (with_bit words m)) m in
    let Q : ℕ → Type 0 = λ i. AddsTo c.args.self.now (members (with_bit words i)) m in
    subst Q (sym c.from-index.ensures) (subst P c.self.view_is (added words m c.self.told c.requires))
