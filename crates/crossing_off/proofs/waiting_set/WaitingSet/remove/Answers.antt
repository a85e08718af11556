use Rattle.std.proofs.Common.{ℕ, List, subst, sym, arith}
use Rattle.crossing_off.specs.bodies.WaitingSet.{members, IsIn, Removes}
use Rattle.crossing_off.proofs.WaitingSets.{known_in, removed, without_bit}
use Rattle.crossing_off.proofs.waiting_set.WaitingSet.remove.Goals as goal

pub bounds-self-inside-index : goal.bounds-self-inside-index
bounds-self-inside-index c =
    omega (arith, c.from-index.ensures, known_in c.self.inside.words c.args.self.now c.args.message c.self.view_is c.requires)

pub bounds-self-inside-index-2 : goal.bounds-self-inside-index-2
bounds-self-inside-index-2 c =
    omega (arith, c.from-index.ensures, known_in c.self.inside.words c.args.self.now c.args.message c.self.view_is c.requires)

pub returns : goal.returns
returns c =
    let words = c.self.inside.words in
    let m = c.args.message in
    let In : List ℕ → Type 0 = λ set. IsIn set m in
    let P : List ℕ → Type 0 = λ old. Removes old (members (without_bit words m)) m in
    let Q : ℕ → Type 0 = λ i. Removes c.args.self.now (members (without_bit words i)) m in
    let known = known_in words c.args.self.now m c.self.view_is c.requires in
    subst Q (sym c.from-index.ensures)
    (subst P c.self.view_is (removed words m c.self.told known (subst In (sym c.self.view_is) c.requires)))
