use Rattle.std.proofs.Common.{◌&&◌, length, sym, arith}
use Rattle.std.proofs.lemmas.Bool.{and_from}
use Rattle.labelling.proofs.Ranges.{finds, finds_none}
use Rattle.labelling.specs.bodies.Sets.{is_before}
use Rattle.labelling.proofs.ranks.least_with.Goals as goal

pub returns-then-comes_before-2 : goal.returns-then-comes_before-2
returns-then-comes_before-2 c =
    let sets = c.args.sets.now in
    let m = c.args.message in
    let x = c.loop-other.other in
    finds (λ a. is_before sets a m && is_before sets m a) (length sets) m x c.loop-other-test.true
    (and_from (is_before sets x m) (is_before sets m x) (sym c.if-comes_before.ensures) (sym c.if-comes_before-2.ensures))
    c.loop-other.invariant

pub returns : goal.returns
returns c =
    let sets = c.args.sets.now in
    let m = c.args.message in
    finds_none (λ a. is_before sets a m && is_before sets m a) 0 (length sets) m (λ y l u. c.loop-other.invariant y (omega arith))
