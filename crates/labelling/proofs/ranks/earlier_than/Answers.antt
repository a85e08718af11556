use Rattle.std.proofs.Common.{ℕ, Bool, true, false, arith}
use Rattle.labelling.proofs.Ranges.{counted_more}
use Rattle.labelling.specs.bodies.Sets.{is_before}
use Rattle.labelling.proofs.ranks.earlier_than.Goals as goal
use Rattle.labelling.proofs.ranks.earlier_than.Goals.{then-comes_before, else-comes_before}

pub loop-other-preserved : goal.loop-other-preserved
loop-other-preserved c =
    let test : ℕ → Bool = λ a. is_before c.args.sets.now a c.args.message in
    let inv = c.loop-other.invariant in
    elim c.if-comes_before.branch [
      | then-comes_before w ↦ (
        counted_more test c.loop-other.other c.loop-other.earlier c.if-comes_before.earlier true inv.0 w.earlier-is w.if-comes_before.ensures,
        let one = w.earlier-is in let le = inv.1 in omega arith,
      )
      | else-comes_before w ↦ (
        counted_more test c.loop-other.other c.loop-other.earlier c.if-comes_before.earlier false inv.0
            (let none = w.earlier-is in omega arith)
            w.if-comes_before.ensures,
        let none = w.earlier-is in let le = inv.1 in omega arith,
      )
    ]
