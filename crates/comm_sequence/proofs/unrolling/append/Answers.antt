use Rattle.std.proofs.Common.{refl, sym, subst}
use Rattle.comm_sequence.specs.Parts.{part_unrolled}
use Rattle.comm_sequence.specs.bodies.Walking.{HasGrown}
use Rattle.comm_sequence.proofs.Grown.{grown}
use Rattle.comm_sequence.proofs.unrolling.append.Goals as goal

pub returns : goal.returns
returns c =
    let old = c.args.parts.now.items in
    let list = part_unrolled c.args.part in (
      refl,
      subst (λ xs. HasGrown old xs list 0) (sym c.in_ok-push.ensures.items)
          (subst (HasGrown old _ list) c.requires.flat (grown old c.args.part c.requires.full)),
    )
