use Rattle.std.proofs.Common.{◌<◌, ◌^◌, length, ap, sym, subst, ◌∙◌}
use Rattle.std.specs.Global.{Vec}
use Rattle.comm_sequence.specs.Parts.{unrolled}
use Rattle.comm_sequence.specs.declared.part.Part.{Part}
use Rattle.comm_sequence.proofs.Trees.{cell_few}
use Rattle.comm_sequence.proofs.gathering.counts.Goals as goal

pub count-requires : goal.count-requires
count-requires c =
    subst (λ ps. length (unrolled ps) < 2 ^ 32) (sym (c.as_slice.ensures.value ∙ ap (λ (p : Vec Part). p.items) c.parts-item.is))
    (cell_few c.args.cells.now c.loop-parts.parts-index c.parts-item.result c.loop-parts-test.true c.requires)
