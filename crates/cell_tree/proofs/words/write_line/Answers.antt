use Rattle.cell_tree.proofs.Steps.{indent_step}
use Rattle.cell_tree.proofs.words.write_line.Goals as goal

pub loop-preserved : goal.loop-preserved
loop-preserved c =
    indent_step c.args.out.now.items _ _ c.loop.counter c.loop.invariant c.in_ok-extend_from_slice.ensures.items
