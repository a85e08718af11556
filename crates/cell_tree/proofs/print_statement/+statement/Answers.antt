use Rattle.std.proofs.lemmas.Result.{on_ok_weaker}
use Rattle.cell_tree.proofs.BlockSteps.{block_step}
use Rattle.cell_tree.proofs.print_statement.+statement.Goals as goal

pub write_block-returns : goal.write_block-returns
write_block-returns t c =
    on_ok_weaker _ (block_step _ _ _ _ c.args.body.now c.args.depth _ c.in_ok-inner.ensures c.in_ok-write_mark.ensures
    c.in_ok-write_statements.ensures) c.write_mark_line.ensures
