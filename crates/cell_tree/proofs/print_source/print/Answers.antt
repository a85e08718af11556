use Rattle.cell_tree.proofs.SourceSteps.{source_step}
use Rattle.cell_tree.proofs.print_source.print.Goals as goal

pub returns : goal.returns
returns c =
    source_step c.args.source.now _ _ _ _ _ _ _ _ _ c.as_slice.ensures c.as_slice-2.ensures c.as_slice-3.ensures
    c.new-out.ensures.items c.in_ok-write_settings.ensures c.in_ok-write_links.ensures c.in_ok-write_messages.ensures
    c.in_ok-write_cells.ensures c.in_ok-push.ensures.items
