use Rattle.std.proofs.Common.{map, refl, sym, ap, subst, ◌∙◌}
use Rattle.cell_types.specs.Names.{named_message}
use Rattle.cell_types.specs.Sound.{IsSound}
use Rattle.cell_types.specs.Typed.{plain}
use Rattle.cell_types.specs.Written.{written}
use Rattle.cell_types.proofs.Paths.{PathLaws}
use Rattle.cell_types.proofs.SoundSources.{sound}
use Rattle.cell_types.proofs.WholeSource.{whole}
use Rattle.cell_types.proofs.resolving.resolve_source.Goals as goal

pub new-requires : goal.new-requires
new-requires c =
    let laws : PathLaws =
    record {
      inside = c.path_bounds.ensures.inside;
      some = c.path_bounds.ensures.some;
      each = c.path_bounds.ensures.each;
      given = c.route_lengths.ensures.given;
      default = c.route_lengths.ensures.default;
    } in
    let source = c.args.source in
    let all = whole source c.in_ok-grid.grid c.in_ok-usual.usual c.in_ok-buffer.buffer c.as_slice.result.now c.as_slice-2.result.now
    c.in_ok-queues.queues c.in_ok-list.field-0.list c.in_ok-cells.cells c.in_ok-grid.ensures c.in_ok-usual.ensures.count c.in_ok-buffer.ensures
    c.as_slice.ensures
    c.as_slice-2.ensures c.in_ok-queues.ensures.faults c.in_ok-list.ensures.list
    (c.in_ok-cells.ensures source c.in_ok-grid.ensures.1 refl
    (c.in_ok-list.ensures.table ∙ ap (map (named_message c.in_ok-grid.grid)) c.as_slice-2.ensures))
    (c.in_ok-queues.ensures.queues (written source) c.in_ok-grid.ensures.1 c.in_ok-usual.ensures.count.1 c.as_slice.ensures) in
    record {
      sound = subst IsSound (sym all.1) (sound laws source c.requires all.0 (c.printable_is_shallow.ensures.stack source c.requires)
          (c.printable_is_shallow.ensures.loops source c.requires)
          (c.printable_routes_are_short.ensures source c.requires));
    }

pub returns-clause-program : goal.returns-clause-program
returns-clause-program c =
    let source = c.args.source in
    let all = whole source c.in_ok-grid.grid c.in_ok-usual.usual c.in_ok-buffer.buffer c.as_slice.result.now c.as_slice-2.result.now
    c.in_ok-queues.queues c.in_ok-list.field-0.list c.in_ok-cells.cells c.in_ok-grid.ensures c.in_ok-usual.ensures.count c.in_ok-buffer.ensures
    c.as_slice.ensures
    c.as_slice-2.ensures c.in_ok-queues.ensures.faults c.in_ok-list.ensures.list
    (c.in_ok-cells.ensures source c.in_ok-grid.ensures.1 refl
    (c.in_ok-list.ensures.table ∙ ap (map (named_message c.in_ok-grid.grid)) c.as_slice-2.ensures))
    (c.in_ok-queues.ensures.queues (written source) c.in_ok-grid.ensures.1 c.in_ok-usual.ensures.count.1 c.as_slice.ensures) in
    (all.0, ap plain c.new.ensures ∙ all.1)
