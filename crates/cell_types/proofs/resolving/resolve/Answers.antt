use Rattle.cell_types.proofs.Near.{error_near}
use Rattle.cell_types.proofs.resolving.resolve.Goals as goal

pub returns-clause-near : goal.returns-clause-near
returns-clause-near c =
    error_near (record {
      inside = c.path_bounds.ensures.inside;
      some = c.path_bounds.ensures.some;
      each = c.path_bounds.ensures.each;
      given = c.route_lengths.ensures.given;
      default = c.route_lengths.ensures.default;
    })
    c.args.source c.resolve_source.result c.resolve_source.ensures.fault
