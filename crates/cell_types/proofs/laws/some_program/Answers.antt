use Rattle.cell_types.proofs.Near.{first_fault}
use Rattle.cell_types.proofs.Paths.{PathLaws}
use Rattle.cell_types.proofs.SoundSources.{sound}
use Rattle.cell_types.proofs.laws.some_program.Goals as goal

pub returns-clause-fault : goal.returns-clause-fault
returns-clause-fault c =
    let laws : PathLaws =
    record {
      inside = c.path_bounds.ensures.inside;
      some = c.path_bounds.ensures.some;
      each = c.path_bounds.ensures.each;
      given = c.route_lengths.ensures.given;
      default = c.route_lengths.ensures.default;
    } in
    first_fault laws

pub returns-clause-sound : goal.returns-clause-sound
returns-clause-sound c = λ source printable none.
    let laws : PathLaws =
    record {
      inside = c.path_bounds.ensures.inside;
      some = c.path_bounds.ensures.some;
      each = c.path_bounds.ensures.each;
      given = c.route_lengths.ensures.given;
      default = c.route_lengths.ensures.default;
    } in
    sound laws source printable none (c.printable_is_shallow.ensures.stack source printable)
    (c.printable_is_shallow.ensures.loops source printable) (c.printable_routes_are_short.ensures source printable)
