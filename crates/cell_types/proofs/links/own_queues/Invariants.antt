use Rattle.std.proofs.Common.{◌≡◌, [], take}
use Rattle.cell_types.specs.bodies.Declarations.{HasOwnQueues}
use Rattle.cell_types.specs.Faults.{faults_behind, link_faults}
use Rattle.cell_types.proofs.links.own_queues.Given as goal

abbrev pub invariant-loop-link : goal.invariant-loop-link
invariant-loop-link l = record {
  none : faults_behind (link_faults l.grid) [] (take l.link-index l.links) ≡ [];
  own : HasOwnQueues l.grid (take l.link-index l.links) l.own.items;
}
