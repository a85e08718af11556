use Rattle.std.proofs.Common.{take}
use Rattle.routes.specs.bodies.Walking.{HasWalked}
use Rattle.routes.proofs.walk.links_along.Given as goal

-- the walk has gone in the directions so far
abbrev pub invariant-loop-dir : goal.invariant-loop-dir
invariant-loop-dir l = HasWalked l.grid l.fn.from (take l.dir-index l.directions) l.walk
