-- The actors of an array that have a step, in order.
use Rattle.std.specs.Prelude.{ℕ, pred, List, ◌++◌, map, filter, flat_map}
use Rattle.sys_base.specs.Groups.{below}
use Rattle.sys_base.specs.declared.actor.Actor.{Actor}
use Rattle.sys_base.specs.declared.actor.Actor.TheVariants.{Cell, Forward, Bind}
use Rattle.array_runs.specs.Frame.{Frame, hops}
use Rattle.array_runs.specs.Machines.{Array, Machine, array_can}

-- all actors: cells by index, then forwards by message and hop, then links by id
abbrev pub actors : Frame → List Actor
actors p =
    map Cell (below p.cells)
    ++ (flat_map (λ m. map (Forward m) (below (pred (hops p m)))) (below p.messages) ++ map Bind (below p.links))

-- those that have a step in a state
abbrev pub enabled : {X W : Type 0} → Frame → Machine X W → ℕ → Array X W → List Actor
enabled p mc cap a = filter (array_can p mc cap a) (actors p)
