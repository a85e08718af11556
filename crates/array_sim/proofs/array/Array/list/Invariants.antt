use Rattle.std.proofs.Common.{◌≡◌, ◌≤◌, length, take}
use Rattle.std.specs.List.{filter}
use Rattle.std.specs.Vec.{vec_capacity}
use Rattle.array_model.specs.States.{ArrayState}
use Rattle.array_model.specs.Steps.{is_enabled}
use Rattle.array_sim.specs.Simulations.{StandsFor, cap_in, inputs_in}
use Rattle.array_sim.proofs.array.Array.list.Given as goal

abbrev pub invariant-loop-actor : goal.invariant-loop-actor
invariant-loop-actor l =
    record {
      listed : (s : ArrayState) → StandsFor l.self s
          → l.enabled.items ≡ filter (is_enabled l.self.image (inputs_in l.self) (cap_in l.self) s)
          (take l.actor-index l.actors);
      short : length l.enabled.items ≤ l.actor-index;
      room : vec_capacity l.initial.enabled ≤ vec_capacity l.enabled;
      enough : length l.actors ≤ vec_capacity l.initial.enabled;
    }
