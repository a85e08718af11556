use Rattle.std.proofs.Common.{◌≡◌, replicate}
use Rattle.link_slots.specs.Slots.{empty_slot}
use Rattle.link_slots.proofs.slots.Slots.new.Given as goal

abbrev pub invariant-loop : goal.invariant-loop
invariant-loop l = l.slots.items ≡ replicate l.counter (empty_slot l.fn.capacity)
