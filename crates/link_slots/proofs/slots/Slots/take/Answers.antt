use Rattle.std.proofs.Common.{arith, sym, ap, ◌∙◌, position, is_none}
use Rattle.link_slots.specs.declared.slot.Slot.{Slot}
use Rattle.link_slots.proofs.Counts.{first_there, some_free, take_counted}
use Rattle.link_slots.proofs.slots.Slots.take.Goals as goal

pub unwrap-slot-requires : goal.unwrap-slot-requires
unwrap-slot-requires c = let h = some_free c.args.self.now c.requires.free in grind (arith, h)

pub invariant_of-self : goal.invariant_of-self
invariant_of-self c =
    let there = first_there c.self.inside.slots.items c.unwrap-slot.result
    (ap (position (λ (s : Slot). is_none s.holder)) c.self.view_is ∙ sym c.first_free.ensures ∙ c.unwrap-slot.ensures)
    in
    take_counted c.self.inside.slots.items c.unwrap-slot.result c.index_mut.result.now there.0 c.index_mut.ensures.value
    c.self.inside.held c.self.inside.words c.args.message c.self.invariant there.1.1
