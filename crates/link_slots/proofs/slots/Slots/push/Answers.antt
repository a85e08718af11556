use Rattle.std.proofs.Common.{arith, subst, sym}
use Rattle.link_slots.specs.Slots.{HasRoom}
use Rattle.link_slots.proofs.Counts.{few_words, push_counted}
use Rattle.link_slots.proofs.slots.Slots.push.Goals as goal

pub overflow_add-self : goal.overflow_add-self
overflow_add-self c = omega (arith, few_words c.self.inside.slots.items c.self.inside.held c.self.inside.words c.self.invariant)

pub invariant_of-self : goal.invariant_of-self
invariant_of-self c =
    let room : HasRoom c.self.inside.slots.items c.from.result =
    subst (λ n. HasRoom c.self.inside.slots.items n) (sym c.from.ensures)
    (subst (λ slots. HasRoom slots c.args.slot) (sym c.self.view_is) c.requires)
    in
    push_counted c.self.inside.slots.items c.from.result c.index_mut.result.now room.0 c.index_mut.ensures.value c.self.inside.held c.self.inside.words
    c.push_back.new.self c.args.word c.self.invariant room c.push_back.ensures.items
