use Rattle.std.proofs.Common.{length, map, ap, sym, subst, ◌∙◌}
use Rattle.std.proofs.lemmas.List.{take_all}
use Rattle.std.proofs.lemmas.List.FromFn.{fill_by_all}
use Rattle.std.specs.List.{slice_index, sum_by}
use Rattle.cell_types.specs.Communications.{Writes, times}
use Rattle.comm_sequence.specs.Parts.{unrolled}
use Rattle.comm_sequence.specs.bodies.Walking.{CanAdd}
use Rattle.comm_sequence.proofs.Trees.{can_add_tree}
use Rattle.comm_sequence.proofs.gathering.lengths_of.Goals as goal

pub add_writes-requires-clause-room : goal.add_writes-requires-clause-room
add_writes-requires-clause-room c =
    let now = c.deref_mut.result.now in
    subst (λ ps. CanAdd now 1 (unrolled ps)) (sym (c.as_slice.ensures ∙ c.parts-item.is))
    (can_add_tree c.args.trees.now c.loop-parts.parts-index c.args.messages c.parts-item.result now c.loop-parts-test.true
    (ap length c.deref_mut.ensures.value ∙ c.loop-parts.invariant.0) c.requires.messages c.requires.few
    (λ m lt. ap (λ xs. slice_index xs m) c.deref_mut.ensures.value ∙ c.loop-parts.invariant.1 m lt))

pub returns : goal.returns
returns c =
    c.from_vec.ensures
    ∙ fill_by_all (λ m. sum_by (times (Writes m)) (map unrolled c.args.trees.now)) c.loop-parts.lengths.items c.args.messages 0
    c.loop-parts.invariant.0
    (λ k lt. c.loop-parts.invariant.1 k lt
    ∙ ap (λ ts. sum_by (times (Writes k)) (map unrolled ts)) (take_all c.loop-parts.parts-index c.args.trees.now c.loop-parts-test.false))
