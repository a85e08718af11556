use Rattle.std.proofs.Common.{◌≡◌, length, map, ap, ◌∙◌, rules}
use Rattle.std.specs.List.{sum_by}
use Rattle.cell_types.specs.Communications.{Writes, Takes, Emits, times}
use Rattle.cell_types.specs.Groups.{below}
use Rattle.comm_sequence.specs.Gathered.{all_unrolled}
use Rattle.comm_sequence.specs.Parts.{unrolled}
use Rattle.comm_sequence.specs.bodies.Walking.{from_trees, operations}
use Rattle.comm_sequence.proofs.Gathered.{trees_few, trees_gathered, trees_sound, trees_written}
use Rattle.comm_sequence.proofs.seqs.Seqs.of.Goals as goal

pub lengths_of-requires-clause-messages : goal.lengths_of-requires-clause-messages
lengths_of-requires-clause-messages c =
    let cells = all_unrolled c.args.cells.items in
    let many : c.len.result ≡ length c.args.ends.items = search rules in
    let lists : map unrolled c.as_slice-4.result.now ≡ map operations cells =
    ap (map unrolled) c.as_slice-4.ensures ∙ c.in_ok-trees.ensures.lists ∙ ap (λ cs. map operations (all_unrolled cs)) c.as_slice-3.ensures.value in
    trees_written cells c.args.ends.items c.as_slice-4.result.now c.len.result many lists c.requires.communications

pub lengths_of-requires-clause-few : goal.lengths_of-requires-clause-few
lengths_of-requires-clause-few c =
    let cells = all_unrolled c.args.cells.items in
    let lists : map unrolled c.as_slice-4.result.now ≡ map operations cells =
    ap (map unrolled) c.as_slice-4.ensures ∙ c.in_ok-trees.ensures.lists ∙ ap (λ cs. map operations (all_unrolled cs)) c.as_slice-3.ensures.value in
    trees_few cells c.args.ends.items c.as_slice-4.result.now lists c.requires.communications

pub new-requires-clause-sequences : goal.new-requires-clause-sequences
new-requires-clause-sequences c =
    let cells = all_unrolled c.args.cells.items in
    let many : c.len.result ≡ length c.args.ends.items = search rules in
    let lists : map unrolled c.in_ok-trees.trees ≡ map operations cells =
    c.in_ok-trees.ensures.lists ∙ ap (λ cs. map operations (all_unrolled cs)) c.as_slice-3.ensures.value in
    let takes = c.in_ok-takes.ensures ∙ ap (λ cs. map (times Takes) (all_unrolled cs)) c.as_slice.ensures.value in
    let emits = c.in_ok-emits.ensures ∙ ap (λ cs. map (times Emits) (all_unrolled cs)) c.as_slice-2.ensures.value in
    let equal = trees_gathered cells c.args.ends.items c.in_ok-trees.trees c.in_ok-lengths.lengths c.in_ok-takes.takes c.in_ok-emits.emits c.len.result many lists
    (c.in_ok-lengths.ensures ∙ ap (λ ts. map (λ m. sum_by (times (Writes m)) (map unrolled ts)) (below c.len.result)) c.as_slice-4.ensures) takes emits in
    trees_sound cells c.args.ends.items _ c.requires.communications
    (ap (from_trees c.in_ok-trees.trees c.in_ok-lengths.lengths c.in_ok-takes.takes c.in_ok-emits.emits) c.from_vec-ends.ensures ∙ equal)

pub returns : goal.returns
returns c =
    let cells = all_unrolled c.args.cells.items in
    let many : c.len.result ≡ length c.args.ends.items = search rules in
    let lists : map unrolled c.in_ok-trees.trees ≡ map operations cells =
    c.in_ok-trees.ensures.lists ∙ ap (λ cs. map operations (all_unrolled cs)) c.as_slice-3.ensures.value in
    let takes = c.in_ok-takes.ensures ∙ ap (λ cs. map (times Takes) (all_unrolled cs)) c.as_slice.ensures.value in
    let emits = c.in_ok-emits.ensures ∙ ap (λ cs. map (times Emits) (all_unrolled cs)) c.as_slice-2.ensures.value in
    let equal = trees_gathered cells c.args.ends.items c.in_ok-trees.trees c.in_ok-lengths.lengths c.in_ok-takes.takes c.in_ok-emits.emits c.len.result many lists
    (c.in_ok-lengths.ensures ∙ ap (λ ts. map (λ m. sum_by (times (Writes m)) (map unrolled ts)) (below c.len.result)) c.as_slice-4.ensures) takes emits in
    c.new.ensures ∙ ap (from_trees c.in_ok-trees.trees c.in_ok-lengths.lengths c.in_ok-takes.takes c.in_ok-emits.emits) c.from_vec-ends.ensures ∙ equal
