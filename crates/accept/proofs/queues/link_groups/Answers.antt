use Rattle.std.proofs.Common.{◌≡◌, ℕ, List, length, ap, subst, ◌∙◌}
use Rattle.std.specs.Prelude.{IfOk}
use Rattle.std.proofs.lemmas.List.FromFn.{length-map-range_with_len}
use Rattle.cell_types.specs.Code.{ProgramCode}
use Rattle.cell_types.specs.Communications.{length_of}
use Rattle.cell_types.specs.Groups.{lengths_of}
use Rattle.cell_types.specs.Typed.{plain}
use Rattle.comm_sequence.specs.Sequences.{Sequences, sequences_of}
use Rattle.queue_plan.specs.Grouping.{all_groups}
use Rattle.accept.proofs.queues.link_groups.Goals as goal

-- the lengths of the sequences of a program are those of its messages
same_lengths : (p : ProgramCode) (s : Sequences) (lengths : List ℕ) → lengths ≡ s.lengths → s ≡ sequences_of p → lengths ≡ lengths_of p
same_lengths p s lengths all of = all ∙ ap (λ (t : Sequences). t.lengths) of

pub group-requires-clause-lengths : goal.group-requires-clause-lengths
group-requires-clause-lengths c =
    let p = plain c.args.program.now in
    ap length
    (same_lengths p c.args.seqs.now c.deref.result.now (c.deref.ensures.value ∙ c.in_ok-lengths.ensures) c.requires.seqs)
    ∙ length-map-range_with_len (length_of p) 0 (length p.messages)

pub returns-clause-groups : goal.returns-clause-groups
returns-clause-groups c =
    let p = plain c.args.program.now in
    subst (λ ls. IfOk c.group.result (λ groups. groups ≡ all_groups p c.args.labels.now ls))
    (same_lengths p c.args.seqs.now c.deref.result.now (c.deref.ensures.value ∙ c.in_ok-lengths.ensures) c.requires.seqs)
    c.group.ensures.groups
