use Rattle.std.proofs.Common.{◌≡◌, map, ap, sym, subst, ◌∙◌}
use Rattle.cell_types.specs.Typed.{plain}
use Rattle.cell_types.specs.declared.program.Message.{Message}
use Rattle.comm_sequence.specs.Gathered.{gathered, AreCommunications}
use Rattle.comm_sequence.specs.Sequences.{sequences_of}
use Rattle.comm_sequence.proofs.AlikeWhere.{alike_where}
use Rattle.comm_sequence.proofs.Cells.{of_code}
use Rattle.comm_sequence.proofs.Gathered.{program_gathered, sound_communications}
use Rattle.comm_sequence.proofs.gathering.sequences.Goals as goal

pub of-requires-clause-communications : goal.of-requires-clause-communications
of-requires-clause-communications c =
    let p = plain c.args.program.now in
    let ends : c.in_ok-ends.ends.items ≡ (sequences_of p).ends =
    c.in_ok-ends.ensures ∙ ap (map (λ (m : Message). (m.from, m.to))) c.messages.ensures.messages in
    subst (λ ls. AreCommunications ls c.in_ok-ends.ends.items) (sym c.in_ok-cells.ensures.cells.1)
    (subst (AreCommunications (map of_code p.cells)) (sym ends)
    (sound_communications c.few_communications.ensures.block p c.messages.ensures.sound c.requires.cost))

pub returns-clause-sequences : goal.returns-clause-sequences
returns-clause-sequences c =
    let p = plain c.args.program.now in
    let ends : c.in_ok-ends.ends.items ≡ (sequences_of p).ends =
    c.in_ok-ends.ensures ∙ ap (map (λ (m : Message). (m.from, m.to))) c.messages.ensures.messages in (
      (alike_where p).1 c.in_ok-cells.ensures.cells.0,
      c.in_ok-of.ensures ∙ ap (λ ls. gathered ls c.in_ok-ends.ends.items) c.in_ok-cells.ensures.cells.1
          ∙ ap (gathered (map of_code p.cells)) ends ∙ program_gathered p,
    )
