use Rattle.std.proofs.Common.{length, arith}
use Rattle.std.proofs.lemmas.List.{length-map}
use Rattle.cell_types.specs.Groups.{lengths_of, routes_of}
use Rattle.cell_types.specs.declared.program.Message.{Message}
use Rattle.comm_sequence.specs.Sequences.{sequences_of}
use Rattle.accept.proofs.need_laws.proposed_labels_need_least.Goals as goal

pub returns : goal.returns
returns c = λ program proposed labels link is consistent.
    let count = length-map program.messages (λ (m : Message). m.route) in
    c.finer_labels_need_no_more.ensures (routes_of program) proposed labels (lengths_of program) link
    (λ a b la lb.
    c.proposed_labels_are_finest.ensures (sequences_of program).lists (length program.messages) proposed labels a b
    (omega (arith, la, count)) (omega (arith, lb, count)) is consistent)
