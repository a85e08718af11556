use Rattle.std.proofs.Common.{◌≡◌, length, rules, tests, subst, ap, sym, ◌∙◌}
use Rattle.std.specs.List.{list_any}
use Rattle.std.proofs.lemmas.Bool.{false≢true}
use Rattle.std.proofs.lemmas.Iterator.{YieldsList-from_slice}
use Rattle.std.proofs.lemmas.Iterator.Search.{any_from_yields_List}
use Rattle.std.proofs.lemmas.List.FromFn.{length-map-range_with_len}
use Rattle.comm_sequence.specs.Labels.{IsProposal, proposed}
use Rattle.accept.specs.Labelled.{has_label}
use Rattle.accept.proofs.labels.labels_of.Goals as goal

pub returns-clause-labels : goal.returns-clause-labels
returns-clause-labels c =
    let messages = c.args.program.now.messages in
    let none : c.any.result ≡ list_any has_label messages =
    any_from_yields_List has_label _ _ c.any.result c.any.ensures.ran (YieldsList-from_slice messages cc) (λ x b q k. search (rules, tests)) in
    record {
      given = λ some. absurd (false≢true (sym c.if-any.false ∙ none ∙ some));
      proposed = λ _.
          subst (λ s. IsProposal s.lists (length messages) c.in_ok-propose.field-0.items) c.requires.seqs
          (subst (λ ms. IsProposal c.args.seqs.now.lists (length ms) c.in_ok-propose.field-0.items) c.messages-messages.ensures.messages c.in_ok-propose.ensures);
    }

pub returns-clause-each : goal.returns-clause-each
returns-clause-each c =
    let count = length c.messages-messages.result.now in
    ap length c.in_ok-propose.ensures.labels_are ∙ length-map-range_with_len (proposed c.in_ok-propose.ensures.must count) 0 count
    ∙ ap length c.messages-messages.ensures.messages
