use Rattle.std.proofs.Common.{map, ap, ◌∙◌}
use Rattle.std.specs.List.{count_by}
use Rattle.std.proofs.lemmas.List.{take_all}
use Rattle.comm_sequence.specs.Labels.{is_below}
use Rattle.labelling.proofs.Firsts.{ranked_more, ranks_are_proposed}
use Rattle.labelling.specs.bodies.Ranks.{key_of}
use Rattle.labelling.proofs.ranks.ranks.Goals as goal

pub loop-key-preserved : goal.loop-key-preserved
loop-key-preserved c =
    ranked_more c.args.keys.now c.in_ok-different.different.items c.deref.result.now c.loop-key.labels.items c.push.new.self.items
    c.loop-key.key-index c.rank.result c.loop-key-test.true c.loop-key.invariant c.deref.ensures.value c.rank.ensures
    c.in_ok-push.ensures.items

pub returns : goal.returns
returns c = λ lists h.
    ranks_are_proposed lists c.args.keys.now c.in_ok-different.different.items c.loop-key.labels.items h
    (c.in_ok-different.ensures.different lists h)
    (c.loop-key.invariant
    ∙ ap (map (λ own. count_by (λ k. is_below (key_of k) (key_of own)) c.in_ok-different.different.items))
    (take_all c.loop-key.key-index c.args.keys.now c.loop-key-test.false))
