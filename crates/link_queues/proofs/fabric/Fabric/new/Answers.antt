use Rattle.std.proofs.Common.{List, length, map, sym, subst, ap, ◌∙◌}
use Rattle.cell_code.specs.declared.image.MessageImage.{MessageImage}
use Rattle.array_model.specs.States.{opening as first_state}
use Rattle.link_queues.specs.Standing.{StandsFor}
use Rattle.link_queues.specs.Tracks.{new_way}
use Rattle.link_queues.proofs.Openings.{opened, opening_stands}
use Rattle.link_queues.proofs.fabric.Fabric.new.Goals as goal

pub invariant_of-result : goal.invariant_of-result
invariant_of-result c =
    (opened c.args.image.now c.args.cap c.requires.shaped c.requires.some_words c.requires.most_words c.in_ok-tracks.tracks.items
    c.in_ok-links.links.items
    (c.in_ok-tracks.ensures
    ∙ ap (λ (ms : List MessageImage). map (λ (m : MessageImage). new_way m.length (length m.route)) ms) c.as_slice.ensures)
    c.in_ok-links.ensures).fabric

pub returns-clause-after : goal.returns-clause-after
returns-clause-after c =
    (opened c.args.image.now c.args.cap c.requires.shaped c.requires.some_words c.requires.most_words c.in_ok-tracks.tracks.items
    c.in_ok-links.links.items
    (c.in_ok-tracks.ensures
    ∙ ap (λ (ms : List MessageImage). map (λ (m : MessageImage). new_way m.length (length m.route)) ms) c.as_slice.ensures)
    c.in_ok-links.ensures).seen

pub returns-clause-stands : goal.returns-clause-stands
returns-clause-stands c =
    subst (λ r. StandsFor r (first_state c.args.image.now)) (sym (returns-clause-after c))
    (opening_stands c.args.image.now c.args.cap)

pub returns-clause-kept : goal.returns-clause-kept
returns-clause-kept c = (invariant_of-result c).kept
