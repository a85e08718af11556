use Rattle.std.proofs.Common.{ap, ◌∙◌}
use Rattle.link_slots.specs.Slots.{word_count}
use Rattle.link_queues.specs.Tables.{queues}
use Rattle.link_queues.specs.declared.fabric.Fabric.TheInside.{Inside}
use Rattle.link_queues.specs.declared.link.Link.{Link}
use Rattle.link_queues.proofs.Opened.{link_seen, seen}
use Rattle.link_queues.proofs.Words.{words_are, words_stand}
use Rattle.link_queues.proofs.fabric.Fabric.held.Goals as goal

pub returns-clause-words : goal.returns-clause-words
returns-clause-words c =
    c.words.ensures
    ∙ ap (λ (x : Link). word_count x.slots)
    (link_seen c.self.inside.image.now c.self.inside.cap c.self.inside.tables c.args.self.now c.self.view_is c.self.invariant
    _ (ap (λ (u : Inside). u.tables.links) c.self-inside.view_is) c.args.link c.from.result c.index.result.now c.requires c.from.ensures c.index.ensures)
    ∙ words_are (queues c.args.self.now) (seen _ _ _ c.args.self.now c.self.view_is c.self.invariant).kept c.args.link

pub returns-clause-stands : goal.returns-clause-stands
returns-clause-stands c =
    λ s st.
    returns-clause-words c
    ∙ words_stand (queues c.args.self.now) (seen _ _ _ c.args.self.now c.self.view_is c.self.invariant).kept c.args.link s st
